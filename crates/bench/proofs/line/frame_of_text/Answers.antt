use mathlib.Core.Path.{sym, ◌∙◌}
use Rattle.bench.proofs.Texts.{unreadable-frame, readable-frame}
use Rattle.bench.proofs.line.frame_of_text.Goals as goal

pub returns-in_err-line_bytes : goal.returns-in_err-line_bytes
returns-in_err-line_bytes c = c.from_residual.ensures ∙ sym (unreadable-frame c.args.text.now c.in_err-line_bytes.ensures.none)

pub returns : goal.returns
returns c =
    let some = c.in_ok-line_bytes.ensures.some in
    (rw some.1 at c.parse.ensures) ∙ sym (readable-frame c.args.text.now some.0)
