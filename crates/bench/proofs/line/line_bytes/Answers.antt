use mathlib.Core.Path.{sym, ap, ◌∙◌}
use mathlib.Core.Bool.{not}
use borrow.Author.Rules.{rules}
use borrow.Author.Tests.{not-false}
use Rattle.bench.proofs.Texts.{readable-short}
use Rattle.bench.proofs.line.line_bytes.Goals as goal

pub decode-requires : goal.decode-requires
decode-requires c =
    let short = readable-short c.args.text.now (sym c.is_readable.ensures ∙ not-false _ (ap not c.if-not-is_readable.false)) in
    search (rules, short)

pub slice_bounds-result-end : goal.slice_bounds-result-end
slice_bounds-result-end c =
    let short = readable-short c.args.text.now (sym c.is_readable.ensures ∙ not-false _ (ap not c.if-not-is_readable.false)) in
    search (rules, short)
