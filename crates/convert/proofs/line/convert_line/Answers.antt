use mathlib.Core.Path.{◌≡◌, refl, sym, ap, ◌∙◌}
use borrow.Author.Rules.{rules}
use Rattle.std.specs.Prelude.{Ok, Err}
use Rattle.convert.specs.Texts.{action_of, widened, narrowed, carried_out, action_number}
use Rattle.convert.proofs.Writes.{line_taken, line-left}
use Rattle.convert.proofs.line.convert_line.Goals as goal

pub returns-in_err-action_of : goal.returns-in_err-action_of
returns-in_err-action_of c =
    let a = c.args in
    let action = sym (c.action_of.ensures ∙ ap (action_of _) c.frame_of_text.ensures) ∙ c.in_err-action_of.was in
    let same : c.from_residual.result ≡ Err c.in_err-action_of.field-0.0 = search rules in
    rw same (line-left a.wide a.ended a.text.now a.out.now _ action)

pub returns-in-Keep : goal.returns-in-Keep
unfolding carried_out action_number
returns-in-Keep c =
    let a = c.args in
    let action = sym (c.action_of.ensures ∙ ap (action_of _) c.frame_of_text.ensures) ∙ c.in_ok-action_of.was ∙ ap Ok c.in-Keep.is in
    line_taken a.wide a.ended a.text.now _ a.out.now _ _ _ action refl refl c.put.ensures

pub returns-in-Widen : goal.returns-in-Widen
unfolding carried_out action_number widened
returns-in-Widen c =
    let a = c.args in
    let action = sym (c.action_of.ensures ∙ ap (action_of _) c.frame_of_text.ensures) ∙ c.in_ok-action_of.was ∙ ap Ok c.in-Widen.is in
    line_taken a.wide a.ended a.text.now _ a.out.now _ _ _ action refl refl (rw c.after.ensures at c.put-in-Widen.ensures)

pub returns-in-Narrow : goal.returns-in-Narrow
unfolding carried_out action_number narrowed
returns-in-Narrow c =
    let a = c.args in
    let action = sym (c.action_of.ensures ∙ ap (action_of _) c.frame_of_text.ensures) ∙ c.in_ok-action_of.was ∙ ap Ok c.in-Narrow.is in
    line_taken a.wide a.ended a.text.now _ a.out.now _ _ _ action refl refl (rw c.after-in-Narrow.ensures at c.put-in-Narrow.ensures)
