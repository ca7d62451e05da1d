use Rattle.std.proofs.Common.{◌≡◌, sym, ◌∙◌, rules, arith}
use Rattle.pools.specs.Promises.{code, code-above-0, number}
use Rattle.keyed.specs.State.{counter_of}
use Rattle.keyed.proofs.Acceptance.{by_step, by_event}
use Rattle.keyed.proofs.Keyed.event_answer.Goals as goal

pub returns-in_err-event_answer : goal.returns-in_err-event_answer
returns-in_err-event_answer c =
    let refusal = c.in_err-event_answer.field-0.0 in
    let told : number c.from_residual.result ≡ code refusal = search rules in
    let given = c.in_err-event_answer.ensures in
    let above = code-above-0 refusal in
    rw (← c.is_malformed.ensures) (told ∙ given ∙ sym (by_event _ _ _ _ _ _ (λ z. omega (arith, above, given, z))))

pub returns : goal.returns
unfolding counter_of
returns c = rw (← c.is_malformed.ensures) (c.step_answer.ensures ∙ sym (by_step _ _ _ _ _ _ (sym c.in_ok-event_answer.ensures)))
