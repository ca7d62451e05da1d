use Rattle.std.proofs.Common.{refl, rules}
use mathlib.Core.Logic.{inl, inr}
use Rattle.pools.specs.Calls.{update, input_number, input_buffer}
use Rattle.metered.proofs.PlainCalls.{update-plain, meters-bytes}
use Rattle.metered.proofs.calls.update_seed.Goals as goal
use Rattle.metered.proofs.calls.update_seed.Goals.{in-Ok, in-Err}

pub returns : goal.returns
unfolding input_number input_buffer
returns c =
    let a = c.args in
    let j = c.match-gate in
    meters-bytes a.state a.list.now (update a.clock a.seed.now) (update-plain a.clock a.seed.now) j.outcome _ j.seed _ refl
    (elim j.branch [
      | in-Err w ↦ rw (w.outcome-is, w.seed-is) (inr (w.in-Err.refusal, search rules, w.refused-outcome.ensures, refl))
      | in-Ok w ↦ rw (w.outcome-is, w.seed-is) (inl (w.update_seed-outcome.ensures, search rules))
    ])
    c.clear_after.ensures
