use Rattle.std.proofs.Common.{refl, rules}
use mathlib.Core.Logic.{inl, inr}
use Rattle.pools.specs.Calls.{request, input_number, input_buffer}
use Rattle.metered.proofs.PlainCalls.{request-plain, meters-bytes}
use Rattle.metered.proofs.calls.random_data.Goals as goal
use Rattle.metered.proofs.calls.random_data.Goals.{in-Ok, in-Err}

pub returns : goal.returns
unfolding input_number input_buffer
returns c =
    let a = c.args in
    let j = c.match-gate in
    meters-bytes a.state a.list.now (request a.clock a.out.now) (request-plain a.clock a.out.now) j.outcome _ j.out _ refl
    (elim j.branch [
      | in-Err w ↦ rw (w.outcome-is, w.out-is) (inr (w.in-Err.refusal, search rules, w.refused-outcome.ensures, refl))
      | in-Ok w ↦ rw (w.outcome-is, w.out-is) (inl (w.random_data-outcome.ensures, search rules))
    ])
    c.clear_after.ensures
