use Rattle.std.proofs.Common.{refl, rules}
use mathlib.Core.Logic.{inl, inr}
use Rattle.pools.specs.Calls.{shuffle, input_number, input_buffer}
use Rattle.metered.proofs.PlainCalls.{shuffle-plain, meters-bytes}
use Rattle.metered.proofs.calls.shuffle.Goals as goal
use Rattle.metered.proofs.calls.shuffle.Goals.{in-Ok, in-Err}

pub returns : goal.returns
unfolding input_number input_buffer
returns c =
    let a = c.args in
    let j = c.match-gate in
    meters-bytes a.state a.list.now (shuffle a.clock a.numbers.now) (shuffle-plain a.clock a.numbers.now) j.outcome _ j.numbers _ refl
    (elim j.branch [
      | in-Err w ↦ rw (w.outcome-is, w.numbers-is) (inr (w.in-Err.refusal, search rules, w.refused-outcome.ensures, refl))
      | in-Ok w ↦ rw (w.outcome-is, w.numbers-is) (inl (w.shuffle-outcome.ensures, search rules))
    ])
    c.clear_after.ensures
