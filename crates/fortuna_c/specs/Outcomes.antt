-- What a call leaves with C: the outcome of its step.
-- Assumes nothing.
use Rattle.std.specs.Prelude.{◌≡◌, List, ℕ}
use Rattle.pools.specs.Calls.{Call, Outcome}
use Rattle.pools.specs.declared.Fortuna.{Fortuna}
use Rattle.quotas.specs.declared.Quota.{Quota}
use Rattle.quotas.specs.Entries.{within, taking, entry_step}
use Rattle.quotas.specs.Left.{left_by}
use Rattle.fortuna_c.specs.declared.slot_draws.FortunaDraw.{FortunaDraw}
use Rattle.fortuna_c.specs.declared.station.FortunaAnswer.{FortunaAnswer}

-- its number, and the next state
abbrev pub Leaves : Outcome Fortuna → ℕ → Fortuna → Type 0
Leaves o n s = (n ≡ o.number) × (s ≡ o.effect.next)

-- also the pools emptied, and what the lent buffer then holds
abbrev pub LeavesBytes : Outcome Fortuna → FortunaAnswer → Fortuna → List ℕ → Type 0
LeavesBytes o r s buffer = Leaves o r.number s × (r.emptied ≡ o.effect.emptied) × (buffer ≡ o.effect.buffer)

-- or the pools emptied and the value drawn
abbrev pub LeavesValue : Outcome Fortuna → FortunaDraw → Fortuna → Type 0
LeavesValue o r s = Leaves o r.number s × (r.emptied ≡ o.effect.emptied) × (r.value ≡ o.value)

-- ---- a call c on the state s with a list of the records rs: the same of its step with the list, and the list that it leaves

abbrev pub MeteredLeaves : Fortuna → List Quota → Call → ℕ → Fortuna → List Quota → Type 0
MeteredLeaves s rs c n next left = Leaves (entry_step s (taking (within rs) c)) n next × (left ≡ left_by s rs c)

abbrev pub MeteredLeavesBytes : Fortuna → List Quota → Call → FortunaAnswer → Fortuna → List Quota → List ℕ → Type 0
MeteredLeavesBytes s rs c r next left buffer = LeavesBytes (entry_step s (taking (within rs) c)) r next buffer × (left ≡ left_by s rs c)

abbrev pub MeteredLeavesValue : Fortuna → List Quota → Call → FortunaDraw → Fortuna → List Quota → Type 0
MeteredLeavesValue s rs c r next left = LeavesValue (entry_step s (taking (within rs) c)) r next × (left ≡ left_by s rs c)
