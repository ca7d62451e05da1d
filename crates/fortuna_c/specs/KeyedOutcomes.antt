-- What a call of the keyed scheduler leaves with C: the outcome of its step.
-- Assumes nothing.
use Rattle.std.specs.Prelude.{◌≡◌, List, ℕ}
use Rattle.pools.specs.Calls.{Outcome}
use Rattle.quotas.specs.declared.Quota.{Quota}
use Rattle.quotas.specs.Entries.{within}
use Rattle.keyed.specs.declared.Keyed.{Keyed}
use Rattle.keyed.specs.Calls.{Call}
use Rattle.keyed.specs.Entries.{taking, entry_step, left_by}
use Rattle.fortuna_c.specs.declared.station.FortunaAnswer.{FortunaAnswer}

-- its number, the pools emptied, and the next state
abbrev pub KeyedLeaves : Outcome Keyed → FortunaAnswer → Keyed → Type 0
KeyedLeaves o r s = (r.number ≡ o.number) × (r.emptied ≡ o.effect.emptied) × (s ≡ o.effect.next)

-- also what the lent buffer then holds
abbrev pub KeyedLeavesBytes : Outcome Keyed → FortunaAnswer → Keyed → List ℕ → Type 0
KeyedLeavesBytes o r s buffer = KeyedLeaves o r s × (buffer ≡ o.effect.buffer)

-- ---- a call c on the state s with a list of the records rs: the same of its step with the list, and the list that it leaves

abbrev pub KeyedMeteredLeaves : Keyed → List Quota → Call → FortunaAnswer → Keyed → List Quota → Type 0
KeyedMeteredLeaves s rs c r next left = KeyedLeaves (entry_step s (taking (within rs) c)) r next × (left ≡ left_by s rs c)

-- of a call that only looks at the list: the list is what the call leaves
abbrev pub KeyedMeteredLeavesBytes : Keyed → List Quota → Call → FortunaAnswer → Keyed → List ℕ → Type 0
KeyedMeteredLeavesBytes s rs c r next buffer =
    KeyedLeavesBytes (entry_step s (taking (within rs) c)) r next buffer × (rs ≡ left_by s rs c)
