-- What the calls with a list promise: the step of the call with its list, and the list that it leaves.
-- Assumes nothing.
use Rattle.std.specs.Prelude.{◌≡◌, cond, List, ℕ, eqb, ltb}
use Rattle.pools.specs.declared.Fortuna.{Fortuna}
use Rattle.pools.specs.declared.Gain.{Gain}
use Rattle.pools.specs.declared.Outcome.{Outcome}
use Rattle.pools.specs.Events.{max_data, gain}
use Rattle.pools.specs.Refusals.{and_then}
use Rattle.pools.specs.Calls.{Call, event}
use Rattle.pools.specs.Promises.{Gives, GivesBytes, GivesValue, Gains}
use Rattle.draws.specs.declared.draw.Draw.{Draw}
use Rattle.quotas.specs.declared.Quota.{Quota}
use Rattle.quotas.specs.Entries.{within, taking, entry_step}
use Rattle.quotas.specs.Left.{left_by}

-- what a call c on the state s returns that takes the records rs: the outcome of its step, and in the list what it leaves
abbrev pub Meters : Fortuna → List Quota → Call → Outcome Fortuna → List Quota → Type 0
Meters s rs c r left = Gives (entry_step s (taking (within rs) c)) r × (left ≡ left_by s rs c)

-- also what the lent buffer then holds
abbrev pub MetersBytes : Fortuna → List Quota → Call → Outcome Fortuna → List Quota → List ℕ → Type 0
MetersBytes s rs c r left buffer = GivesBytes (entry_step s (taking (within rs) c)) r buffer × (left ≡ left_by s rs c)

-- or the value drawn
abbrev pub MetersValue : Fortuna → List Quota → Call → Draw → List Quota → Type 0
MetersValue s rs c r left = GivesValue (entry_step s (taking (within rs) c)) r.answer r.emptied r.next × (left ≡ left_by s rs c)

-- or what an event comes to
abbrev pub MetersGain : Fortuna → List Quota → ℕ → ℕ → List ℕ → Gain → List Quota → Type 0
MetersGain s rs source pool content g left =
    Gains (entry_step s (taking (within rs) (event source pool content))) s pool g × (left ≡ left_by s rs (event source pool content))

-- ---- the private parts, for a call of either scheduler

-- the number that refuses a call that is no event because its list has the fault: its own input number, or 37
unfoldable pub gate_number : ℕ → ℕ → ℕ
gate_number fault input = cond (eqb fault 0) 0 (and_then input 37)

-- an event's number without 38 and 39, from its own without a list and the list's fault
unfoldable pub known_of : ℕ → ℕ → ℕ
known_of own fault = cond (eqb fault 0) own (cond (eqb own 0) fault (cond (ltb own 21) own fault))

-- what it costs
unfoldable pub cost_of : ℕ → ℕ
cost_of n = cond (ltb max_data n) 0 (gain n)
