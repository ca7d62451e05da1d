-- What the calls of the keyed scheduler with a list promise (02 (x) and (xiv)): the step of the call with its list, and the list that it
-- leaves. A request and a seed call are lent the list to look at, since they change no record.
-- Assumes nothing.
use denote.Ref.{MutBor}
use Rattle.std.specs.Prelude.{◌≡◌, List, ℕ}
use Rattle.std.specs.Fn.{Once}
use Rattle.pools.specs.declared.Outcome.{Outcome}
use Rattle.pools.specs.Promises.{number, Gives, GivesBytes}
use Rattle.quotas.specs.declared.Quota.{Quota}
use Rattle.quotas.specs.Entries.{within}
use Rattle.keyed.specs.declared.Keyed.{Keyed}
use Rattle.keyed.specs.Calls.{Call}
use Rattle.keyed.specs.Entries.{taking, entry_step, left_by}
use Rattle.metered.specs.Metering.{gate_number}

-- what a call c on the state s returns that takes the records rs: the outcome of its step, and in the list what it leaves
abbrev pub KeyedMeters : Keyed → List Quota → Call → Outcome Keyed → List Quota → Type 0
KeyedMeters s rs c r left = Gives (entry_step s (taking (within rs) c)) r × (left ≡ left_by s rs c)

-- of a call that only looks at the list: what the lent buffer then holds, and that the list is what the call leaves
abbrev pub KeyedMetersBytes : Keyed → List Quota → Call → Outcome Keyed → List ℕ → Type 0
KeyedMetersBytes s rs c r buffer = GivesBytes (entry_step s (taking (within rs) c)) r buffer × (rs ≡ left_by s rs c)

-- ---- the private part: a call that is handed to the gate

-- f called on the state s, and lent x, may give r and leave x' there
pub record MayGive {F R : Type 0} (g : Once F (Keyed × (MutBor (List ℕ) × Unit {0})) (R × (MutBor (List ℕ) × Unit {0}))) (f : F) (s : Keyed) (x : List ℕ)
    (r : R) (x' : List ℕ) : Type 0 where
  pub shown : MutBor (List ℕ)
  pub shows : shown.now ≡ x
  pub left : MutBor (List ℕ)
  pub met : g.post f (s, (shown, tt)) (r, (left, tt))
  pub leaves : left.now ≡ x'

-- on the state s and the lent bytes, with a list of the fault: where the gate is open, Given says what the call gives and leaves; else it is
-- refused by the gate's number, and all is as it was
abbrev pub BehindGate : ℕ → ℕ → Keyed → List ℕ → (Outcome Keyed → List ℕ → Type 0) → Outcome Keyed → List ℕ → Type 0
BehindGate fault input s before Given r after =
    (0 ≡ gate_number fault input → Given r after)
    × ((0 ≡ gate_number fault input → ⊥) → (number r.answer ≡ gate_number fault input) × (r.emptied ≡ 0) × (r.next ≡ s) × (after ≡ before))
