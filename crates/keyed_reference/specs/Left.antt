-- What a call of the keyed scheduler leaves of its list of quotas (02 (x) and (xiv)), and which numbers refuse it, in every state and with every
-- list.
-- Assumes nothing.
use Rattle.std.specs.Prelude.{◌≡◌, false, cond, ◌≢◌, List, [], ◌∷◌, map, ℕ, ◌+◌, ◌<◌, eqb, length}
use Rattle.laws.specs.Lists.{count_of}
use Rattle.quotas.specs.declared.Quota.{Quota}
use Rattle.quotas.specs.Records.{malformed_quotas}
use Rattle.quotas.specs.Entries.{Quotas, without, within}
use Rattle.keyed.specs.declared.Keyed.{Keyed}
use Rattle.keyed.specs.Calls.{Call, event, request, update, write, step}
use Rattle.keyed.specs.Entries.{taking, entry_number, entry_step, left_by}
use Rattle.keyed_reference.specs.Provenance.{NoEvent}

-- a call without a list is as `step` says
abbrev pub WithoutList : Type 0
WithoutList = (s : Keyed) (c : Call) → entry_step s (taking without c) ≡ step s c

pub record LeftLaw (s : Keyed) (rs : List Quota) : Type 0 where
  -- a refused call changes no record
  pub refused : (c : Call) → entry_number s (taking (within rs) c) ≢ 0 → left_by s rs c ≡ rs
  -- an emptying leaves all spent 0, its own event's bytes included; sources and allowances stay
  pub emptied :
      (c : Call) → 0 < (entry_step s (taking (within rs) c)).effect.emptied →
      left_by s rs c ≡ map (λ (r : Quota). record { source = r.source; allowance = r.allowance; spent = 0 }) rs
  -- an accepted event that empties no pool adds 3 and its data's length to what its source has spent, and changes no other record
  pub event :
      (source : ℕ) (content : List ℕ) → entry_number s (taking (within rs) (event source content)) ≡ 0 →
      (entry_step s (taking (within rs) (event source content))).effect.emptied ≡ 0 →
      left_by s rs (event source content)
      ≡ map
      (λ (r : Quota). record {
        source = r.source;
        allowance = r.allowance;
        spent = r.spent + cond (eqb r.source source) (3 + length content) 0;
      })
      rs
  -- a call that is no event changes no record
  pub others : (c : Call) → NoEvent (taking (within rs) c) → left_by s rs c ≡ rs
  -- a list that 37 does not refuse is returned as such a list
  pub formed : (c : Call) → malformed_quotas rs ≡ false → malformed_quotas (left_by s rs c) ≡ false

-- the numbers that a call's check can give: 0, and those that refuse it, listed in the order of the check, which OrderRow and ListOrderRow say;
-- 12 is not among them
unfoldable pub entry_numbers : Quotas → Call → List ℕ
entry_numbers without (event source content) = 0 ∷ 11 ∷ 13 ∷ 21 ∷ 22 ∷ 45 ∷ 24 ∷ []
entry_numbers without (request buffer) = 0 ∷ 14 ∷ 21 ∷ 23 ∷ 24 ∷ []
entry_numbers without (update seed) = 0 ∷ 15 ∷ 36 ∷ 21 ∷ 24 ∷ []
entry_numbers without (write seed) = 0 ∷ 15 ∷ 21 ∷ 23 ∷ 24 ∷ []
entry_numbers (within rs) (event source content) = 0 ∷ 11 ∷ 13 ∷ 37 ∷ 38 ∷ 39 ∷ 21 ∷ 22 ∷ 45 ∷ 24 ∷ []
entry_numbers (within rs) (request buffer) = 0 ∷ 14 ∷ 37 ∷ 21 ∷ 23 ∷ 24 ∷ []
entry_numbers (within rs) (update seed) = 0 ∷ 15 ∷ 36 ∷ 37 ∷ 21 ∷ 24 ∷ []
entry_numbers (within rs) (write seed) = 0 ∷ 15 ∷ 37 ∷ 21 ∷ 23 ∷ 24 ∷ []

-- no call is refused by another number
abbrev pub NumbersLaw : Type 0
NumbersLaw = (s : Keyed) (q : Quotas) (c : Call) → count_of (entry_number s (taking q c)) (entry_numbers q c) ≡ 1
