-- The numbers of an event with its list, of either scheduler, over the tests that give them.
-- Assumes nothing.
use mathlib.Core.Path.{◌≡◌, refl, ap}
use mathlib.Core.Bool.{Bool, true, false, cond, not, ◌||◌}
use mathlib.Core.List.{List}
use Prim.Native.Nat.{ℕ, ◌+◌}
use native.Mathlib.Omega.{arith}
use lib.Dec.{eqb, ltb}
use Rattle.laws.specs.Refusals.{refuse}
use Rattle.laws.proofs.Cases.{neither}
use Rattle.laws.proofs.Refusals.{passed}
use Rattle.pools.specs.Events.{max_data, gain}
use Rattle.pools.specs.Refusals.{and_then}
use Rattle.pools.proofs.Chains.{both-passed}
use Rattle.quotas.specs.declared.Quota.{Quota}
use Rattle.quotas.specs.Records.{quota_of, is_listed, malformed_quotas, quotas_number, event_quotas_number}
use Rattle.quotas.specs.Charges.{comes_first, charge_number}
use Rattle.metered.specs.Metering.{known_of, cost_of}
use borrow.Author.Tests.{eqb-false}

-- an event's input number and its list's
abbrev pub input_of : Bool → Bool → Bool → ℕ
input_of a b d = refuse a 11 (refuse b 12 (refuse d 13 0))

abbrev list_of : Bool → Bool → Bool → ℕ
list_of g w v = refuse g 37 (refuse w 38 (refuse v 39 0))

-- a number by the state: 37 comes before it, and so do 38 and 39
pub record ByState (n : ℕ) : Type 0 where
  pub behind : known_of n 37 ≡ 37
  pub late : comes_first n ≡ false

-- what is charged by the number without 38 and 39 gets the number with the list; the cost is right unless the data are too long
numbers :
    (a b d : Bool) (n : ℕ) (g w v v' : Bool) → ByState n → (d ≡ false → v' ≡ v) →
    let known = known_of (and_then (input_of a b d) n) (refuse g 37 0) in
    cond (comes_first known) known (refuse w 38 (refuse v' 39 known)) ≡ and_then (input_of a b d) (and_then (list_of g w v) n)
unfolding comes_first known_of and_then
numbers true b d n true w v v' p h = refl
numbers true b d n false w v v' p h = refl
numbers false true d n true w v v' p h = refl
numbers false true d n false w v v' p h = refl
numbers false false true n true w v v' p h = refl
numbers false false true n false w v v' p h = refl
numbers false false false n true w v v' p h = rw p.behind
numbers false false false n false true v v' p h = rw p.late
numbers false false false n false false true v' p h = rw (p.late, h refl)
numbers false false false n false false false v' p h = rw (p.late, h refl)

-- a number that the list does not give is the event's own
abbrev pub Own : ℕ → ℕ → Type 0
Own own n = eqb n 37 ≡ false → eqb n 38 ≡ false → eqb n 39 ≡ false → own ≡ n

own-else : (a b d : Bool) (n : ℕ) (g w v : Bool) → Own (and_then (input_of a b d) n) (and_then (input_of a b d) (and_then (list_of g w v) n))
unfolding and_then
own-else true b d n g w v h k l = refl
own-else false true d n g w v h k l = refl
own-else false false true n g w v h k l = refl
own-else false false false n true w v h k l = absurd (eqb-false 37 37 h refl)
own-else false false false n false true v h k l = absurd (eqb-false 38 38 k refl)
own-else false false false n false false true h k l = absurd (eqb-false 39 39 l refl)
own-else false false false n false false false h k l = refl

-- ---- an event of n bytes of data; a is the test for 11, b for 12, and m its state's number

-- 13
abbrev pub long : ℕ → Bool
long n = eqb n 0 || ltb max_data n

-- data of at most 32 bytes cost what the pool gains
cost-is : (n : ℕ) → long n ≡ false → cost_of n ≡ gain n
unfolding cost_of
cost-is n h = rw (neither (eqb n 0) (ltb max_data n) h).1

module _ (rs : List Quota) (source n : ℕ) (a b : Bool) (m : ℕ) where
  -- its number without a list, and with it
  abbrev pub own_number : ℕ
  own_number = and_then (input_of a b (long n)) m

  abbrev pub listed_number : ℕ
  listed_number = and_then (input_of a b (long n)) (and_then (event_quotas_number rs source (gain n)) m)

  abbrev over : ℕ → Bool
  over cost = ltb (quota_of rs source).allowance ((quota_of rs source).spent + cost)

  pub charge-number : ByState m → charge_number rs source (cost_of n) (known_of own_number (quotas_number rs)) ≡ listed_number
  unfolding charge_number quotas_number event_quotas_number
  charge-number p =
      numbers a b (long n) m (malformed_quotas rs) (not (is_listed rs source)) (over (gain n)) (over (cost_of n)) p (λ h. ap over (cost-is n h))

  pub own-or-list : Own own_number listed_number
  unfolding event_quotas_number
  own-or-list = own-else a b (long n) m (malformed_quotas rs) (not (is_listed rs source)) (over (gain n))

  -- an accepted event has passed all three
  pub listed-passed : listed_number ≡ 0 → (own_number ≡ 0) × (cost_of n ≡ gain n)
  unfolding and_then
  listed-passed e =
      let i = both-passed (input_of a b (long n)) (and_then (event_quotas_number rs source (gain n)) m) e in
      let j = both-passed (event_quotas_number rs source (gain n)) m i.1 in
      let x = passed a 11 (refuse b 12 (refuse (long n) 13 0)) (omega arith) i.0 in
      let y = passed b 12 (refuse (long n) 13 0) (omega arith) x.1 in
      (rw i.0 j.1, cost-is n (passed (long n) 13 0 (omega arith) y.1).0)
