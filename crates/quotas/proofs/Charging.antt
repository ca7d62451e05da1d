-- What an event comes to whose source has a record, and one whose source has none.
-- Assumes nothing.
use mathlib.Core.Path.{◌≡◌, refl, sym, ap, subst, ◌∙◌}
use Prim.Native.Nat.{ℕ, zero, suc, ◌+◌, ◌≤◌, ◌<◌}
use mathlib.Core.Bool.{Bool, true, false, not, cond, ◌&&◌, ◌||◌, true≢false}
use mathlib.Core.List.{List, [], ◌∷◌}
use lib.Dec.{eqb, ltb, eqb-suc-zero}
use lib.ListN.{length, get_or, set}
use borrow.Author.Tests.{eqb-true}
use Rattle.std.proofs.Common.{Result, Ok, Err, MatchResult}
use Rattle.laws.specs.Refusals.{refuse}
use Rattle.laws.proofs.Cases.{by-test}
use Rattle.quotas.specs.declared.Quota.{Quota}
use Rattle.quotas.specs.Records.{no_record, place_of, place_from, is_listed, quota_of, charged_by, charged}
use Rattle.quotas.specs.Charges.{comes_first, charge_number, charge_list, judged, unlisted_of}
use Rattle.quotas.proofs.Lists.{quota-here, quota-later, charged-here, charged-later}
use Rattle.quotas.proofs.Places.{place-from-0, place_here, place-later, listed-place, unlisted-place}

charged-empty : (x cost : ℕ) (r : Quota) (i : ℕ) → charged [] x cost ≡ set [] i r
unfolding charged
charged-empty x cost r i = refl

charged-set : (rs : List Quota) (x cost : ℕ) → charged rs x cost ≡ set rs (place_of rs x) (charged_by (quota_of rs x) cost)
charged-set [] x cost = charged-empty x cost (charged_by (quota_of [] x) cost) (place_of [] x)
charged-set (r ∷ rs) x cost =
    by-test (eqb r.source x) _
    (λ e. rw (charged-here r rs x cost e, place_here r rs x e, quota-here r rs x e))
    (λ e. rw (charged-later r rs x cost e, place-later r rs x e, quota-later r rs x e) (ap (λ (t : List Quota). r ∷ t) (charged-set rs x cost)))

quota-at : (rs : List Quota) (x : ℕ) → quota_of rs x ≡ get_or rs (place_of rs x) no_record
unfolding quota_of
quota-at rs x = refl

-- what the verdict on an event of the source x says of the list, whose record of x stands at r
abbrev pub Settles : List Quota → ℕ → ℕ → ℕ → ℕ → Result Quota ℕ → Type 0
Settles rs x cost number r v =
    MatchResult v
    (λ q. (0 ≡ charge_number rs x cost number) × (set rs r q ≡ charge_list rs x cost number))
    (λ n. (n ≡ charge_number rs x cost number) × (rs ≡ charge_list rs x cost number))

module _ (rs : List Quota) (x cost number : ℕ) where
  charged-case :
      (t u z : Bool) → (t ≡ true → eqb number 0 ≡ false) → z ≡ eqb number 0 →
      let n = cond t number (refuse u 39 number) in
      let v : Result Quota ℕ = cond t (Err number) (cond u (Err 39) (cond z (Ok (charged_by (quota_of rs x) cost)) (Err number))) in
      MatchResult v
      (λ q. (0 ≡ n) × (set rs (place_of rs x) q ≡ cond (eqb n 0) (charged rs x cost) rs))
      (λ m. (m ≡ n) × (rs ≡ cond (eqb n 0) (charged rs x cost) rs))
  charged-case true u z h k = (refl, rw (h refl))
  charged-case false true z h k = (refl, refl)
  charged-case false false true h k = (sym (eqb-true number 0 (sym k)), rw (sym k) (sym (charged-set rs x cost)))
  charged-case false false false h k = (refl, rw (sym k))

  first-not-0 : comes_first number ≡ true → eqb number 0 ≡ false
  unfolding comes_first
  first-not-0 h = go number h
    where
      go : (n : ℕ) → (eqb n 37 || not (eqb n 0) && ltb n 21) ≡ true → eqb n 0 ≡ false
      go zero k = absurd (true≢false (sym k))
      go (suc n) k = eqb-suc-zero n

  charge-is : is_listed rs x ≡ true → Settles rs x cost number (place_of rs x) (judged (quota_of rs x) cost number)
  unfolding charge_list charge_number judged
  charge-is h = rw h (charged-case (comes_first number) (ltb (quota_of rs x).allowance ((quota_of rs x).spent + cost)) (eqb number 0) first-not-0 refl)

  pub charge-listed :
      (r : ℕ) (v : Result Quota ℕ) → r ≡ place_from rs x 0 → r < length rs → v ≡ judged (get_or rs r no_record) cost number →
      Settles rs x cost number r v
  charge-listed r v e l is =
      let p : r ≡ place_of rs x = e ∙ place-from-0 rs x in
      let h : is_listed rs x ≡ true = listed-place rs x (subst (λ k. k < length rs) p l) in
      let w : v ≡ judged (quota_of rs x) cost number = rw (quota-at rs x, ← p) is in
      rw (p, w) (charge-is h)

  unlisted-case : (t : Bool) → (t ≡ true → eqb number 0 ≡ false) → rs ≡ cond (eqb (cond t number 38) 0) (charged rs x cost) rs
  unlisted-case true h = rw (h refl)
  unlisted-case false h = refl

  unlisted-is : is_listed rs x ≡ false → (unlisted_of number ≡ charge_number rs x cost number) × (rs ≡ charge_list rs x cost number)
  unfolding charge_list charge_number unlisted_of
  unlisted-is h = rw h (refl, unlisted-case (comes_first number) first-not-0)

  pub charge-unlisted :
      (r m : ℕ) → r ≡ place_from rs x 0 → length rs ≤ r → m ≡ unlisted_of number →
      (m ≡ charge_number rs x cost number) × (rs ≡ charge_list rs x cost number)
  charge-unlisted r m e l is = rw is (unlisted-is (unlisted-place rs x (subst (λ k. length rs ≤ k) (e ∙ place-from-0 rs x) l)))
