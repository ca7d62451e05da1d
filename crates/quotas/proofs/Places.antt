-- The place of a source, searched for record by record; where it is found, and where it is not.
-- Assumes nothing.
use mathlib.Core.Path.{◌≡◌, refl, ap, ◌∙◌}
use Prim.Native.Nat.{ℕ, suc, ◌+◌, ◌≤◌, ◌<◌}
use native.Mathlib.Nat.{not-suc-le-zero}
use native.Mathlib.Numerals.{add-one}
use native.Mathlib.Omega.{arith}
use mathlib.Core.Bool.{true, false, cond}
use mathlib.Core.Logic.{◌≢◌}
use mathlib.Core.List.{List, [], ◌∷◌}
use lib.Dec.{eqb}
use lib.ListN.{length, get_or, drop, drop_of_length-le}
use lib.Seq.{drop-cons}
use borrow.Author.Tests.{eq-eqb, ne_eqb}
use Rattle.laws.proofs.Cases.{by-test}
use Rattle.quotas.specs.declared.Quota.{Quota}
use Rattle.quotas.specs.Records.{no_record, place_of, place_from, is_listed}

-- among the records from i on: the record at i, or one after it
place_step :
    (rs : List Quota) (x i : ℕ) → i < length rs →
    place_of (drop i rs) x ≡ cond (eqb (get_or rs i no_record).source x) 0 (suc (place_of (drop (suc i) rs) x))
unfolding place_of
place_step rs x i l = ap (λ (l : List Quota). place_of l x) (drop-cons rs i no_record l)

pub place_hit : (rs : List Quota) (x i : ℕ) → i < length rs → (get_or rs i no_record).source ≡ x → place_of (drop i rs) x ≡ 0
place_hit rs x i l e = let t = eq-eqb (get_or rs i no_record).source x e in place_step rs x i l ∙ rw t

pub place_miss :
    (rs : List Quota) (x i : ℕ) → i < length rs → (get_or rs i no_record).source ≢ x →
    place_of (drop i rs) x ≡ place_of (drop (i + 1) rs) x + 1
place_miss rs x i l e = let t = ne_eqb (get_or rs i no_record).source x e in rw (add-one i, add-one (place_of (drop (suc i) rs) x)) (place_step rs x i l ∙ rw t)

-- there is no record at i
pub place_past : (rs : List Quota) (x i : ℕ) → length rs ≤ i → place_of (drop i rs) x ≡ 0
unfolding place_of
place_past rs x i l = ap (λ (l : List Quota). place_of l x) (drop_of_length-le rs l)

-- the steps of a search
pub ruleset places = (place_hit, place_miss, place_past)

-- from 0 it is the source's place in the list
pub place-from-0 : (rs : List Quota) (x : ℕ) → place_from rs x 0 ≡ place_of rs x
unfolding place_from
place-from-0 rs x = omega arith

pub place_here : (r : Quota) (rs : List Quota) (x : ℕ) → eqb r.source x ≡ true → place_of (r ∷ rs) x ≡ 0
unfolding place_of
place_here r rs x e = rw e

pub place-later : (r : Quota) (rs : List Quota) (x : ℕ) → eqb r.source x ≡ false → place_of (r ∷ rs) x ≡ suc (place_of rs x)
unfolding place_of
place-later r rs x e = rw e

pub listed_here : (r : Quota) (rs : List Quota) (x : ℕ) → eqb r.source x ≡ true → is_listed (r ∷ rs) x ≡ true
unfolding is_listed
listed_here r rs x e = rw e

pub listed-there : (r : Quota) (rs : List Quota) (x : ℕ) → eqb r.source x ≡ false → is_listed (r ∷ rs) x ≡ is_listed rs x
unfolding is_listed
listed-there r rs x e = rw e

-- a source is listed exactly if its place is in the list
pub listed-place : (rs : List Quota) (x : ℕ) → place_of rs x < length rs → is_listed rs x ≡ true
listed-place [] x l = absurd (not-suc-le-zero l)
listed-place (r ∷ rs) x l =
    by-test (eqb r.source x) _
    (λ e. listed_here r rs x e)
    (λ e. listed-there r rs x e ∙ listed-place rs x (let k = place-later r rs x e in omega arith))

pub unlisted-place : (rs : List Quota) (x : ℕ) → length rs ≤ place_of rs x → is_listed rs x ≡ false
unfolding is_listed
unlisted-place [] x l = refl
unlisted-place (r ∷ rs) x l =
    by-test (eqb r.source x) _
    (λ e. let k = place_here r rs x e in absurd (omega arith))
    (λ e. listed-there r rs x e ∙ unlisted-place rs x (let k = place-later r rs x e in omega arith))
