-- How often a number stands in a list, in its front and in lists without a repeat.
-- Assumes nothing.
use mathlib.Core.Path.{◌≡◌, refl, ap, sym, ◌∙◌, subst}
use mathlib.Core.Logic.{◌≢◌}
use mathlib.Core.Bool.{Bool, true, false, cond}
use mathlib.Core.List.{List, [], ◌∷◌}
use Prim.Native.Nat.{ℕ, zero, suc, ◌+◌, ◌<◌, ◌≤◌, suc-le-suc}
use native.Mathlib.Nat.{not-suc-le-zero, le_of_suc-le-suc}
use native.Mathlib.Omega.{arith}
use lib.Dec.{eqb}
use lib.ListN.{length, get_or, set, take, drop, length-drop, take-append-drop}
use lib.Seq.{ext_get_or, get_or-drop, get_or-take, length-take-le}
use borrow.Author.Tests.{eq-eqb, eqb-true}
use Rattle.laws.specs.Lists.{count_of}
use Rattle.laws.proofs.Counts.{count-append}
use Rattle.slots.specs.Shuffle.{Rearrangement, Distinct}

-- a store changes the counts of the entry that goes and the one that comes
pub count_set : (x : ℕ) (xs : List ℕ) (i a : ℕ) → i < length xs
    → count_of x (set xs i a) + cond (eqb x (get_or xs i 0)) 1 0 ≡ count_of x xs + cond (eqb x a) 1 0
unfolding count_of
count_set x [] i a h = absurd (not-suc-le-zero h)
count_set x (y ∷ ys) zero a h = omega arith
count_set x (y ∷ ys) (suc i) a h = let e = count_set x ys i a (le_of_suc-le-suc h) in omega arith

-- an entry is counted, also in the front that holds it
count_at : (xs : List ℕ) (i : ℕ) → i < length xs → 0 < count_of (get_or xs i 0) xs
unfolding count_of
count_at [] i h = absurd (not-suc-le-zero h)
count_at (y ∷ ys) zero h = rw (eq-eqb y y refl) (omega arith)
count_at (y ∷ ys) (suc i) h = let l = count_at ys i (le_of_suc-le-suc h) in omega arith

pub count-front : (i : ℕ) (ys : List ℕ) → i < length ys → 0 < count_of (get_or ys i 0) (take (suc i) ys)
count-front i ys h =
    let l : i < length (take (suc i) ys) = rw (length-take-le (suc i) ys h) (omega arith) in
    subst (λ (z : ℕ). 0 < count_of z (take (suc i) ys)) (get_or-take (suc i) ys i 0 (omega arith)) (count_at (take (suc i) ys) i l)

-- a number counted in the front of a list stands there
abbrev pub Found : ℕ → ℕ → List ℕ → Type 0
Found v n xs = (d : ℕ) × (d < n) × (d < length xs) × (get_or xs d 0 ≡ v)

found-step : (v n y : ℕ) (ys : List ℕ) (t : Bool) → eqb v y ≡ t → 0 < cond t 1 0 + count_of v (take n ys)
    → (0 < count_of v (take n ys) → Found v n ys) → Found v (suc n) (y ∷ ys)
found-step v n y ys true e h rest = (zero, omega arith, omega arith, sym (eqb-true v y e))
found-step v n y ys false e h rest = let r = rest (omega arith) in (suc r.0, suc-le-suc r.1, suc-le-suc r.2, r.3)

pub found : (v n : ℕ) (xs : List ℕ) → 0 < count_of v (take n xs) → Found v n xs
unfolding count_of
found v zero xs h = absurd (not-suc-le-zero h)
found v (suc n) [] h = absurd (not-suc-le-zero h)
found v (suc n) (y ∷ ys) h = found-step v n y ys (eqb v y) refl h (found v n ys)

-- lists that agree from n on, and rearrange each other, count alike below n
pub front-counts : (n : ℕ) (xs ys : List ℕ) → Rearrangement xs ys → ((i : ℕ) → n ≤ i → get_or xs i 0 ≡ get_or ys i 0) → (x : ℕ)
    → count_of x (take n xs) ≡ count_of x (take n ys)
front-counts n xs ys r same x =
    let back : drop n xs ≡ drop n ys =
    ext_get_or 0 (drop n xs) (drop n ys) (rw (length-drop n xs, length-drop n ys, r.lengths))
    (λ i _. get_or-drop n xs i 0 ∙ same (n + i) (omega arith) ∙ sym (get_or-drop n ys i 0)) in
    let a = ap (count_of x) (take-append-drop n xs) in
    let b = ap (count_of x) (take-append-drop n ys) in
    let c = count-append x (take n xs) (drop n xs) in
    let d = count-append x (take n ys) (drop n ys) in
    let e = r.counts x in
    let f = ap (count_of x) back in
    omega arith

-- ---- lists without a repeat

pub distinct_tail : (y : ℕ) (ys : List ℕ) → Distinct (y ∷ ys) → Distinct ys
unfolding count_of
distinct_tail y ys u x = let l = u x in omega arith

-- the first number does not stand in the rest
pub distinct-once : (y : ℕ) (ys : List ℕ) → Distinct (y ∷ ys) → count_of y ys ≡ 0
unfolding count_of
distinct-once y ys u =
    let l = u y in
    let e : ◌≡◌ {A = ℕ} (cond (eqb y y) 1 0) 1 = rw (eq-eqb y y refl) in
    omega arith

distinct_head : (y : ℕ) (ys : List ℕ) (j : ℕ) → Distinct (y ∷ ys) → j < length ys → y ≢ get_or ys j 0
distinct_head y ys j u h e =
    let again = subst (λ (z : ℕ). 0 < count_of z ys) (sym e) (count_at ys j h) in
    omega (arith, distinct-once y ys u)

-- each number has one place
pub distinct-places : (xs : List ℕ) (i j : ℕ) → Distinct xs → i < length xs → j < length xs → get_or xs i 0 ≡ get_or xs j 0 → i ≡ j
distinct-places [] i j u hi hj e = absurd (not-suc-le-zero hi)
distinct-places (y ∷ ys) zero zero u hi hj e = refl
distinct-places (y ∷ ys) zero (suc j) u hi hj e = absurd (distinct_head y ys j u (le_of_suc-le-suc hj) e)
distinct-places (y ∷ ys) (suc i) zero u hi hj e = absurd (distinct_head y ys i u (le_of_suc-le-suc hi) (sym e))
distinct-places (y ∷ ys) (suc i) (suc j) u hi hj e =
    ap suc (distinct-places ys i j (distinct_tail y ys u) (le_of_suc-le-suc hi) (le_of_suc-le-suc hj) e)
