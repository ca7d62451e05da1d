-- The test for a repeat, and the loops that make it.
-- Assumes nothing.
use mathlib.Core.Path.{◌≡◌, refl, ap, ap₂, sym, ◌∙◌}
use mathlib.Core.Bool.{Bool, true, false, cond, ◌||◌, true≢false}
use mathlib.Core.List.{List, [], ◌∷◌, nil≢cons}
use Prim.Native.Nat.{ℕ, zero, suc, ◌+◌, ◌-◌, ◌≤◌, zero-le, ◌<◌}
use native.Mathlib.Numerals.{add-one}
use native.Mathlib.Omega.{arith}
use lib.Dec.{eqb}
use Rattle.std.specs.List.{list_any, enumerate_from}
use Rattle.laws.proofs.Copy.{part_end}
use lib.ListN.{length, take, drop, get_or, drop_of_length-le}
use borrow.Author.Tests.{eq-eqb, ne_eqb, eqb-true}
use Rattle.laws.specs.Lists.{count_of}
use Rattle.laws.proofs.Cases.{neither}
use Rattle.slots.specs.Shuffle.{Distinct, is_in, has_repeat, RepeatLaw}
use Rattle.slots.proofs.Counts.{distinct_tail, distinct-once}
use mathlib.Core.Logic.{◌≢◌}
use lib.Seq.{drop-cons}

-- ---- what the test says

uncounted-step : (t b : Bool) (n : ℕ) → (t || b) ≡ false → (b ≡ false → n ≡ 0) → cond t 1 0 + n ≡ 0
uncounted-step true b n h f = absurd (true≢false h)
uncounted-step false b n h f = let e = f h in omega arith

uncounted : (x : ℕ) (ys : List ℕ) → is_in x ys ≡ false → count_of x ys ≡ 0
unfolding is_in count_of
uncounted x [] h = refl
uncounted x (y ∷ ys) h = uncounted-step (eqb x y) (is_in x ys) (count_of x ys) h (uncounted x ys)

absent-step : (t b : Bool) (n : ℕ) → cond t 1 0 + n ≡ 0 → (n ≡ 0 → b ≡ false) → (t || b) ≡ false
absent-step true b n h f = absurd (omega arith)
absent-step false b n h f = f (omega arith)

absent : (x : ℕ) (ys : List ℕ) → count_of x ys ≡ 0 → is_in x ys ≡ false
unfolding is_in count_of
absent x [] h = refl
absent x (y ∷ ys) h = absent-step (eqb x y) (is_in x ys) (count_of x ys) h (absent x ys)

distinct-step : (x y : ℕ) (ys : List ℕ) (t : Bool) → eqb x y ≡ t → count_of y ys ≡ 0 → count_of x ys ≤ 1 → cond t 1 0 + count_of x ys ≤ 1
distinct-step x y ys true e z l = let q = ap (λ (k : ℕ). count_of k ys) (eqb-true x y e) in omega arith
distinct-step x y ys false e z l = omega arith

no-repeat : (xs : List ℕ) → has_repeat xs ≡ false → Distinct xs
unfolding has_repeat count_of
no-repeat [] h x = zero-le
no-repeat (y ∷ ys) h x =
    let f = neither (is_in y ys) (has_repeat ys) h in
    distinct-step x y ys (eqb x y) refl (uncounted y ys f.0) (no-repeat ys f.1 x)

passes-test : (xs : List ℕ) → Distinct xs → has_repeat xs ≡ false
unfolding has_repeat
passes-test [] u = refl
passes-test (y ∷ ys) u = rw (absent y ys (distinct-once y ys u)) (passes-test ys (distinct_tail y ys u))

pub repeat-law : RepeatLaw
repeat-law xs = (no-repeat xs, passes-test xs)

-- ---- a number in a list, as the library looks for it

same-test : (x y : ℕ) (t : Bool) → eqb x y ≡ t → eqb y x ≡ t
same-test x y true e = rw (eqb-true x y e) (eq-eqb y y refl)
same-test x y false e = ne_eqb y x (λ q. true≢false (sym (eq-eqb x y (sym q)) ∙ e))

found : (x : ℕ) (ys : List ℕ) → list_any (λ (y : ℕ). eqb y x) ys ≡ is_in x ys
unfolding is_in
found x [] = refl
found x (y ∷ ys) = ap₂ (λ (a b : Bool). a || b) (same-test x y (eqb x y) refl) (found x ys)

-- ---- a repeat in what is left of a list

drop-next : (s : List ℕ) (i x : ℕ) (xs : List ℕ) → drop i s ≡ x ∷ xs → drop (suc i) s ≡ xs
drop-next [] zero x xs e = absurd (nil≢cons e)
drop-next [] (suc i) x xs e = absurd (nil≢cons e)
drop-next (y ∷ ys) zero x xs e = ap (drop 1) e
drop-next (y ∷ ys) (suc i) x xs e = drop-next ys i x xs e

drop-rest : (s : List ℕ) (i x : ℕ) (xs : List ℕ) → drop i s ≡ x ∷ xs → drop (i + 1) s ≡ xs
drop-rest s i x xs e = rw (add-one i) (drop-next s i x xs e)

-- whether one of the numbers with their places stands behind its place too
pub any-behind : (s xs : List ℕ) (i : ℕ) → drop i s ≡ xs
    → list_any (λ (p : ℕ × ℕ). list_any (λ (y : ℕ). eqb y p.1) (take (length s - (p.0 + 1)) (drop (p.0 + 1) s))) (enumerate_from i xs)
    ≡ has_repeat xs
unfolding has_repeat
any-behind s [] i e = refl
any-behind s (x ∷ xs) i e =
    let rest = drop-rest s i x xs e in
    let here : list_any (λ (y : ℕ). eqb y x) (take (length s - (i + 1)) (drop (i + 1) s)) ≡ is_in x xs =
    rw part_end (found x (drop (i + 1) s)) ∙ ap (is_in x) rest in
    ap₂ (λ (a b : Bool). a || b) here (any-behind s xs (i + 1) rest)

in-next : (x : ℕ) (s : List ℕ) (i : ℕ) → i < length s → is_in x (drop i s) ≡ (eqb x (get_or s i 0) || is_in x (drop (i + 1) s))
unfolding is_in
in-next x s i h = rw (add-one i, drop-cons s i 0 h)

pub in-here : (x : ℕ) (s : List ℕ) (i : ℕ) → i < length s → x ≡ get_or s i 0 → is_in x (drop i s) ≡ true
in-here x s i h e = rw (in-next x s i h, eq-eqb x (get_or s i 0) e)

pub in-past : (x : ℕ) (s : List ℕ) (i : ℕ) → i < length s → x ≢ get_or s i 0 → is_in x (drop i s) ≡ is_in x (drop (i + 1) s)
in-past x s i h e = rw (in-next x s i h, ne_eqb x (get_or s i 0) e)

pub in_end : (x : ℕ) (s : List ℕ) (i : ℕ) → length s ≤ i → is_in x (drop i s) ≡ false
unfolding is_in
in_end x s i h = rw (drop_of_length-le s h)

repeat-next : (s : List ℕ) (i : ℕ) → i < length s → has_repeat (drop i s) ≡ (is_in (get_or s i 0) (drop (i + 1) s) || has_repeat (drop (i + 1) s))
unfolding has_repeat
repeat-next s i h = rw (add-one i, drop-cons s i 0 h)

pub repeat-here : (s : List ℕ) (i : ℕ) → i < length s → is_in (get_or s i 0) (drop (i + 1) s) ≡ true → has_repeat (drop i s) ≡ true
repeat-here s i h e = rw (repeat-next s i h, e)

pub repeat_past : (s : List ℕ) (i : ℕ) → i < length s → is_in (get_or s i 0) (drop (i + 1) s) ≡ false
    → has_repeat (drop i s) ≡ has_repeat (drop (i + 1) s)
repeat_past s i h e = rw (repeat-next s i h, e)

pub repeat-end : (s : List ℕ) (i : ℕ) → length s ≤ i → has_repeat (drop i s) ≡ false
unfolding has_repeat
repeat-end s i h = rw (drop_of_length-le s h)
