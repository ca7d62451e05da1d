-- The pools that a reseed uses are the first ones: one more than its number has zeros at its end, and 32 at most.
-- Assumes nothing.
use Rattle.std.proofs.Common.{◌≡◌, ℕ, zero, suc, ◌+◌, ◌-◌, ◌*◌, ◌/◌, ◌%◌, ◌^◌, ◌<◌, ◌≤◌, min, true, false, ltb, ◌≢◌, length, sym, refl, ap, ◌∙◌, ⊎_elim, append-nil, le_refl, le_of_suc-le-suc, eq-or-lt_of_le, not-suc-le-zero, sub-add_cancel, add-one, arith, length-append, eq-eqb, ne_eqb, eqb-true, ltb-true, ltb-false}
use mathlib.Core.Bool.{false≢true}
use native.Mathlib.Nat.{zero-mod}
use lib.Count.{under, count_trailing_zeros}
use lib.Pow.{mod-mod-pow, mod-pow-add}
use Rattle.laws.proofs.Cases.{by-test}
use Rattle.pools.specs.Schedule.{used, used_below}

-- ---- 2^i divides n where i is at most the number of zeros at its end, among its k lowest digits

-- the lowest digit, and those above
digits : (n i : ℕ) → n % 2 ^ suc i ≡ n / 2 % 2 ^ i * 2 + n % 2
digits n i = rw (← add-one i) (mod-pow-add n i 1)

step-below : (n i t d : ℕ) → n % 2 ≡ d → suc i ≤ under d t → (i ≤ t → n / 2 % 2 ^ i ≡ 0) → n % 2 ^ suc i ≡ 0
step-below n i t zero e l up = digits n i ∙ rw (up (le_of_suc-le-suc l), e)
step-below n i t (suc d) e l up = absurd (not-suc-le-zero l)

step-above : (n i t d : ℕ) → n % 2 ≡ d → under d t < suc i → (t < i → n / 2 % 2 ^ i ≢ 0) → n % 2 ^ suc i ≢ 0
step-above n i t zero e l up z = up (le_of_suc-le-suc l) (omega (arith, digits n i, e, z))
step-above n i t (suc d) e l up z = omega (arith, digits n i, e, z)

divides-below : (k n i : ℕ) → i < k → i ≤ count_trailing_zeros k n → n % 2 ^ i ≡ 0
unfolding count_trailing_zeros
divides-below zero n i h l = absurd (not-suc-le-zero h)
divides-below (suc k) n zero h l = omega arith
divides-below (suc k) n (suc i) h l =
    step-below n i (count_trailing_zeros k (n / 2)) (n % 2) refl l (divides-below k (n / 2) i (le_of_suc-le-suc h))

divides-above : (k n i : ℕ) → i < k → count_trailing_zeros k n < i → n % 2 ^ i ≢ 0
unfolding count_trailing_zeros
divides-above zero n i h l = absurd (not-suc-le-zero h)
divides-above (suc k) n zero h l = absurd (not-suc-le-zero l)
divides-above (suc k) n (suc i) h l =
    step-above n i (count_trailing_zeros k (n / 2)) (n % 2) refl l (divides-above k (n / 2) i (le_of_suc-le-suc h))

-- the code's count tells which pools are used
pub used-first : (n count i : ℕ) → count ≡ min (count_trailing_zeros 32 n + 1) 32 → i < 32 → used n i ≡ ltb i count
unfolding used
used-first n count i e h =
    by-test (ltb i count) (used n i ≡ ltb i count)
    (λ t. eq-eqb (n % 2 ^ i) 0 (divides-below 32 n i h (omega (arith, e, ltb-true i count t))) ∙ sym t)
    (λ f. ne_eqb (n % 2 ^ i) 0 (divides-above 32 n i h (omega (arith, e, ltb-false i count f))) ∙ sym f)

-- ---- of every number: a power of two divides it only where all lower ones do

-- a power of two that divides the number, and a lower one
used-under : (n j i : ℕ) → used n (j + i) ≡ true → used n i ≡ true
unfolding used
used-under n j i e =
    eq-eqb (n % 2 ^ i) 0 (sym (mod-mod-pow n j i) ∙ ap (λ (m : ℕ). m % 2 ^ i) (eqb-true (n % 2 ^ (j + i)) 0 e) ∙ zero-mod (2 ^ i))

-- up to a pool that is used, all are
pub used-before : (n k i : ℕ) → used n k ≡ true → i ≤ k → used n i ≡ true
used-before n k i e h = used-under n (k - i) i (rw (sub-add_cancel h) e)

-- from a pool that is not used, none is
pub unused-after : (n k i : ℕ) → used n k ≡ false → k ≤ i → used n i ≡ false
unused-after n k i e h =
    by-test (used n i) (used n i ≡ false) (λ t. absurd (false≢true (sym e ∙ used-before n i k t h))) (λ f. f)

-- ---- the list of those that are used, where they are the first ones

-- as many as there are pools, where all are used
pub all-used : (n k : ℕ) → ((i : ℕ) → i < k → used n i ≡ true) → length (used_below n k) ≡ k
unfolding used_below
all-used n zero all = refl
all-used n (suc k) all = rw (all k (le_refl (suc k)), length-append, all-used n k (λ i h. all i (omega arith))) (add-one k)

-- the pools above k add none, where they are not used
pub rest-unused : (n k m : ℕ) → k ≤ m → ((i : ℕ) → k ≤ i → i < m → used n i ≡ false) → used_below n m ≡ used_below n k
unfolding used_below
rest-unused n k zero h none = let e : k ≡ 0 = omega arith in rw e refl
rest-unused n k (suc m) h none =
    ⊎_elim
    (λ (e : k ≡ suc m). rw e refl)
    (λ (l : k < suc m).
    rw (none m (le_of_suc-le-suc l) (le_refl (suc m)), append-nil) (rest-unused n k m (le_of_suc-le-suc l) (λ i a b. none i a (omega arith))))
    (eq-or-lt_of_le h)
