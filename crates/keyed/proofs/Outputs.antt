-- The pool that a step empties, by the zeros below the lowest 1 of its number.
-- Assumes nothing.
use mathlib.Core.Path.{◌≡◌, refl, sym, ap, ◌∙◌}
use mathlib.Core.Logic.{◌⊎◌, inl, inr, ⊎_elim}
use mathlib.Core.Bool.{Bool, true, false}
use Prim.Native.Nat.{ℕ, zero, suc, ◌+◌, ◌-◌, ◌*◌, ◌/◌, ◌%◌, ◌^◌, ◌≤◌, ◌<◌, min}
use native.Mathlib.Nat.{le_refl, pow-suc}
use native.Mathlib.Omega.{arith}
use lib.Count.{count_trailing_zeros, under}
use lib.Dec.{leb}
use lib.Pow.{pow_pos}
use borrow.Author.Tests.{eq-eqb, ne_eqb, leb-true, leb-false}
use Rattle.std.proofs.Math.Arith.{mod-mul}
use Rattle.laws.proofs.Cases.{by-test}
use Rattle.keyed.specs.Scheduler.{divides, greatest, output_pool}
use Rattle.keyed.proofs.Periods.{greatest-is, period-pow}

-- the lowest digit, and those above it
low-digit : (n j : ℕ) → n % 2 ^ suc j ≡ (n / 2 % 2 ^ j) * 2 + n % 2
low-digit n j = ap (λ (k : ℕ). n % k) (pow-suc 2 j) ∙ mod-mul n {m = 2 ^ j} {c = 2} (pow_pos j) (omega arith)

-- 2^j divides a number with j zeros at its end
zeros-divide : (k n j : ℕ) → j ≤ count_trailing_zeros k n → n % 2 ^ j ≡ 0
unfolding count_trailing_zeros
zeros-divide k n zero h = omega arith
zeros-divide zero n (suc j) h = absurd (omega arith)
zeros-divide (suc k) n (suc j) h = go (n % 2) refl h (zeros-divide k (n / 2) j)
  where
    go :
        (d : ℕ) → n % 2 ≡ d → suc j ≤ under d (count_trailing_zeros k (n / 2)) →
        (j ≤ count_trailing_zeros k (n / 2) → n / 2 % 2 ^ j ≡ 0) → n % 2 ^ suc j ≡ 0
    go zero e l f = omega (arith, low-digit n j, f (omega arith))
    go (suc d) e l f = absurd (omega arith)

-- and no number with fewer, among the k digits that are looked at
ones-end : (k n j : ℕ) → count_trailing_zeros k n < j → j ≤ k → n % 2 ^ j ≡ 0 → ⊥
unfolding count_trailing_zeros
ones-end k n zero h l e = omega arith
ones-end zero n (suc j) h l e = omega arith
ones-end (suc k) n (suc j) h l e = go (n % 2) refl h (ones-end k (n / 2) j)
  where
    go :
        (d : ℕ) → n % 2 ≡ d → under d (count_trailing_zeros k (n / 2)) < suc j →
        (count_trailing_zeros k (n / 2) < j → j ≤ k → n / 2 % 2 ^ j ≡ 0 → ⊥) → ⊥
    go zero z m f = f (omega arith) (omega arith) (omega (arith, low-digit n j))
    go (suc d) z m f = omega (arith, low-digit n j)

greatest-none : (f : ℕ → Bool) (n : ℕ) → ((j : ℕ) → 0 < j → j ≤ n → f j ≡ false) → greatest f n ≡ 0
unfolding greatest
greatest-none f zero none = refl
greatest-none f (suc n) none = rw (none (suc n) (omega arith) (le_refl (suc n))) (greatest-none f n (λ j a b. none j a (omega arith)))

greatest-at :
    (f : ℕ → Bool) (n i : ℕ) → i ≤ n → (i ≡ 0) ⊎ (f i ≡ true) → ((j : ℕ) → i < j → j ≤ n → f j ≡ false) → greatest f n ≡ i
greatest-at f n i h p none =
    ⊎_elim
    (λ (z : i ≡ 0). greatest-none f n (λ j a b. none j (omega arith) b) ∙ sym z)
    (λ (q : f i ≡ true). greatest-is f n i h q none)
    p

-- the periods that divide a step are those up to its zeros
module _ (t i : ℕ) where
  period-divides : i + 5 ≤ count_trailing_zeros 64 t → divides t i ≡ true
  unfolding divides
  period-divides h = eq-eqb _ 0 (ap (λ (p : ℕ). t % p) (period-pow i) ∙ zeros-divide 64 t (i + 5) h)

  period-ends : count_trailing_zeros 64 t < i + 5 → i ≤ 31 → divides t i ≡ false
  unfolding divides
  period-ends h l =
      ne_eqb _ 0 (λ e. ones-end 64 t (i + 5) h (omega arith) (ap (λ (p : ℕ). t % p) (sym (period-pow i)) ∙ e))

-- so the pool is by their number
pub output_by_zeros : (t : ℕ) → min (count_trailing_zeros 64 t - 5) 31 ≡ output_pool t
unfolding output_pool
output_by_zeros t =
    sym (greatest-at (divides t) 31 (min (count_trailing_zeros 64 t - 5) 31) (omega arith)
    (by-test (leb 6 (count_trailing_zeros 64 t)) _
    (λ e. inr (period-divides t _ (omega (arith, leb-true 6 _ e))))
    (λ e. inl (omega (arith, leb-false 6 _ e))))
    (λ j a b. period-ends t j (omega arith) b))
