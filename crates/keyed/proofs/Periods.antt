-- The largest i that passes a test, and the periods 32 × 2^i that divide a step.
-- Assumes nothing.
use mathlib.Core.Path.{◌≡◌, refl, sym, ap, ◌∙◌}
use mathlib.Core.Bool.{Bool, true, false, cond, false≢true}
use Prim.Native.Nat.{ℕ, zero, suc, ◌+◌, ◌-◌, ◌*◌, ◌%◌, ◌^◌, ◌≤◌, ◌<◌, zero-le}
use native.Mathlib.Nat.{mul_comm, zero-mod, sub-add_cancel, le_refl}
use native.Mathlib.Omega.{arith}
use lib.Dec.{eqb, ltb}
use lib.Pow.{pow_pos, pow-add, mod-mod-pow}
use borrow.Author.Tests.{eqb-true, eqb-false, eq-eqb, ltb-true}
use Rattle.laws.proofs.Cases.{by-test, both}
use Rattle.keyed.specs.Scheduler.{empties, divides, greatest}

-- ---- the largest that passes a test

pub greatest-le : (f : ℕ → Bool) (n : ℕ) → greatest f n ≤ n
unfolding greatest
greatest-le f zero = zero-le
greatest-le f (suc n) = go (f (suc n)) (greatest-le f n)
  where
    go : (t : Bool) → greatest f n ≤ n → cond t (suc n) (greatest f n) ≤ suc n
    go true h = le_refl (suc n)
    go false h = omega arith

pub greatest-passes : (f : ℕ → Bool) (n : ℕ) → f 0 ≡ true → f (greatest f n) ≡ true
unfolding greatest
greatest-passes f zero h = h
greatest-passes f (suc n) h = go (f (suc n)) refl (greatest-passes f n h)
  where
    go : (t : Bool) → f (suc n) ≡ t → f (greatest f n) ≡ true → f (cond t (suc n) (greatest f n)) ≡ true
    go true e r = e
    go false e r = r

pub greatest-above : (f : ℕ → Bool) (n j : ℕ) → greatest f n < j → j ≤ n → f j ≡ false
unfolding greatest
greatest-above f zero j h k = absurd (omega arith)
greatest-above f (suc n) j h k = go (f (suc n)) refl h (greatest-above f n j)
  where
    go : (t : Bool) → f (suc n) ≡ t → cond t (suc n) (greatest f n) < j → (greatest f n < j → j ≤ n → f j ≡ false) → f j ≡ false
    go true e l r = absurd (omega arith)
    go false e l r =
        by-test (eqb j (suc n)) _
        (λ q. ap f (eqb-true j (suc n) q) ∙ e)
        (λ q. r l (omega (arith, eqb-false j (suc n) q)))

pub greatest-is : (f : ℕ → Bool) (n i : ℕ) → i ≤ n → f i ≡ true → ((j : ℕ) → i < j → j ≤ n → f j ≡ false) → greatest f n ≡ i
unfolding greatest
greatest-is f zero i h p none = omega arith
greatest-is f (suc n) i h p none =
    by-test (eqb i (suc n)) _
    (λ q. let e = eqb-true i (suc n) q in rw (ap f (sym e) ∙ p) (sym e))
    (λ q.
    let l : i < suc n = omega (arith, eqb-false i (suc n) q) in
    rw (none (suc n) l (le_refl (suc n))) (greatest-is f n i (omega arith) p (λ j a b. none j a (omega arith))))

-- ---- the periods are powers of two

pub period-pow : (i : ℕ) → 32 * 2 ^ i ≡ 2 ^ (i + 5)
period-pow i = mul_comm 32 (2 ^ i) ∙ sym (pow-add 2 i 5)

pub period-pos : (i : ℕ) → 0 < 32 * 2 ^ i
period-pos i = omega (arith, pow_pos i)

pub period-double : (i : ℕ) → 32 * 2 ^ (i + 1) ≡ 32 * 2 ^ i + 32 * 2 ^ i
period-double i = omega (arith, pow-add 2 i 1)

-- a remainder by a longer period has the same remainder by a shorter one
pub mod-period : (t j i : ℕ) → t % (32 * 2 ^ (j + i)) % (32 * 2 ^ i) ≡ t % (32 * 2 ^ i)
mod-period t j i =
    rw (period-pow (j + i), period-pow i)
    (ap (λ (k : ℕ). t % 2 ^ k % 2 ^ (i + 5)) (omega arith) ∙ mod-mod-pow t j (i + 5))

pub mod-32 : (t i : ℕ) → t % (32 * 2 ^ i) % 32 ≡ t % 32
mod-32 t i = ap (λ (k : ℕ). t % (32 * 2 ^ k) % 32) (omega arith) ∙ mod-period t i 0

divides-under : (t j i : ℕ) → divides t (j + i) ≡ true → divides t i ≡ true
unfolding divides
divides-under t j i e =
    eq-eqb _ 0 (sym (mod-period t j i) ∙ ap (λ (x : ℕ). x % (32 * 2 ^ i)) (eqb-true (t % (32 * 2 ^ (j + i))) 0 e) ∙ zero-mod (32 * 2 ^ i))

-- 32 × 2^i divides t where a longer period does
pub divides-before : (t k i : ℕ) → divides t k ≡ true → i ≤ k → divides t i ≡ true
divides-before t k i e h = divides-under t (k - i) i (rw (sub-add_cancel h) e)

pub divides-after : (t k i : ℕ) → divides t k ≡ false → k ≤ i → divides t i ≡ false
divides-after t k i e h =
    by-test (divides t i) (divides t i ≡ false) (λ p. absurd (false≢true (sym e ∙ divides-before t i k p h))) (λ f. f)

pub divides-0 : (t : ℕ) → empties t ≡ true → divides t 0 ≡ true
unfolding empties divides
divides-0 t e = (both (ltb 0 t) (eqb (t % 32) 0) e).1

pub divides-rest : (t i : ℕ) → divides t i ≡ true → t % (32 * 2 ^ i) ≡ 0
unfolding divides
divides-rest t i e = eqb-true (t % (32 * 2 ^ i)) 0 e

pub not-divides-rest : (t i : ℕ) → divides t i ≡ false → t % (32 * 2 ^ i) ≡ 0 → ⊥
unfolding divides
not-divides-rest t i e = eqb-false (t % (32 * 2 ^ i)) 0 e

pub empties-some : (t : ℕ) → empties t ≡ true → 0 < t
unfolding empties
empties-some t e = ltb-true 0 t (both (ltb 0 t) (eqb (t % 32) 0) e).0
