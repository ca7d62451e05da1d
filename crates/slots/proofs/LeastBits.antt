-- The smallest k with n ≤ 2^k, the search for it, the library's powers of two, and the bits that a try keeps.
-- Assumes nothing.
use mathlib.Core.Path.{◌≡◌, refl, sym, ap, ◌∙◌, subst}
use mathlib.Core.Logic.{⊎_elim}
use mathlib.Core.Bool.{Bool, true, false, cond}
use mathlib.Core.List.{List, [], ◌∷◌}
use Prim.Native.Nat.{ℕ, zero, suc, ◌+◌, ◌*◌, ◌/◌, ◌%◌, ◌^◌, ◌≤◌, ◌<◌, zero-le, min, max}
use Rattle.std.specs.Int.{IsPowerOfTwo, w32, from_le_bytes}
use Rattle.std.proofs.lemmas.Nat.{pow_below}
use native.Mathlib.Nat.{one-mul, pow-suc, eq-or-lt_of_le, add-suc, zero-add, suc-add, mod-eq_of_lt, lt_of_le_of_lt, lt_of_lt_of_le}
use native.Mathlib.Omega.{arith}
use lib.Dec.{leb, ltb, lit<}
use lib.ListN.{length, get_or}
use lib.Pow.{pow_mono, pow_pos}
use borrow.Author.Tests.{le-leb, lt-leb, leb-true, leb-false, ltb-true, ltb-false}
use Rattle.laws.proofs.Cases.{by-test}
use Rattle.generator.specs.Counter.{value}
use Rattle.generator.proofs.Laws.{value_none, value-more}
use Rattle.slots.specs.Fair.{least_from, bits_for, LeastBitsLaw}

-- what the search ends at: a place that passes, or the last; it lies within f places, and none before it passes
record Least (t : ℕ → Bool) (f k r : ℕ) : Type 0 where
  low : k ≤ r
  high : r ≤ f + k
  passes : t (f + k) ≡ true → t r ≡ true
  first : (j : ℕ) → k ≤ j → j < r → t j ≡ false

least_step : (t : ℕ → Bool) (f k : ℕ) (b : Bool) → t k ≡ b → Least t f (suc k) (least_from t f (suc k))
    → Least t (suc f) k (cond b k (least_from t f (suc k)))
least_step t f k true e r = record { low = omega arith; high = omega arith; passes = λ _. e; first = λ j l g. absurd (omega arith) }
least_step t f k false e r = record {
  low = omega (arith, r.low);
  high = omega (arith, r.high);
  passes = λ h. r.passes (subst (λ (x : ℕ). t x ≡ true) (suc-add f k ∙ sym (add-suc f k)) h);
  first = λ j l g. ⊎_elim (λ q. subst (λ (x : ℕ). t x ≡ false) q e) (λ q. r.first j q g) (eq-or-lt_of_le l);
}

least-is : (t : ℕ → Bool) (f k : ℕ) → Least t f k (least_from t f k)
unfolding least_from
least-is t zero k = record {
  low = omega arith;
  high = omega arith;
  passes = λ h. subst (λ (x : ℕ). t x ≡ true) (zero-add k) h;
  first = λ j l g. absurd (omega arith);
}
least-is t (suc f) k = least_step t f k (t k) refl (least-is t f (suc k))

-- ---- the smallest k with n ≤ 2^k

pub bits-enough : (n : ℕ) → n ≤ 2 ^ 32 → n ≤ 2 ^ bits_for n
unfolding bits_for
bits-enough n h = leb-true n _ ((least-is (λ k. leb n (2 ^ k)) 32 0).passes (le-leb n (2 ^ 32) h))

pub bits-few : (n : ℕ) → bits_for n ≤ 32
unfolding bits_for
bits-few n = (least-is (λ k. leb n (2 ^ k)) 32 0).high

fewer-fail : (n k : ℕ) → k < bits_for n → 2 ^ k < n
unfolding bits_for
fewer-fail n k l = leb-false n (2 ^ k) ((least-is (λ k. leb n (2 ^ k)) 32 0).first k zero-le l)

bits-least : (n k : ℕ) → n ≤ 2 ^ k → bits_for n ≤ k
bits-least n k h =
    by-test
    (ltb k (bits_for n))
    (bits_for n ≤ k)
    (λ t. let l : 2 ^ k < n = fewer-fail n k (ltb-true k (bits_for n) t) in absurd (omega arith))
    (λ t. ltb-false k (bits_for n) t)

pub least-bits : LeastBitsLaw
least-bits n h = record { enough = bits-enough n h; least = bits-least n; few = bits-few n }

-- ---- the same by the library's powers of two

-- a search in which each place fails ends at the last
fails-all : (t : ℕ → Bool) (f k : ℕ) → ((j : ℕ) → j < f + k → t j ≡ false) → least_from t f k ≡ f + k
unfolding least_from
fails-all t zero k h = sym (zero-add k)
fails-all t (suc f) k h = rw (h k (omega arith)) (fails-all t f (suc k) (λ j l. h j (omega arith)) ∙ omega arith)

-- from 2^32 on there are 32
bits-large : (n : ℕ) → 2 ^ 32 ≤ n → bits_for n ≡ 32
unfolding bits_for
bits-large n h = fails-all (λ k. leb n (2 ^ k)) 32 0 (λ j l. lt-leb n (2 ^ j) (lt_of_lt_of_le (pow_below j 32 l) h))

bits-capped : (n : ℕ) → bits_for (min n (2 ^ 32)) ≡ bits_for n
bits-capped n =
    by-test
    (ltb (2 ^ 32) n)
    _
    (λ t. let l = ltb-true (2 ^ 32) n t in bits-large (min n (2 ^ 32)) (omega arith) ∙ sym (bits-large n (omega arith)))
    (λ t. let l = ltb-false (2 ^ 32) n t in ap bits_for (omega arith))

-- k is the exponent of the least power of two that is n or more
least-power : (n k : ℕ) → n ≤ 2 ^ 32 → n ≤ 2 ^ k → 2 ^ k / 2 < max 1 n → k ≡ bits_for n
least-power n zero small h l = omega (arith, bits-least n 0 h)
least-power n (suc i) small h l =
    let double = pow-suc 2 i in
    let some = pow_pos i in
    by-test
    (ltb i (bits_for n))
    _
    (λ t. omega (arith, bits-least n (suc i) h, ltb-true i (bits_for n) t))
    (λ t.
    let within : 2 ^ bits_for n ≤ 2 ^ i = pow_mono (ltb-false i (bits_for n) t) in
    absurd (omega (arith, bits-enough n small)))

same-exponent : (j k : ℕ) → 2 ^ k ≤ 2 ^ j → 2 ^ j < 2 * 2 ^ k → j ≡ k
same-exponent j k h l =
    by-test
    (ltb j k)
    _
    (λ t. let below = pow_below j k (ltb-true j k t) in absurd (omega arith))
    (λ t.
    by-test
    (ltb k j)
    _
    (λ u.
    let above : 2 ^ suc k ≤ 2 ^ j = pow_mono (omega (arith, ltb-true k j u)) in
    let double = pow-suc 2 k in
    absurd (omega arith))
    (λ u. omega (arith, ltb-false j k t, ltb-false k j u)))

-- k as the library gives it: p is the least power of two for n, or for 2^32 where n is more, and k its exponent
pub bits-by-power : (n p k : ℕ) → IsPowerOfTwo p → min n (2 ^ 32) ≤ p → p / 2 < max 1 (min n (2 ^ 32)) → 2 ^ k ≤ p → p < 2 * 2 ^ k → k ≡ bits_for n
bits-by-power n p k (j, is) h half low high =
    let same = same-exponent j k (rw (← is) low) (rw (← is) high) in
    let power : p ≡ 2 ^ k = is ∙ ap (λ e. 2 ^ e) same in
    least-power (min n (2 ^ 32)) k (omega arith) (rw (← power) h) (rw (← power) half) ∙ bits-capped n

-- ---- the bits that a try keeps

-- the machine's power of 2
pub shifted : (k : ℕ) → k ≤ 32 → 1 * 2 ^ k % 2 ^ 64 ≡ 2 ^ k
shifted k h = rw one-mul (mod-eq_of_lt (lt_of_le_of_lt (pow_mono h) (lit< tt)))

-- the machine's number of 4 bytes
value-from_le_bytes : (s : List ℕ) → length s ≡ 4 → from_le_bytes w32 s ≡ value s
value-from_le_bytes [] h = absurd (omega arith)
value-from_le_bytes (p ∷ []) h = absurd (omega arith)
value-from_le_bytes (p ∷ q ∷ []) h = absurd (omega arith)
value-from_le_bytes (p ∷ q ∷ r ∷ []) h = absurd (omega arith)
value-from_le_bytes (p ∷ q ∷ r ∷ s ∷ []) h =
    rw (value-more p (q ∷ r ∷ s ∷ []), value-more q (r ∷ s ∷ []), value-more r (s ∷ []), value-more s [], value_none) (omega arith)
value-from_le_bytes (p ∷ q ∷ r ∷ s ∷ t ∷ u) h = absurd (omega arith)

-- the number of 4 bytes a, b, c, d
pub value-four : (s : List ℕ) (a b c d : ℕ) → length s ≡ 4 → a ≡ get_or s 0 0 → b ≡ get_or s 1 0 → c ≡ get_or s 2 0 → d ≡ get_or s 3 0
    → a + 256 * (b + 256 * (c + 256 * d)) ≡ value s
value-four [] a b c d h e f g i = absurd (omega arith)
value-four (p ∷ []) a b c d h e f g i = absurd (omega arith)
value-four (p ∷ q ∷ []) a b c d h e f g i = absurd (omega arith)
value-four (p ∷ q ∷ r ∷ []) a b c d h e f g i = absurd (omega arith)
value-four (p ∷ q ∷ r ∷ s ∷ []) a b c d h e f g i =
    rw (value-more p (q ∷ r ∷ s ∷ []), value-more q (r ∷ s ∷ []), value-more r (s ∷ []), value-more s [], value_none) (omega arith)
value-four (p ∷ q ∷ r ∷ s ∷ t ∷ u) a b c d h e f g i = absurd (omega arith)

-- its low k bits, of which there are 32
pub low-bits : (s : List ℕ) (n k m : ℕ) → length s ≡ 4 → n ≡ from_le_bytes w32 s → n < 2 ^ 32 → m ≡ min k 32
    → n % (1 * 2 ^ m % 2 ^ 64) ≡ value s % 2 ^ k
low-bits s n k m long e h least =
    let v : n ≡ value s = e ∙ value-from_le_bytes s long in
    by-test
    (ltb k 32)
    _
    (λ t.
    let b = ltb-true k 32 t in
    let same : m ≡ k = omega arith in
    rw (same, shifted k (omega arith), v))
    (λ t.
    let b = ltb-false k 32 t in
    let all : m ≡ 32 = omega arith in
    rw (all, ← v, mod-eq_of_lt h) (sym (mod-eq_of_lt (lt_of_lt_of_le h (pow_mono b)))))

least-here : (t : ℕ → Bool) (f k : ℕ) → t k ≡ true → least_from t f k ≡ k
unfolding least_from
least-here t zero k h = refl
least-here t (suc f) k h = rw h

-- from k = 32 on the low bits of a number below 2^32 are the number itself
pub all-bits : (r x k : ℕ) → r ≡ x → r < 2 ^ 32 → 32 ≤ k → r ≡ x % 2 ^ k
all-bits r x k e h l = sym (ap (λ (y : ℕ). y % 2 ^ k) (sym e) ∙ mod-eq_of_lt (lt_of_lt_of_le h (pow_mono l)))
