-- A try for a slot below n, and how many 4-byte strings give each value (02 (i)).
-- Assumes nothing.
use Rattle.std.specs.Prelude.{◌≡◌, Bool, true, cond, List, [], ◌∷◌, ℕ, zero, suc, ◌+◌, ◌-◌, ◌%◌, ◌^◌, ◌≤◌, ◌<◌, leb, eqb}
use Rattle.generator.specs.Counter.{value}

-- the first of k, k + 1, .. that passes the test, at most f places on
unfoldable pub least_from : (ℕ → Bool) → ℕ → ℕ → ℕ
least_from t zero k = k
least_from t (suc f) k = cond (t k) k (least_from t f (suc k))

-- the smallest k with n ≤ 2^k, for n up to 2^32
unfoldable pub bits_for : ℕ → ℕ
bits_for n = least_from (λ k. leb n (2 ^ k)) 32 0

-- a try's value: of its bytes, read least significant first, the low bits
unfoldable pub try_value : ℕ → List ℕ → ℕ
try_value n bytes = value bytes % 2 ^ bits_for n

-- f 0 + f 1 + .. + f (n - 1)
unfoldable pub sum_below : ℕ → (ℕ → ℕ) → ℕ
sum_below zero f = 0
sum_below (suc n) f = sum_below n f + f n

-- how many strings of n bytes pass the test: for each first byte, how many of the bytes after it
unfoldable pub strings : ℕ → (List ℕ → Bool) → ℕ
strings zero t = cond (t []) 1 0
strings (suc n) t = sum_below 256 (λ b. strings n (λ s. t (b ∷ s)))

-- how many 4-byte strings give the value v
unfoldable pub ways : ℕ → ℕ → ℕ
ways n v = strings 4 (λ s. eqb (try_value n s) v)

-- there are 2^32 of them
abbrev pub AllStrings : Type 0
AllStrings = strings 4 (λ s. true) ≡ 2 ^ 32

-- k is the smallest with n ≤ 2^k
pub record LeastBits (n : ℕ) : Type 0 where
  pub enough : n ≤ 2 ^ bits_for n
  pub least : (k : ℕ) → n ≤ 2 ^ k → bits_for n ≤ k
  pub few : bits_for n ≤ 32

abbrev pub LeastBitsLaw : Type 0
LeastBitsLaw = (n : ℕ) → n ≤ 2 ^ 32 → LeastBits n

-- for every n in range, each value below n comes from 2^(32 - k) of the 4-byte strings
abbrev pub Fairness : Type 0
Fairness = (n : ℕ) → 1 ≤ n → n ≤ 2 ^ 32 → (v : ℕ) → v < n → ways n v ≡ 2 ^ (32 - bits_for n)

-- so each place that a shuffle may draw, 0 to p for p up to 255, comes from some of them
abbrev pub EveryPlace : Type 0
EveryPlace = (p v : ℕ) → p < 256 → v ≤ p → 0 < ways (p + 1) v
