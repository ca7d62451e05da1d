-- Each value below n comes from equally many 4-byte strings.
-- Assumes nothing.
use mathlib.Core.Path.{◌≡◌, ap, ap₂, sym, ◌∙◌}
use mathlib.Core.Logic.{⊎_elim}
use mathlib.Core.Bool.{Bool, true, cond}
use mathlib.Core.List.{◌∷◌}
use Prim.Native.Nat.{ℕ, zero, suc, ◌+◌, ◌-◌, ◌*◌, ◌%◌, ◌^◌, ◌<◌, ◌≤◌}
use native.Mathlib.Nat.{pow-suc, mul_comm, add_comm, mul-one, not-suc-le-zero, eq-or-lt_of_le, le_of_suc-le-suc, sub-add_cancel, lt_of_lt_of_le}
use native.Mathlib.Omega.{arith}
use lib.Arith.{digits_mod}
use lib.Dec.{eqb}
use lib.Pow.{pow-add, pow_pos}
use borrow.Author.Tests.{eq-eqb, ne_eqb}
use Rattle.generator.specs.Counter.{value}
use Rattle.generator.proofs.Laws.{value_none, value-more}
use Rattle.slots.specs.Fair.{bits_for, try_value, sum_below, strings, ways, AllStrings, Fairness, EveryPlace}
use Rattle.slots.proofs.Sums.{sum_one, sum-ext, sum-const, sum-none, sum-swap, sum-blocks}
use Rattle.slots.proofs.LeastBits.{bits-enough, bits-few}

-- 1 where the test passes
abbrev one : Bool → ℕ
one t = cond t 1 0

-- one number below m equals v
count_none : (m v : ℕ) → m ≤ v → sum_below m (λ r. one (eqb r v)) ≡ 0
count_none m v h =
    sum-ext m (λ r. one (eqb r v)) (λ _. 0) (λ r l. rw (ne_eqb r v (λ e. omega arith))) ∙ sum-none m

count-one : (m v : ℕ) → v < m → sum_below m (λ r. one (eqb r v)) ≡ 1
unfolding sum_below
count-one zero v h = absurd (not-suc-le-zero h)
count-one (suc m) v h =
    ⊎_elim
    (λ e. ap₂ (λ (x y : ℕ). x + y) (count_none m v (omega arith)) (ap one (eq-eqb m v (sym e))))
    (λ l. ap₂ (λ (x y : ℕ). x + y) (count-one m v l) (ap one (ne_eqb m v (λ e. omega arith))))
    (eq-or-lt_of_le (le_of_suc-le-suc h))

-- of n whole periods of m, n numbers have the remainder v
count-remainder : (n m v : ℕ) → v < m → sum_below (n * m) (λ x. one (eqb (x % m) v)) ≡ n
count-remainder n m v h =
    sum-blocks n m (λ x. one (eqb (x % m) v))
    ∙ sum-ext n (λ q. sum_below m (λ r. one (eqb ((q * m + r) % m) v))) (λ _. 1)
    (λ q _. sum-ext m (λ r. one (eqb ((q * m + r) % m) v)) (λ r. one (eqb r v)) (λ r l. rw (digits_mod q l)) ∙ count-one m v h)
    ∙ sum-const n 1 ∙ mul-one n

-- the strings that begin with the byte b
first_byte : (n b : ℕ) (t : ℕ → Bool) → strings n (λ s. t (value (b ∷ s))) ≡ strings n (λ s. t (b + 256 * value s))
first_byte n b t = λ i. strings n (λ s. t (value-more b s i))

-- the strings of n bytes are the numbers below 256 ^ n
strings-numbers : (n : ℕ) (t : ℕ → Bool) → strings n (λ s. t (value s)) ≡ sum_below (256 ^ n) (λ x. one (t x))
unfolding strings
strings-numbers zero t = ap (λ (x : ℕ). one (t x)) value_none ∙ sym (sum_one (λ x. one (t x)))
strings-numbers (suc n) t =
    sum-ext 256 (λ b. strings n (λ s. t (value (b ∷ s)))) (λ b. sum_below (256 ^ n) (λ x. one (t (b + 256 * x))))
    (λ b _. first_byte n b t ∙ strings-numbers n (λ x. t (b + 256 * x)))
    ∙ sum-swap 256 (256 ^ n) (λ b x. one (t (b + 256 * x)))
    ∙ sum-ext (256 ^ n) (λ x. sum_below 256 (λ b. one (t (b + 256 * x)))) (λ x. sum_below 256 (λ b. one (t (x * 256 + b))))
    (λ x _. sum-ext 256 (λ b. one (t (b + 256 * x))) (λ b. one (t (x * 256 + b)))
    (λ b _. ap (λ (y : ℕ). one (t y)) (add_comm b (256 * x) ∙ ap (λ (z : ℕ). z + b) (mul_comm 256 x))))
    ∙ sym (sum-blocks (256 ^ n) 256 (λ x. one (t x)))
    ∙ ap (λ (y : ℕ). sum_below y (λ x. one (t x))) (sym (pow-suc 256 n))

-- of the 4-byte strings, 2 ^ (32 - k) have v in their low k bits
ways-of-bits : (k v : ℕ) → k ≤ 32 → v < 2 ^ k → strings 4 (λ s. eqb (value s % 2 ^ k) v) ≡ 2 ^ (32 - k)
ways-of-bits k v l h =
    strings-numbers 4 (λ x. eqb (x % 2 ^ k) v)
    ∙ ap (λ (y : ℕ). sum_below y (λ x. one (eqb (x % 2 ^ k) v))) (ap (λ (j : ℕ). 2 ^ j) (sym (sub-add_cancel l)) ∙ pow-add 2 (32 - k) k)
    ∙ count-remainder (2 ^ (32 - k)) (2 ^ k) v h

pub fairness : Fairness
unfolding ways try_value
fairness n _ h v l = ways-of-bits (bits_for n) v (bits-few n) (lt_of_lt_of_le l (bits-enough n h))

pub all-strings : AllStrings
all-strings = strings-numbers 4 (λ _. true) ∙ sum-const (256 ^ 4) 1 ∙ mul-one (256 ^ 4)

pub every-place : EveryPlace
every-place p v h l = rw (fairness (p + 1) (omega arith) (omega arith) v (omega arith)) (pow_pos (32 - bits_for (p + 1)))
