-- The steps that empty a pool, and the first of them from a step on.
-- Assumes nothing.
use mathlib.Core.Path.{◌≡◌, refl, sym, ap, subst, ◌∙◌}
use mathlib.Core.Bool.{true, false}
use mathlib.Core.List.{List}
use Prim.Native.Nat.{ℕ, zero, suc, ◌+◌, ◌-◌, ◌*◌, ◌/◌, ◌%◌, ◌^◌, ◌≤◌, ◌<◌}
use native.Mathlib.Nat.{mul_comm, div-one, div-div-eq-div-mul, lt-mul-div-succ, mul-div-le, div-add-mod, div-lt_iff_lt-mul, mod-lt, mod-le, mod_self, mod-eq_of_lt, mod-eq-sub-mod, mul-add-mod_self_left, mul-mod_right, mul-le-mul_left, mul-add, mul-one, le_refl}
use native.Mathlib.Omega.{arith}
use lib.Dec.{eqb, ltb}
use lib.Pow.{pow-add}
use lib.ListN.{length, get_or}
use borrow.Author.Tests.{eqb-true, eq-eqb, ne_eqb, ltb-true, ltb-false, lt-ltb}
use Rattle.laws.proofs.Cases.{split, by-test, both}
use Rattle.pools.specs.Events.{pool_count}
use Rattle.generator.specs.Counter.{little_endian}
use Rattle.keyed.specs.Scheduler.{step_block, input_pool, empties, divides, greatest, output_pool, takes}
use Rattle.keyed.proofs.Periods.{greatest-le, greatest-passes, greatest-above, greatest-is, period-pos, period-double, mod-period, mod-32, divides-0, divides-rest, not-divides-rest, divides-after, empties-some}
use Rattle.keyed_reference.specs.Reference.{scheduled_step}
use Rattle.keyed_reference.specs.Schedule.{InputLaw, OutputIs, OutputLaw, ScheduleLaw}

-- ---- which steps empty pool i

-- r is the remainder by 2 m
half : (r m : ℕ) → 0 < m → r < m + m → r % m ≡ 0 → (r ≡ 0 → ⊥) → r ≡ m
half r m pos h e n =
    by-test (ltb r m) (r ≡ m)
    (λ t. absurd (n (sym (mod-eq_of_lt (ltb-true r m t)) ∙ e)))
    (λ t.
    let k : m ≤ r = ltb-false r m t in
    let z : r - m ≡ 0 = sym (mod-eq_of_lt {n = r - m} {m = m} (omega arith)) ∙ sym (mod-eq-sub-mod k) ∙ e in
    omega arith)

-- below 31: the odd multiples of 32 × 2^i
pub takes-odd : (n i : ℕ) → i < 31 → takes n i ≡ true → n % (32 * 2 ^ (i + 1)) ≡ 32 * 2 ^ i
unfolding takes output_pool
takes-odd n i h e =
    let both = both (empties n) (eqb (greatest (divides n) 31) i) e in
    let out : greatest (divides n) 31 ≡ i = eqb-true (greatest (divides n) 31) i both.1 in
    let here : divides n i ≡ true = subst (λ (k : ℕ). divides n k ≡ true) out (greatest-passes (divides n) 31 (divides-0 n both.0)) in
    let above : divides n (i + 1) ≡ false = greatest-above (divides n) 31 (i + 1) (omega arith) (omega arith) in
    half (n % (32 * 2 ^ (i + 1))) (32 * 2 ^ i) (period-pos i)
    (subst (λ (k : ℕ). n % (32 * 2 ^ (i + 1)) < k) (period-double i) (mod-lt n (period-pos (i + 1))))
    (shorter ∙ divides-rest n i here)
    (not-divides-rest n (i + 1) above)
  where
    shorter : n % (32 * 2 ^ (i + 1)) % (32 * 2 ^ i) ≡ n % (32 * 2 ^ i)
    shorter = ap (λ (k : ℕ). n % (32 * 2 ^ k) % (32 * 2 ^ i)) (omega arith) ∙ mod-period n 1 i

-- where a positive number is taken
empties-at : (n : ℕ) → 0 < n → n % 32 ≡ 0 → empties n ≡ true
unfolding empties
empties-at n h e = rw (lt-ltb 0 n h, e)

pub odd-takes : (n i : ℕ) → i < 31 → n % (32 * 2 ^ (i + 1)) ≡ 32 * 2 ^ i → takes n i ≡ true
unfolding takes output_pool
odd-takes n i h e =
    rw (empties-at n positive by-32)
    (eq-eqb _ i (greatest-is (divides n) 31 i (omega arith) here (λ j a b. divides-after n (i + 1) j above (omega arith))))
  where
    positive : 0 < n
    positive = omega (arith, mod-le n (32 * 2 ^ (i + 1)), period-pos i, e)

    by-32 : n % 32 ≡ 0
    by-32 = sym (mod-32 n (i + 1)) ∙ ap (λ (x : ℕ). x % 32) e ∙ mul-mod_right 32 (2 ^ i)

    here : divides n i ≡ true
    here =
        unfold divides in
        eq-eqb _ 0
        (sym (mod-period n 1 i) ∙ ap (λ (k : ℕ). n % (32 * 2 ^ k) % (32 * 2 ^ i)) (omega arith)
        ∙ ap (λ (x : ℕ). x % (32 * 2 ^ i)) e ∙ mod_self (32 * 2 ^ i))

    above : divides n (i + 1) ≡ false
    above = unfold divides in ne_eqb (n % (32 * 2 ^ (i + 1))) 0 (λ z. omega (arith, period-pos i, e, z))

-- of pool 31: all multiples above 0
pub takes-last : (n : ℕ) → takes n 31 ≡ true → (0 < n) × (n % (32 * 2 ^ 31) ≡ 0)
unfolding takes output_pool
takes-last n e =
    let both = both (empties n) (eqb (greatest (divides n) 31) 31) e in
    let out : greatest (divides n) 31 ≡ 31 = eqb-true (greatest (divides n) 31) 31 both.1 in
    let here : divides n 31 ≡ true = subst (λ (k : ℕ). divides n k ≡ true) out (greatest-passes (divides n) 31 (divides-0 n both.0)) in
    (empties-some n both.0, divides-rest n 31 here)

pub last-takes : (n : ℕ) → 0 < n → n % (32 * 2 ^ 31) ≡ 0 → takes n 31 ≡ true
unfolding takes output_pool
last-takes n h e =
    rw (empties-at n h (sym (mod-32 n 31) ∙ ap (λ (x : ℕ). x % 32) e))
    (eq-eqb _ 31 (greatest-is (divides n) 31 31 (le_refl 31) (unfold divides in eq-eqb _ 0 e) (λ j a b. absurd (omega arith))))

-- ---- the first multiples from t on

-- w is 2 m: the first odd multiple of m from t on
module _ (m w t : ℕ) (pos : 0 < m) (double : w ≡ m + m) where
  odd-from : t ≤ w * ((t + m - 1) / w) + m
  odd-from = omega (arith, lt-mul-div-succ (t + m - 1) {b = w} (omega arith), mul-add w ((t + m - 1) / w) 1, mul-one w)

  odd-soon : w * ((t + m - 1) / w) + m < t + w
  odd-soon = omega (arith, mul-div-le (t + m - 1) w)

  odd-rest : (w * ((t + m - 1) / w) + m) % w ≡ m
  odd-rest = mul-add-mod_self_left w ((t + m - 1) / w) m ∙ mod-eq_of_lt (omega arith)

  odd-first : (n : ℕ) → t ≤ n → n % w ≡ m → w * ((t + m - 1) / w) + m ≤ n
  odd-first n h e =
      let whole : w * (n / w) + m ≡ n = omega (arith, div-add-mod n w) in
      let room : t + m - 1 < (n / w + 1) * w = omega (arith, whole, mul_comm (n / w + 1) w, mul-add w (n / w) 1, mul-one w) in
      let below : (t + m - 1) / w < n / w + 1 = (div-lt_iff_lt-mul {k = w} (omega arith)).1 room in
      let less : (t + m - 1) / w ≤ n / w = omega arith in
      omega (arith, mul-le-mul_left w less, whole)

-- the first multiple of m above 0 from t on
module _ (m t : ℕ) (pos : 0 < m) where
  whole_from : t ≤ m * ((t - 1) / m + 1)
  whole_from = omega (arith, lt-mul-div-succ (t - 1) {b = m} pos)

  whole-soon : m * ((t - 1) / m + 1) < t + (m + m)
  whole-soon = omega (arith, mul-div-le (t - 1) m, mul-add m ((t - 1) / m) 1, mul-one m)

  whole-first : (n : ℕ) → t ≤ n → 0 < n → n % m ≡ 0 → m * ((t - 1) / m + 1) ≤ n
  whole-first n h p e =
      let whole : m * (n / m) ≡ n = omega (arith, div-add-mod n m) in
      let below : (t - 1) / m < n / m = (div-lt_iff_lt-mul {k = m} pos).1 (omega (arith, whole, mul_comm (n / m) m)) in
      let less : (t - 1) / m + 1 ≤ n / m = omega arith in
      omega (arith, mul-le-mul_left m less, whole)

  whole-some : 0 < m * ((t - 1) / m + 1)
  whole-some = omega (arith, lt-mul-div-succ (t - 1) {b = m} pos)

-- ---- the step that an event of pool i is booked for

pub scheduled-from : (i t : ℕ) → t ≤ scheduled_step i t
unfolding scheduled_step
scheduled-from i t =
    split (λ (n : ℕ). t ≤ n) (ltb i 31)
    (λ _. odd-from (32 * 2 ^ i) (32 * 2 ^ (i + 1)) t (period-pos i) (period-double i))
    (λ _. whole_from (32 * 2 ^ i) t (period-pos i))

pub scheduled-soon : (i t : ℕ) → scheduled_step i t < t + 32 * 2 ^ (i + 1)
unfolding scheduled_step
scheduled-soon i t =
    split (λ (n : ℕ). n < t + 32 * 2 ^ (i + 1)) (ltb i 31)
    (λ _. odd-soon (32 * 2 ^ i) (32 * 2 ^ (i + 1)) t (period-pos i) (period-double i))
    (λ _. rw (period-double i) (whole-soon (32 * 2 ^ i) t (period-pos i)))

last-pool : (i : ℕ) → i < 32 → 31 ≤ i → i ≡ 31
last-pool i h k = omega arith

-- it is the first step from t on that empties pool i
pub scheduled-takes : (i t : ℕ) → i < 32 → takes (scheduled_step i t) i ≡ true
unfolding scheduled_step
scheduled-takes i t h =
    by-test (ltb i 31) _
    (λ b. rw b (odd-takes _ i (ltb-true i 31 b) (odd-rest (32 * 2 ^ i) (32 * 2 ^ (i + 1)) t (period-pos i) (period-double i))))
    (λ b.
    let e = last-pool i h (ltb-false i 31 b) in
    rw (b, e) (last-takes _ (whole-some (32 * 2 ^ 31) t (period-pos 31)) (mul-mod_right (32 * 2 ^ 31) _)))

pub scheduled-first : (i t n : ℕ) → i < 32 → t ≤ n → takes n i ≡ true → scheduled_step i t ≤ n
unfolding scheduled_step
scheduled-first i t n h k u =
    by-test (ltb i 31) _
    (λ b. rw b (odd-first (32 * 2 ^ i) (32 * 2 ^ (i + 1)) t (period-pos i) (period-double i) n k (takes-odd n i (ltb-true i 31 b) u)))
    (λ b.
    let e = last-pool i h (ltb-false i 31 b) in
    let y = takes-last n (subst (λ (j : ℕ). takes n j ≡ true) e u) in
    rw (b, e) (whole-first (32 * 2 ^ 31) t (period-pos 31) n k y.0 y.1))

-- ---- the laws

pub input-small : (key : List ℕ) (t : ℕ) → input_pool key t < 32
unfolding input_pool pool_count
input-small key t = mod-lt _ {m = 32} (omega arith)

-- the bytes of a number, least significant first
block-length : (n t : ℕ) → length (little_endian n t) ≡ n
unfolding little_endian
block-length zero t = refl
block-length (suc n) t = omega (arith, block-length n (t / 256))

block-digits : (n t j : ℕ) → j < n → get_or (little_endian n t) j 0 ≡ t / 256 ^ j % 256
unfolding little_endian
block-digits zero t j h = absurd (omega arith)
block-digits (suc n) t zero h = ap (λ (x : ℕ). x % 256) (sym (div-one t))
block-digits (suc n) t (suc j) h =
    let more : suc j ≡ j + 1 = omega arith in
    let power : 256 * 256 ^ j ≡ 256 ^ suc j = mul_comm 256 (256 ^ j) ∙ sym (ap (λ (k : ℕ). 256 ^ k) more ∙ pow-add 256 j 1) in
    block-digits n (t / 256) j (omega arith)
    ∙ ap (λ (x : ℕ). x % 256) (div-div-eq-div-mul t 256 (256 ^ j) ∙ ap (λ (m : ℕ). t / m) power)

pub input-law : InputLaw
unfolding input_pool pool_count step_block
input-law key t =
    record { small = input-small key t; byte = refl; whole = block-length 16 t; digits = block-digits 16 t }

pub output-is : (t : ℕ) → empties t ≡ true → OutputIs t
unfolding output_pool
output-is t e =
    record {
      later = empties-some t e;
      multiple = divides-rest t 0 (divides-0 t e);
      small = greatest-le (divides t) 31;
      divided = divides-rest t (greatest (divides t) 31) (greatest-passes (divides t) 31 (divides-0 t e));
      largest = λ j h z.
          by-test (ltb (greatest (divides t) 31) j) (j ≤ greatest (divides t) 31)
          (λ l. absurd (not-divides-rest t j (greatest-above (divides t) 31 j (ltb-true (greatest (divides t) 31) j l) h) z))
          (λ l. ltb-false (greatest (divides t) 31) j l);
    }

pub output-law : OutputLaw
output-law = record { emptied = output-is; every = empties-at }

pub schedule-law : ScheduleLaw
schedule-law i t h =
    record {
      later = scheduled-from i t;
      emptied = scheduled-takes i t h;
      first = λ n k l. by-test (takes n i) (takes n i ≡ false) (λ u. absurd (omega (arith, scheduled-first i t n h k u))) (λ u. u);
      soon = scheduled-soon i t;
    }
