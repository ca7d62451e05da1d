-- Laws of the counter's bytes and the number that they stand for.
-- Assumes nothing.
use mathlib.Core.Path.{◌≡◌, refl, ap, ap₂, ◌∙◌, sym}
use mathlib.Core.List.{List, [], ◌∷◌}
use Prim.Native.Nat.{ℕ, zero, suc, ◌+◌, ◌*◌, ◌/◌, ◌%◌, ◌^◌, ◌-◌, ◌≤◌, ◌<◌}
use native.Mathlib.Nat.{pow-suc, div-lt_iff_lt-mul, div-one, div-div-eq-div-mul, mul_assoc, mul_comm, le_of_eq, pow-succ', not-suc-le-zero, le_of_suc-le-suc, div-eq_of_lt, div-eq-sub-div, add-mul}
use native.Mathlib.Omega.{arith}
use lib.Pow.{lt_of_le_ones}
use native.Mathlib.Decide.{dec_lt}
use lib.Dec.{ltb, lit<, eqb}
use lib.ListN.{length, get_or, take, set}
use lib.Seq.{take_all}
use borrow.Author.Tests.{lt-ltb, le-ltb, ne_eqb}
use Rattle.std.specs.Int.{w128, byte_at, byte_worth, bytes_low_first, sum_through, from_le_bytes, to_le_bytes}
use Rattle.cipher.specs.Aes.{Bytes}
use Rattle.generator.specs.Counter.{value, little_endian, max_counter, counter_block}
use mathlib.Core.Bool.{◌&&◌}
use Rattle.laws.specs.Lists.{all_zero}
use native.Mathlib.Numerals.{add-one}

pub length-little_endian : (n v : ℕ) → length (little_endian n v) ≡ n
unfolding little_endian
length-little_endian zero v = refl
length-little_endian (suc n) v = ap suc (length-little_endian n (v / 256))

-- the number of the bytes of v is v
pub value-little_endian : (n v : ℕ) → v < 256 ^ n → value (little_endian n v) ≡ v
unfolding value little_endian
value-little_endian zero v h = omega arith
value-little_endian (suc n) v h =
    let h' : v < 256 ^ n * 256 = rw pow-suc at h in
    rw (value-little_endian n (v / 256) ((div-lt_iff_lt-mul {k = 256} (omega arith)).1 h')) (omega arith)

-- the bytes of the number of some bytes are those bytes
pub little_endian-value : (ps : List ℕ) → Bytes ps → little_endian (length ps) (value ps) ≡ ps
unfolding value little_endian
little_endian-value [] h = refl
little_endian-value (p ∷ ps) h =
    let low : (p + 256 * value ps) % 256 ≡ p = omega (arith, h 0) in
    let high : (p + 256 * value ps) / 256 ≡ value ps = omega (arith, h 0) in
    rw (low, high, little_endian-value ps (λ i. h (suc i)))

-- a value of the counter has 16 bytes
pub value-counter : (v : ℕ) → v ≤ max_counter → value (little_endian 16 v) ≡ v
unfolding max_counter
value-counter v h = value-little_endian 16 v (lt_of_le_ones 128 h)

-- the counter's bytes are those of its value
pub counter-value : (ps : List ℕ) → length ps ≡ 16 → Bytes ps → little_endian 16 (value ps) ≡ ps
counter-value ps full bytes = rw (← full) (little_endian-value ps bytes)

quotient-some : (m v : ℕ) → 0 < m → ltb 0 (v / m) ≡ ltb (m - 1) v
quotient-some m v pos =
    elim (dec_lt v m) [
      | yes h ↦ rw (div-eq_of_lt h, le-ltb (m - 1) v (omega arith))
      | no h ↦ rw (lt-ltb 0 (v / m) (omega (arith, div-eq-sub-div {n = v} pos (omega arith))), lt-ltb (m - 1) v (omega arith))
    ]

-- something is carried out of the counter where the sum is above its largest value
pub carry-some : (v : ℕ) → ltb 0 (v / 256 ^ 16) ≡ ltb max_counter v
unfolding max_counter
carry-some v = quotient-some (256 ^ 16) v (lit< tt)

none : value [] ≡ 0
unfolding value
none = refl

-- what is left up to m is too little for k
pub no-room : (m v k : ℕ) → v ≤ m → ltb (m - v) k ≡ ltb m (v + k)
no-room m v k h =
    elim (dec_lt m (v + k)) [
      | yes l ↦ rw (lt-ltb (m - v) k (omega arith), lt-ltb m (v + k) l)
      | no g ↦ rw (le-ltb (m - v) k (omega arith), le-ltb m (v + k) (omega arith))
    ]

-- ---- std's numbers of bytes and bytes of numbers, the lowest byte first, are these

worth : (i b : ℕ) → byte_worth i b ≡ b * 256 ^ i
worth zero b = omega arith
worth (suc i) b = refl

value-take : (ps : List ℕ) (k : ℕ) → value (take (suc k) ps) ≡ value (take k ps) + get_or ps k 0 * 256 ^ k
unfolding value
value-take [] zero = refl
value-take [] (suc k) = omega arith
value-take (p ∷ ps) zero = omega arith
value-take (p ∷ ps) (suc k) =
    let b : ℕ = get_or ps k 0 in
    let e : b * 256 ^ suc k ≡ 256 * (b * 256 ^ k) = rw (pow-suc, ← mul_assoc b (256 ^ k) 256, mul_comm (b * 256 ^ k) 256) in
    rw e (omega (arith, value-take ps k))

summed : (ps : List ℕ) (k : ℕ) → sum_through (λ i. byte_worth i (get_or ps i 0)) k ≡ value (take (suc k) ps)
summed ps zero = omega (arith, value-take ps 0, none)
summed ps (suc k) = rw (value-take ps (suc k), summed ps k, worth (suc k) (get_or ps (suc k) 0))

pub number-low_first : (ps : List ℕ) → length ps ≡ 16 → from_le_bytes w128 ps ≡ value ps
number-low_first ps full = summed ps 15 ∙ rw (take_all 16 ps (le_of_eq full))

byte : (i n : ℕ) → byte_at i n ≡ n / 256 ^ i % 256
byte zero n = rw div-one
byte (suc i) n = refl

low-first : (i k n : ℕ) → bytes_low_first i k n ≡ little_endian k (n / 256 ^ i)
unfolding little_endian
low-first i zero n = refl
low-first i (suc k) n =
    let next : n / 256 ^ i / 256 ≡ n / 256 ^ suc i = div-div-eq-div-mul n (256 ^ i) 256 ∙ rw pow-suc in
    ap₂ (λ (p : ℕ) (ps : List ℕ). p ∷ ps) (byte i n) (low-first (suc i) k n ∙ rw next)

pub bytes-low_first : (n : ℕ) → to_le_bytes w128 n ≡ little_endian 16 n
bytes-low_first n = low-first 0 16 n ∙ rw div-one

bytes-little : (n v i : ℕ) → get_or (little_endian n v) i 0 < 256
unfolding little_endian
bytes-little zero v i = lit< tt
bytes-little (suc n) v zero = omega arith
bytes-little (suc n) v (suc i) = bytes-little n (v / 256) i

-- a counter block is bytes
pub bytes-counter : (c : ℕ) → Bytes (counter_block c)
unfolding counter_block
bytes-counter c = bytes-little 16 c

-- ---- bytes that are stored one by one

-- what is carried out of n bytes is lost
pub little_endian-wraps : (n v : ℕ) → little_endian n (v + 256 ^ n) ≡ little_endian n v
unfolding little_endian
little_endian-wraps zero v = refl
little_endian-wraps (suc n) v =
    let p : 256 ^ suc n ≡ 256 * 256 ^ n = pow-succ' 256 n in
    let low : (v + 256 ^ suc n) % 256 ≡ v % 256 = omega (arith, p) in
    let high : (v + 256 ^ suc n) / 256 ≡ v / 256 + 256 ^ n = omega (arith, p) in
    rw (low, high, little_endian-wraps n (v / 256))

-- the number after a store at place i
pub value_set : (ps : List ℕ) (i x : ℕ) → i < length ps → value (set ps i x) + get_or ps i 0 * 256 ^ i ≡ value ps + x * 256 ^ i
unfolding value
value_set [] i x h = absurd (not-suc-le-zero h)
value_set (p ∷ ps) zero x h = omega arith
value_set (p ∷ ps) (suc i) x h =
    let rest : value (set ps i x) + get_or ps i 0 * 256 ^ i ≡ value ps + x * 256 ^ i = value_set ps i x (le_of_suc-le-suc h) in
    let e : 256 ^ suc i ≡ 256 * 256 ^ i = pow-succ' 256 i in
    let f : (y : ℕ) → y * (256 * 256 ^ i) ≡ 256 * (y * 256 ^ i)
    = λ y. sym (mul_assoc y 256 (256 ^ i)) ∙ rw (mul_comm y 256) (mul_assoc 256 y (256 ^ i)) in
    rw (e, f (get_or ps i 0), f x) (omega (arith, rest))

sum-zero : (p v : ℕ) → eqb (p + 256 * v) 0 ≡ (eqb p 0 && eqb v 0)
sum-zero zero zero = refl
sum-zero zero (suc v) = rw (ne_eqb (0 + 256 * suc v) 0 (λ e. omega arith), ne_eqb (suc v) 0 (λ e. omega arith))
sum-zero (suc p) v = rw (ne_eqb (suc p + 256 * v) 0 (λ e. omega arith), ne_eqb (suc p) 0 (λ e. omega arith))

-- the number is 0 where each byte is
pub all_zero-value : (ps : List ℕ) → all_zero ps ≡ eqb (value ps) 0
unfolding all_zero value
all_zero-value [] = refl
all_zero-value (p ∷ ps) = rw (all_zero-value ps) (sym (sum-zero p (value ps)))

-- a 1 that is added at a place: the byte takes it, or it is 255 and the 1 goes on to the next place
pub next-value : (a b d v s : ℕ) → a + d * s ≡ v + (d + 1) * s → v + s ≡ b → a ≡ b
next-value a b d v s e f = omega (arith, e, f, add-mul d 1 s)

pub carry-on : (ps : List ℕ) (i v : ℕ) → i < length ps → get_or ps i 0 ≡ 255 → value ps + 256 ^ i ≡ v → value (set ps i 0) + 256 ^ (i + 1) ≡ v
carry-on ps i v h full e =
    let p : 256 ^ (i + 1) ≡ 256 ^ i * 256 = rw add-one (pow-suc 256 i) in
    let s : value (set ps i 0) + 255 * 256 ^ i ≡ value ps + 0 * 256 ^ i = rw full at (value_set ps i 0 h) in
    omega (arith, p, s, e)
