-- Laws of V's bytes and the number that they stand for.
-- Assumes nothing.
use mathlib.Core.Path.{◌≡◌, refl, sym, ap, ap₂, ◌∙◌}
use mathlib.Core.List.{List, [], ◌∷◌}
use Prim.Native.Nat.{ℕ, zero, suc, ◌+◌, ◌*◌, ◌/◌, ◌%◌, ◌^◌, ◌-◌, ◌<◌}
use native.Mathlib.Nat.{pow-succ', pow-suc, mul-one, div-one, le_of_eq, one-le-pow, zero-lt-suc, mod-one, mod-eq_of_lt, mod-lt, mul-add-mod_self_right, add-mul, mul_assoc, mod-mod, add_comm, mul_comm}
use native.Mathlib.Omega.{arith}
use lib.Arith.{digits_lt, digits_div, digits_mod, mod-mul}
use lib.Dec.{lit<}
use lib.ListN.{length, get_or, take, length-take, set, length-set}
use lib.Seq.{take_all}
use Rattle.std.specs.Int.{w128, byte_at, byte_worth, bytes_high_first, sum_through, from_be_bytes, to_be_bytes}
use Rattle.cipher.specs.Aes.{Bytes}
use Rattle.ctr_drbg.specs.Counter.{octets_to_integer, integer_to_octets, increment}

positive : (n : ℕ) → 0 < 256 ^ n
positive n = one-le-pow n 256 (zero-lt-suc 255)

length-octets : (n x : ℕ) → length (integer_to_octets n x) ≡ n
unfolding integer_to_octets
length-octets zero x = refl
length-octets (suc n) x = ap suc (length-octets n x)

-- the number of the n low bytes of x
pub integer-octets : (n x : ℕ) → octets_to_integer (integer_to_octets n x) ≡ x % 256 ^ n
unfolding octets_to_integer integer_to_octets
integer-octets zero x = sym (mod-one x)
integer-octets (suc n) x =
    rw (length-octets n x, integer-octets n x, pow-succ' 256 n) (sym (mod-mul x {m = 256} {c = 256 ^ n} (omega arith) (positive n)))

-- the high digit and the low ones
high : (x c : ℕ) → 0 < c → x / c % 256 ≡ x % (256 * c) / c
high x c h = sym (rw (mod-mul x {m = 256} {c = c} (omega arith) h) (digits_div (x / c % 256) (mod-lt x h)))

low : (x c : ℕ) → 0 < c → x % (256 * c) % c ≡ x % c
low x c h = rw (mod-mul x {m = 256} {c = c} (omega arith) h) (digits_mod (x / c % 256) (mod-lt x h))

-- numbers with the same remainder have the same bytes
octets-same : (n x y : ℕ) → x % 256 ^ n ≡ y % 256 ^ n → integer_to_octets n x ≡ integer_to_octets n y
unfolding integer_to_octets
octets-same zero x y e = refl
octets-same (suc n) x y e =
    let c : ℕ = 256 ^ n in
    let f : x % (256 * c) ≡ y % (256 * c) = rw (pow-succ' 256 n) at e in
    ap₂ (λ (p : ℕ) (ps : List ℕ). p ∷ ps)
    (high x c (positive n) ∙ ap (λ (m : ℕ). m / c) f ∙ sym (high y c (positive n)))
    (octets-same n x y (sym (low x c (positive n)) ∙ ap (λ (m : ℕ). m % c) f ∙ low y c (positive n)))

integer-below : (ps : List ℕ) → Bytes ps → octets_to_integer ps < 256 ^ length ps
unfolding octets_to_integer
integer-below [] h = omega arith
integer-below (p ∷ ps) h = rw (pow-succ' 256 (length ps)) (digits_lt (h 0) (integer-below ps (λ i. h (suc i))))

-- the bytes of the number of some bytes are those bytes
pub octets-integer : (ps : List ℕ) → Bytes ps → integer_to_octets (length ps) (octets_to_integer ps) ≡ ps
unfolding octets_to_integer integer_to_octets
octets-integer [] h = refl
octets-integer (p ∷ ps) h =
    let rest : Bytes ps = λ i. h (suc i) in
    let c : ℕ = 256 ^ length ps in
    ap₂ (λ (q : ℕ) (qs : List ℕ). q ∷ qs)
    (rw (digits_div p (integer-below ps rest)) (mod-eq_of_lt (h 0)))
    (octets-same (length ps) (p * c + octets_to_integer ps) (octets_to_integer ps) (mul-add-mod_self_right p c (octets_to_integer ps)) ∙ octets-integer ps rest)

-- a step of V gives bytes
pub bytes-octets : (n x : ℕ) → Bytes (integer_to_octets n x)
unfolding integer_to_octets
bytes-octets zero x i = lit< tt
bytes-octets (suc n) x zero = omega arith
bytes-octets (suc n) x (suc i) = bytes-octets n x i

-- ---- std's numbers of bytes and bytes of numbers, the highest byte first, are these

worth : (i b : ℕ) → byte_worth i b ≡ b * 256 ^ i
worth zero b = omega arith
worth (suc i) b = refl

none : octets_to_integer [] ≡ 0
unfolding octets_to_integer
none = refl

-- one byte more
number-take : (ps : List ℕ) (k : ℕ) → k < length ps → octets_to_integer (take (suc k) ps) ≡ octets_to_integer (take k ps) * 256 + get_or ps k 0
unfolding octets_to_integer
number-take [] k h = absurd (omega arith)
number-take (p ∷ ps) zero h = omega arith
number-take (p ∷ ps) (suc k) h =
    let e : length (take (suc k) ps) ≡ suc (length (take k ps)) = simp length-take (omega arith) in
    let f : 256 ^ suc (length (take k ps)) ≡ 256 ^ length (take k ps) * 256 = pow-suc 256 (length (take k ps)) in
    rw (e, f, ← mul_assoc) (omega (arith, number-take ps k (omega arith)))

-- the first k + 1 of n bytes, with j behind them
summed : (ps : List ℕ) (n k j : ℕ) → n ≡ length ps → k + suc j ≡ n
    → sum_through (λ i. byte_worth (n - 1 - i) (get_or ps i 0)) k ≡ octets_to_integer (take (suc k) ps) * 256 ^ j
summed ps n zero j full e =
    let here : n - 1 - 0 ≡ j = omega arith in
    let first : octets_to_integer (take 1 ps) ≡ get_or ps 0 0 = omega (arith, number-take ps 0 (omega arith), none) in
    rw (here, first, worth j (get_or ps 0 0))
summed ps n (suc k) j full e =
    let here : n - 1 - suc k ≡ j = omega arith in
    let o : ℕ = octets_to_integer (take (suc k) ps) in
    let g : ℕ = get_or ps (suc k) 0 in
    let p : o * 256 ^ suc j ≡ o * 256 * 256 ^ j = rw (pow-succ' 256 j, mul_assoc) in
    rw (summed ps n k (suc j) full (omega arith), here, worth j g, number-take ps (suc k) (omega arith), add-mul, p)

pub number-high_first : (v : List ℕ) → length v ≡ 16 → from_be_bytes w128 v ≡ octets_to_integer v
number-high_first v full = summed v 16 15 0 (sym full) refl ∙ rw (take_all 16 v (le_of_eq full), mul-one)

byte : (i n : ℕ) → byte_at i n ≡ n / 256 ^ i % 256
byte zero n = rw div-one
byte (suc i) n = refl

bytes : (k n : ℕ) → bytes_high_first k n ≡ integer_to_octets k n
unfolding integer_to_octets
bytes zero n = refl
bytes (suc k) n = ap₂ (λ (p : ℕ) (ps : List ℕ). p ∷ ps) (byte k n) (bytes k n)

pub bytes-high_first : (n : ℕ) → to_be_bytes w128 n ≡ integer_to_octets 16 n
bytes-high_first n = bytes 16 n

-- the bytes of the number after that of v are those of a step
pub stepped : (v : List ℕ) → length v ≡ 16 → to_be_bytes w128 ((from_be_bytes w128 v + 1) % 2 ^ 128) ≡ increment v
unfolding increment
stepped v full = bytes-high_first _ ∙ rw (number-high_first v full)

-- the number after a store at place i, which has k places behind it
pub integer-set :
    (ps : List ℕ) (i k x : ℕ) → i + suc k ≡ length ps →
    octets_to_integer (set ps i x) + get_or ps i 0 * 256 ^ k ≡ octets_to_integer ps + x * 256 ^ k
unfolding octets_to_integer
integer-set [] i k x h = absurd (omega arith)
integer-set (p ∷ ps) zero k x h =
    let e : length ps ≡ k = omega arith in
    rw e (omega arith)
integer-set (p ∷ ps) (suc i) k x h =
    let e : p * 256 ^ length (set ps i x) + octets_to_integer (set ps i x) + get_or ps i 0 * 256 ^ k
    ≡ p * 256 ^ length ps + octets_to_integer ps + x * 256 ^ k =
    rw (length-set ps i x) (omega (arith, integer-set ps i k x (omega arith))) in
    e

-- a turn of `increment`: the byte g and what is carried in are 256 * q + m, of which m is stored and q goes on to the place before
pub carry-on : (a u g c q m p v : ℕ) → a + g * p ≡ u + m * p → u + c * p ≡ v → g + c ≡ 256 * q + m → a + q * (p * 256) ≡ v
carry-on a u g c q m p v stored before split =
    let e : (g + c) * p ≡ (256 * q + m) * p = ap (λ (x : ℕ). x * p) split in
    let f : q * (p * 256) ≡ 256 * q * p = rw (mul_comm p 256, ← mul_assoc q 256 p, mul_comm q 256) in
    omega (arith, e, f, stored, before, add-mul g c p, add-mul (256 * q) m p)

-- V + 1 modulo 2^128 by its low bytes alone
increment-is : (v : List ℕ) → increment v ≡ integer_to_octets 16 (octets_to_integer v + 1)
unfolding increment
increment-is v = octets-same 16 ((octets_to_integer v + 1) % 2 ^ 128) (octets_to_integer v + 1) (mod-mod (octets_to_integer v + 1) (256 ^ 16))

-- what `increment` leaves: what is carried out of the first byte is lost
pub incremented : (v w : List ℕ) (carry : ℕ) → length w ≡ 16 → Bytes w → octets_to_integer w + carry * 256 ^ 16 ≡ octets_to_integer v + 1
    → w ≡ increment v
incremented v w carry full bytes e =
    let m : ℕ = 256 ^ 16 in
    let same : (octets_to_integer v + 1) % m ≡ octets_to_integer w % m =
    rw (← e, add_comm (octets_to_integer w) (carry * m)) (mul-add-mod_self_right carry m (octets_to_integer w)) in
    sym (increment-is v ∙ octets-same 16 (octets_to_integer v + 1) (octets_to_integer w) same ∙ rw (← full) (octets-integer w bytes))
