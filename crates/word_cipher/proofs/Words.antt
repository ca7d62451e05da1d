-- Words of four bytes, byte by byte.
-- Assumes nothing.
use mathlib.Core.Path.{◌≡◌, refl, ap, ◌∙◌}
use mathlib.Core.List.{List, [], ◌∷◌}
use Prim.Native.Nat.{ℕ, zero, suc, ◌+◌, ◌*◌, ◌/◌, ◌%◌, ◌^◌, ◌<◌}
use native.Mathlib.Nat.{not-suc-le-zero, le_of_suc-le-suc, mul_comm}
use native.Mathlib.Omega.{arith}
use lib.Bits.{bit_xor, xor_block}
use lib.ListN.{length, get_or}
use lib.Seq.{ext_get_or}
use Rattle.std.specs.Simd.{first_chunks}
use Rattle.laws.proofs.Lists.{chunk-element}
use Rattle.laws.proofs.Tabulate.{length-tabulate, get_d_tabulate}
use Rattle.cipher.specs.Aes.{at, Bytes}
use Rattle.cipher.proofs.Bytes.{bytes-tabulate}
use Rattle.word_cipher.specs.Words.{word, byte_of, word_in, packed, unpacked}

-- word k of a list of bytes, from its first n chunks of four
pub chunk-word : (n : ℕ) (s : List ℕ) (k : ℕ) → k < n
    → let bytes = get_or (first_chunks 4 n s) k [] in
    at bytes 0 + at bytes 1 * 256 + at bytes 2 * 65536 + at bytes 3 * 16777216 ≡ word_in s k
unfolding word
chunk-word n s k h =
    let first : k * 4 + 0 ≡ 4 * k = omega arith in
    let a = rw first at (chunk-element n 4 k 0 s 0 h (omega arith)) in
    let b = rw (mul_comm k 4) at (chunk-element n 4 k 1 s 0 h (omega arith)) in
    let c = rw (mul_comm k 4) at (chunk-element n 4 k 2 s 0 h (omega arith)) in
    let d = rw (mul_comm k 4) at (chunk-element n 4 k 3 s 0 h (omega arith)) in
    omega (arith, a, b, c, d)

-- what holds at 0 to 3
four : (P : ℕ → Type 0) → P 0 → P 1 → P 2 → P 3 → (x : ℕ) → x < 4 → P x
four P p q r s zero h = p
four P p q r s (suc zero) h = q
four P p q r s (suc (suc zero)) h = r
four P p q r s (suc (suc (suc zero))) h = s
four P p q r s (suc (suc (suc (suc x)))) h =
    absurd (not-suc-le-zero (le_of_suc-le-suc (le_of_suc-le-suc (le_of_suc-le-suc (le_of_suc-le-suc h)))))

pub list_ext : {a b c d e f g h : ℕ} → a ≡ e → b ≡ f → c ≡ g → d ≡ h → a ∷ b ∷ c ∷ d ∷ [] ≡ e ∷ f ∷ g ∷ h ∷ []
list_ext p q r s = cc

pub word-ext : {a b c d e f g h : ℕ} → a ≡ e → b ≡ f → c ≡ g → d ≡ h → word a b c d ≡ word e f g h
word-ext p q r s = cc

-- words are added byte by byte
pub xor-word : (a b c d e f g h : ℕ) → a < 256 → b < 256 → c < 256 → e < 256 → f < 256 → g < 256
    → bit_xor (word a b c d) (word e f g h) ≡ word (bit_xor a e) (bit_xor b f) (bit_xor c g) (bit_xor d h)
unfolding word
xor-word a b c d e f g h la lb lc le lf lg =
    xor_block 8 ((d * 256 + c) * 256 + b) ((h * 256 + g) * 256 + f) a e la le
    ∙ ap (λ (x : ℕ). x * 256 + bit_xor a e)
    (xor_block 8 (d * 256 + c) (h * 256 + g) b f lb lf ∙ ap (λ (x : ℕ). x * 256 + bit_xor b f) (xor_block 8 d h c g lc lg))

-- a word has the bytes that it is made of
pub bytes_of : (a b c d : ℕ) → a < 256 → b < 256 → c < 256 → d < 256
    → (byte_of (word a b c d) 0 ≡ a) × (byte_of (word a b c d) 1 ≡ b) × (byte_of (word a b c d) 2 ≡ c) × (byte_of (word a b c d) 3 ≡ d)
unfolding byte_of word
bytes_of a b c d la lb lc ld = (omega arith, omega arith, omega arith, omega arith)

pub bytes-in : (s : List ℕ) → Bytes s → (i : ℕ)
    → (byte_of (word_in s i) 0 ≡ at s (4 * i)) × (byte_of (word_in s i) 1 ≡ at s (4 * i + 1))
    × (byte_of (word_in s i) 2 ≡ at s (4 * i + 2)) × (byte_of (word_in s i) 3 ≡ at s (4 * i + 3))
bytes-in s h i = bytes_of _ _ _ _ (h _) (h _) (h _) (h _)

pub packed-at : (n j : ℕ) (s : List ℕ) → j < n → at (packed n s) j ≡ word_in s j
unfolding packed
packed-at n j s h = get_d_tabulate (word_in s) 0 n j h

-- bytes as words and back
byte-in : (s : List ℕ) → Bytes s → (i k : ℕ) → k < 4 → byte_of (word_in s i) k ≡ at s (4 * i + k)
byte-in s h i =
    let e = bytes-in s h i in
    four (λ k. byte_of (word_in s i) k ≡ at s (4 * i + k)) (e.0 ∙ ap (at s) (omega arith)) e.1 e.2 e.3

unpacked-at : (n i : ℕ) (u : List ℕ) → i < n → at (unpacked n u) i ≡ byte_of (at u (i / 4)) (i % 4)
unfolding unpacked
unpacked-at n i u h = get_d_tabulate (λ j. byte_of (at u (j / 4)) (j % 4)) 0 n i h

length-unpacked : (n : ℕ) (u : List ℕ) → length (unpacked n u) ≡ n
unfolding unpacked
length-unpacked n u = length-tabulate _ n

pub bytes-unpacked : (n : ℕ) (u : List ℕ) → Bytes (unpacked n u)
unfolding unpacked byte_of
bytes-unpacked n u = bytes-tabulate _ n (λ i. omega arith)

pub unpacks : (n : ℕ) (s : List ℕ) → Bytes s → length s ≡ 4 * n → unpacked (4 * n) (packed n s) ≡ s
unpacks n s h l =
    ext_get_or 0 (unpacked (4 * n) (packed n s)) s (length-unpacked (4 * n) (packed n s) ∙ rw l)
    (λ i b.
    let low : i < 4 * n = rw length-unpacked at b in
    let place : 4 * (i / 4) + i % 4 ≡ i = omega arith in
    unpacked-at (4 * n) i (packed n s) low
    ∙ ap (λ (x : ℕ). byte_of x (i % 4)) (packed-at n (i / 4) s (omega arith))
    ∙ byte-in s h (i / 4) (i % 4) (omega arith)
    ∙ ap (at s) place)

-- words as bytes and back
last_byte : (x : ℕ) → x / 256 * 256 + x % 256 ≡ x
last_byte x = omega arith

word-of-bytes : (x : ℕ) → x < 2 ^ 32 → word (byte_of x 0) (byte_of x 1) (byte_of x 2) (byte_of x 3) ≡ x
unfolding byte_of word
word-of-bytes x h =
    let second : x / 2 ^ 16 ≡ x / 256 / 256 = omega arith in
    let third : x / 2 ^ 24 % 256 ≡ x / 256 / 256 / 256 = omega arith in
    let whole : x / 2 ^ 0 ≡ x = omega arith in
    rw (third, second, whole, last_byte (x / 256 / 256), last_byte (x / 256)) (last_byte x)

unpacked-byte : (n j k i : ℕ) (u : List ℕ) → i < n → i ≡ 4 * j + k → k < 4 → at (unpacked n u) i ≡ byte_of (at u j) k
unpacked-byte n j k i u h e l =
    let word-place : i / 4 ≡ j = omega arith in
    let byte-place : i % 4 ≡ k = omega arith in
    unpacked-at n i u h ∙ rw (word-place, byte-place) refl

unpacked-word : (n j : ℕ) (u : List ℕ) → j < n → at u j < 2 ^ 32 → word_in (unpacked (4 * n) u) j ≡ at u j
unpacked-word n j u h b =
    word-ext (unpacked-byte (4 * n) j 0 (4 * j) u (omega arith) (omega arith) (omega arith))
    (unpacked-byte (4 * n) j 1 (4 * j + 1) u (omega arith) refl (omega arith))
    (unpacked-byte (4 * n) j 2 (4 * j + 2) u (omega arith) refl (omega arith))
    (unpacked-byte (4 * n) j 3 (4 * j + 3) u (omega arith) refl (omega arith))
    ∙ word-of-bytes (at u j) b

pub packs : (n : ℕ) (u : List ℕ) → length u ≡ n → ((i : ℕ) → at u i < 2 ^ 32) → packed n (unpacked (4 * n) u) ≡ u
unfolding packed
packs n u l b =
    ext_get_or 0 (packed n (unpacked (4 * n) u)) u (length-tabulate _ n ∙ rw l)
    (λ j h.
    let low : j < n = rw length-tabulate at h in
    packed-at n j (unpacked (4 * n) u) low ∙ unpacked-word n j u low (b j))
