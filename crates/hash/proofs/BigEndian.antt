-- A number's bytes as the machine gives them, the most significant first, are those that the standard names.
-- Assumes nothing.
use Rattle.std.proofs.Common.{◌≡◌, ℕ, ◌+◌, ◌-◌, ◌*◌, ◌/◌, ◌%◌, ◌^◌, ◌<◌, List, get_or, ap, ◌∙◌, mul_comm, w32, w64, arith}
use Rattle.std.specs.Int.{to_be_bytes}
use Rattle.laws.specs.Lists.{tabulate}
use Rattle.laws.proofs.Tabulate.{get_d_tabulate}
use Rattle.hash.specs.Padding.{length_byte}
use Rattle.hash.specs.Sha256.{words_byte}
use Rattle.hash.proofs.Padding.{byte-mod}

-- the length of a message of n bytes in bits, in eight bytes
pub length-bytes : (n : ℕ) → to_be_bytes w64 (n * 8 % 2 ^ 64) ≡ tabulate (length_byte (8 * n)) 8
unfolding tabulate
length-bytes n =
    let b : (i : ℕ) → i < 8 → n * 8 % 2 ^ 64 / 2 ^ (56 - 8 * i) % 256 ≡ length_byte (8 * n) i =
    λ i h. byte-mod (n * 8) 64 (8 * i) (56 - 8 * i) (omega arith) ∙ ap (λ (x : ℕ). x / 2 ^ (56 - 8 * i) % 256) (mul_comm n 8) in
    let last : n * 8 % 2 ^ 64 % 256 ≡ length_byte (8 * n) 7 = omega arith in
    cc (b 0 (omega arith), b 1 (omega arith), b 2 (omega arith), b 3 (omega arith), b 4 (omega arith), b 5 (omega arith), b 6 (omega arith), last)

-- word i of h, in four bytes
word-bytes : (h : List ℕ) (i : ℕ) → to_be_bytes w32 (get_or h i 0) ≡ tabulate (λ (j : ℕ). words_byte h (4 * i + j)) 4
unfolding tabulate
word-bytes h i =
    let x : ℕ = get_or h i 0 in
    let b : (j : ℕ) → j < 4 → x / 2 ^ (24 - 8 * j) % 256 ≡ words_byte h (4 * i + j) =
    λ j l.
    let q : (4 * i + j) / 4 ≡ i = omega arith in
    let r : (4 * i + j) % 4 ≡ j = omega arith in
    rw (q, r) in
    let last : x % 256 ≡ x / 1 % 256 = omega arith in
    cc (b 0 (omega arith), b 1 (omega arith), b 2 (omega arith), b 3 (omega arith), last)

-- byte i of the words of h, in the four bytes of its word
pub word-byte : (h : List ℕ) (i : ℕ) → get_or (to_be_bytes w32 (get_or h (i / 4) 0)) (i % 4) 0 ≡ words_byte h i
word-byte h i =
    let place : 4 * (i / 4) + i % 4 ≡ i = omega arith in
    rw (word-bytes h (i / 4)) (get_d_tabulate (λ (j : ℕ). words_byte h (4 * (i / 4) + j)) 0 4 (i % 4) (omega arith) ∙ ap (words_byte h) place)
