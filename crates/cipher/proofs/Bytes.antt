-- Schedules and enciphered blocks hold bytes, that is numbers below 256.
-- Assumes nothing.
use Prim.Native.Nat.{ℕ, zero, suc, ◌+◌, ◌-◌, ◌*◌, ◌/◌, ◌%◌, ◌^◌, ◌<◌, ◌≤◌}
use mathlib.Core.Path.{◌≡◌}
use mathlib.Core.List.{List, [], ◌∷◌, ◌++◌}
use native.Mathlib.Nat.{pow-suc}
use native.Mathlib.Omega.{arith}
use lib.Bits.{xor_lt}
use lib.Dec.{T, eqb, ltb}
use lib.ListN.{length, get_or-append, get_or-eq_default}
use lib.Seq.{get_or-append-add}
use borrow.Author.Tests.{ltb-true, ltb-false}
use Rattle.laws.specs.Lists.{tabulate}
use Rattle.laws.proofs.Cases.{split, by-test}
use Rattle.laws.proofs.Tables.{agree, agree_at}
use Rattle.laws.proofs.Tabulate.{length-tabulate, get_d_tabulate}
use Rattle.cipher.specs.Field.{xtime, multiply, product, affine_bit, affine_from, affine, sub_byte}
use Rattle.cipher.specs.Aes.{at, Bytes, word_at, xor_word, sub_word, rot_word, rcon, x_power, temp, next_word, with_next_word, expand, key_expansion, sub_bytes, shift_rows, mixed_byte, mix_columns, add_round_key, round, rounds}

pub bytes-tabulate : (f : ℕ → ℕ) (n : ℕ) → ((i : ℕ) → f i < 256) → Bytes (tabulate f n)
bytes-tabulate f n h i =
    by-test (ltb i n) (at (tabulate f n) i < 256)
    (λ t. rw (get_d_tabulate f 0 n i (ltb-true i n t)) (h i))
    (λ t. rw (get_or-eq_default (tabulate f n) 0 {n = i} (rw length-tabulate (ltb-false i n t))) (omega arith))

bytes-append : (s t : List ℕ) → Bytes s → Bytes t → Bytes (s ++ t)
bytes-append s t p q i =
    by-test (ltb i (length s)) (at (s ++ t) i < 256)
    (λ l. rw (get_or-append s t 0 i (ltb-true i (length s) l)) (p i))
    (λ l.
    let g : length s ≤ i = ltb-false i (length s) l in
    let e : i ≡ length s + (i - length s) = omega arith in
    rw (e, get_or-append-add s t (i - length s) 0) (q (i - length s)))

bytes_word : (a b c d : ℕ) → a < 256 → b < 256 → c < 256 → d < 256 → Bytes (a ∷ b ∷ c ∷ d ∷ [])
bytes_word a b c d p q r s zero = p
bytes_word a b c d p q r s (suc zero) = q
bytes_word a b c d p q r s (suc (suc zero)) = r
bytes_word a b c d p q r s (suc (suc (suc zero))) = s
bytes_word a b c d p q r s (suc (suc (suc (suc i)))) = omega arith

affine-from-lt : (b i n : ℕ) → affine_from b i n < 2 ^ n
unfolding affine_from affine_bit
affine-from-lt b i zero = omega arith
affine-from-lt b i (suc n) = let h = affine-from-lt b (suc i) n in rw pow-suc (omega arith)

pub sub-byte-lt : (b : ℕ) → sub_byte b < 256
unfolding sub_byte affine
sub-byte-lt b = affine-from-lt _ 0 8

-- a function whose values at bytes are bytes, by one test over the 256
byte_at : (f : ℕ → ℕ) → T (agree (λ y. f y / 256) (λ y. 0) 256) → (x : ℕ) → x < 256 → f x < 256
byte_at f t x h = let e : f x / 256 ≡ 0 = agree_at (λ y. f y / 256) (λ y. 0) 256 t x h in omega arith

x-power-lt : (n : ℕ) → x_power n < 256
unfolding x_power xtime
x-power-lt zero = omega arith
x-power-lt (suc n) = byte_at xtime tt (x_power n) (x-power-lt n)

pub bytes-xor-word : (s t : List ℕ) → Bytes s → Bytes t → Bytes (xor_word s t)
bytes-xor-word s t p q =
    bytes_word _ _ _ _ (xor_lt 8 _ _ (p 0) (q 0)) (xor_lt 8 _ _ (p 1) (q 1)) (xor_lt 8 _ _ (p 2) (q 2)) (xor_lt 8 _ _ (p 3) (q 3))

pub bytes-sub-word : (t : List ℕ) → Bytes (sub_word t)
bytes-sub-word t = bytes_word _ _ _ _ (sub-byte-lt _) (sub-byte-lt _) (sub-byte-lt _) (sub-byte-lt _)

pub bytes-rcon : (n : ℕ) → Bytes (rcon n)
bytes-rcon n = bytes_word _ 0 0 0 (x-power-lt (n - 1)) (omega arith) (omega arith) (omega arith)

pub bytes-word-at : (w : List ℕ) (i : ℕ) → Bytes w → Bytes (word_at w i)
bytes-word-at w i p = bytes_word _ _ _ _ (p _) (p _) (p _) (p _)

bytes-temp : (i : ℕ) (t : List ℕ) → Bytes t → Bytes (temp i t)
unfolding temp
bytes-temp i t p =
    split Bytes (eqb (i % 8) 0)
    (λ e. bytes-xor-word (sub_word (rot_word t)) (rcon (i / 8)) (bytes-sub-word (rot_word t)) (bytes-rcon (i / 8)))
    (λ e. split Bytes (eqb (i % 8) 4) (λ e. bytes-sub-word t) (λ e. p))

bytes-next-word : (w : List ℕ) (i : ℕ) → Bytes w → Bytes (next_word w i)
unfolding next_word
bytes-next-word w i p =
    bytes-xor-word (word_at w (i - 8)) (temp i (word_at w (i - 1))) (bytes-word-at w (i - 8) p)
    (bytes-temp i (word_at w (i - 1)) (bytes-word-at w (i - 1) p))

bytes-expand : (key : List ℕ) (n : ℕ) → Bytes key → Bytes (expand key n)
unfolding expand with_next_word
bytes-expand key zero p = p
bytes-expand key (suc n) p =
    let h = bytes-expand key n p in
    bytes-append (expand key n) (next_word (expand key n) (8 + n)) h (bytes-next-word (expand key n) (8 + n) h)

pub bytes-key-expansion : (key : List ℕ) → Bytes key → Bytes (key_expansion key)
unfolding key_expansion
bytes-key-expansion key p = bytes-expand key 52 p

-- ---- the steps of a round

-- {02} and {03} times a byte
pub twice-lt : (x : ℕ) → x < 256 → product 0x02 x < 256
unfolding product multiply xtime
twice-lt = byte_at (product 0x02) tt

pub thrice-lt : (x : ℕ) → x < 256 → product 0x03 x < 256
unfolding product multiply xtime
thrice-lt = byte_at (product 0x03) tt

pub bytes_shifted : (s : List ℕ) → Bytes (shift_rows (sub_bytes s))
unfolding shift_rows sub_bytes
bytes_shifted s = bytes-tabulate _ 16 (λ i. bytes-tabulate _ 16 (λ j. sub-byte-lt _) _)

pub bytes-mixed : (s : List ℕ) → Bytes s → Bytes (mix_columns s)
unfolding mix_columns mixed_byte
bytes-mixed s p =
    bytes-tabulate (mixed_byte s) 16
    (λ i. xor_lt 8 _ _ (xor_lt 8 _ _ (xor_lt 8 _ _ (twice-lt _ (p _)) (thrice-lt _ (p _))) (p _)) (p _))

pub bytes-added : (w s : List ℕ) (n : ℕ) → Bytes w → Bytes s → Bytes (add_round_key w n s)
unfolding add_round_key
bytes-added w s n p q = bytes-tabulate _ 16 (λ i. xor_lt 8 _ _ (q i) (p (16 * n + i)))

pub bytes-rounds : (w s : List ℕ) (n : ℕ) → Bytes w → Bytes s → Bytes (rounds w n s)
unfolding rounds round
bytes-rounds w s zero p q = q
bytes-rounds w s (suc n) p q = bytes-added w _ (suc n) p (bytes-mixed _ (bytes_shifted (rounds w n s)))
