-- AES-256 encryption of FIPS 197, section 5, with Nk = 8, Nb = 4 and Nr = 14.
-- Meant for states and blocks of 16 bytes, keys of 32 and schedules of 240; at any other list a byte past the end reads as 0.
-- A state holds column after column (3.4): s_r,c stands at place r + 4 * c.
-- Assumes nothing.
use Rattle.std.specs.Prelude.{ℕ, zero, suc, ◌+◌, ◌-◌, ◌*◌, ◌/◌, ◌%◌, ◌<◌, cond, List, [], ◌∷◌, ◌++◌, eqb, get_or}
use Rattle.laws.specs.Lists.{tabulate}
use Rattle.cipher.specs.Field.{◌⊕◌, xtime, product, sub_byte}

-- Byte i.
abbrev pub at : List ℕ → ℕ → ℕ
at s i = get_or s i 0

-- Every element is a byte.
abbrev pub Bytes : List ℕ → Type 0
Bytes s = (i : ℕ) → at s i < 256

-- SubBytes (5.1.1).
unfoldable pub sub_bytes : List ℕ → List ℕ
sub_bytes s = tabulate (λ i. sub_byte (at s i)) 16

-- ShiftRows (5.1.2): place r + 4 * c gets what stands r columns further on in its row, going round.
unfoldable pub shift_rows : List ℕ → List ℕ
shift_rows s = tabulate (λ i. at s ((i + 4 * (i % 4)) % 16)) 16

-- The place k rows below place i in its column, going round.
abbrev pub row_below : ℕ → ℕ → ℕ
row_below i k = i / 4 * 4 + (i + k) % 4

-- A byte after MixColumns (5.1.3): s'_r,c = ({02} • s_r,c) ⊕ ({03} • s_r+1,c) ⊕ s_r+2,c ⊕ s_r+3,c, rows modulo 4.
unfoldable pub mixed_byte : List ℕ → ℕ → ℕ
mixed_byte s i = product 0x02 (at s i) ⊕ product 0x03 (at s (row_below i 1)) ⊕ at s (row_below i 2) ⊕ at s (row_below i 3)

-- MixColumns (5.1.3).
unfoldable pub mix_columns : List ℕ → List ℕ
mix_columns s = tabulate (mixed_byte s) 16

-- AddRoundKey (5.1.4) with round key n of the schedule w.
unfoldable pub add_round_key : List ℕ → ℕ → List ℕ → List ℕ
add_round_key w n s = tabulate (λ i. at s i ⊕ at w (16 * n + i)) 16

-- Round n (5.1).
unfoldable pub round : List ℕ → ℕ → List ℕ → List ℕ
round w n s = add_round_key w n (mix_columns (shift_rows (sub_bytes s)))

-- Rounds 1 to n (5.1).
unfoldable pub rounds : List ℕ → ℕ → List ℕ → List ℕ
rounds w zero s = s
rounds w (suc n) s = round w (suc n) (rounds w n s)

-- Cipher (5.1) with the schedule w: round key 0, 13 rounds, and the last round, which mixes no columns.
unfoldable pub cipher_with : List ℕ → List ℕ → List ℕ
cipher_with w block = add_round_key w 14 (shift_rows (sub_bytes (rounds w 13 (add_round_key w 0 block))))

-- Word i of a schedule, w[i]: four bytes.
abbrev pub word_at : List ℕ → ℕ → List ℕ
word_at w i = at w (4 * i) ∷ at w (4 * i + 1) ∷ at w (4 * i + 2) ∷ at w (4 * i + 3) ∷ []

-- The sum of two words.
abbrev pub xor_word : List ℕ → List ℕ → List ℕ
xor_word s t = (at s 0 ⊕ at t 0) ∷ (at s 1 ⊕ at t 1) ∷ (at s 2 ⊕ at t 2) ∷ (at s 3 ⊕ at t 3) ∷ []

-- SubWord (5.2).
abbrev pub sub_word : List ℕ → List ℕ
sub_word t = sub_byte (at t 0) ∷ sub_byte (at t 1) ∷ sub_byte (at t 2) ∷ sub_byte (at t 3) ∷ []

-- RotWord (5.2).
abbrev pub rot_word : List ℕ → List ℕ
rot_word t = at t 1 ∷ at t 2 ∷ at t 3 ∷ at t 0 ∷ []

-- The power x^n of x.
unfoldable pub x_power : ℕ → ℕ
x_power zero = 1
x_power (suc n) = xtime (x_power n)

-- The round constant Rcon[n], n from 1 (5.2).
abbrev pub rcon : ℕ → List ℕ
rcon n = x_power (n - 1) ∷ 0 ∷ 0 ∷ 0 ∷ []

-- temp of KeyExpansion's loop at i, where t is the word before, w[i - 1] (5.2).
unfoldable pub temp : ℕ → List ℕ → List ℕ
temp i t =
    cond (eqb (i % 8) 0) (xor_word (sub_word (rot_word t)) (rcon (i / 8)))
    (cond (eqb (i % 8) 4) (sub_word t) t)

-- w[i] = w[i - Nk] xor temp (5.2).
unfoldable pub next_word : List ℕ → ℕ → List ℕ
next_word w i = xor_word (word_at w (i - 8)) (temp i (word_at w (i - 1)))

-- The words before i, with word i behind them.
unfoldable pub with_next_word : List ℕ → ℕ → List ℕ
with_next_word w i = w ++ next_word w i

-- The key's 8 words and n more.
unfoldable pub expand : List ℕ → ℕ → List ℕ
expand key zero = key
expand key (suc n) = with_next_word (expand key n) (8 + n)

-- KeyExpansion (5.2): 60 words.
unfoldable pub key_expansion : List ℕ → List ℕ
key_expansion key = expand key 52

-- A block enciphered under a key.
unfoldable pub cipher : List ℕ → List ℕ → List ℕ
cipher key block = cipher_with (key_expansion key) block
