-- What is proved beside the contracts, in the words of FIPS 197.
-- Assumes nothing.
use Rattle.std.specs.Prelude.{ℕ, ◌+◌, ◌*◌, ◌^◌, ◌<◌, ◌≡◌, List, [], ◌∷◌, length, set, replicate}
use Rattle.cipher.specs.Field.{sub_byte}
use Rattle.cipher.specs.Aes.{at, Bytes, mix_columns, key_expansion, cipher_with, cipher}
use Rattle.word_cipher.specs.Words.{word_in, packed, unpacked}
use Rattle.word_cipher.specs.Tables.{tables}
use Rattle.word_cipher.specs.Cipher.{word_cipher}

-- A state with the byte s in row k of column 0 and 0 everywhere else.
abbrev pub alone : ℕ → ℕ → List ℕ
alone k s = set (replicate 16 0) k s

-- The rule of the tables: entry x of the table of row k is the column that MixColumns makes of the substitution of x, alone
-- in row k.
abbrev pub TablesRule : Type 0
TablesRule = (k x : ℕ) → k < 4 → x < 256 → at tables (256 * k + x) ≡ word_in (mix_columns (alone k (sub_byte x))) 0

-- Both ciphers agree on every key and every block.
abbrev pub CiphersAgree : Type 0
CiphersAgree = (key block : List ℕ) → Bytes key → Bytes block
    → word_cipher tables (packed 60 (key_expansion key)) block ≡ cipher key block

-- They agree under whatever 60 words of 32 bits stand in the schedule, those of no key too.
abbrev pub SchedulesAgree : Type 0
SchedulesAgree = (w block : List ℕ) → length w ≡ 60 → ((i : ℕ) → at w i < 2 ^ 32) → Bytes block
    → word_cipher tables w block ≡ cipher_with (unpacked 240 w) block

-- A word's first byte is the least significant.
abbrev pub WordsRow : Type 0
WordsRow = (packed 2 (0x00 ∷ 0x11 ∷ 0x22 ∷ 0x33 ∷ 0x44 ∷ 0x55 ∷ 0x66 ∷ 0x77 ∷ []) ≡ 0x33221100 ∷ 0x77665544 ∷ [])
    × (unpacked 8 (0x33221100 ∷ 0x77665544 ∷ []) ≡ 0x00 ∷ 0x11 ∷ 0x22 ∷ 0x33 ∷ 0x44 ∷ 0x55 ∷ 0x66 ∷ 0x77 ∷ [])
