-- Steps of KeyExpansion (FIPS 197, 5.2) on words, four at once: what the parts of `expand_key` do.
-- Assumes nothing.
use Rattle.std.specs.Prelude.{ℕ, ◌+◌, ◌-◌, ◌/◌, ◌≡◌, List, length, take, set}
use Rattle.cipher.specs.Field.{◌⊕◌, sub_byte}
use Rattle.cipher.specs.Aes.{at, Bytes, x_power, key_expansion}
use Rattle.word_cipher.specs.Words.{word, byte_of, packed}

-- SubWord of the word whose bytes are bytes i, j, k and l of x.
unfoldable pub sub_words : ℕ → ℕ → ℕ → ℕ → ℕ → ℕ
sub_words x i j k l = word (sub_byte (byte_of x i)) (sub_byte (byte_of x j)) (sub_byte (byte_of x k)) (sub_byte (byte_of x l))

-- temp at i, where 8 divides i and x is the word before: RotWord takes bytes 1, 2, 3 and 0.
unfoldable pub rotated_temp : ℕ → ℕ → ℕ
rotated_temp i x = sub_words x 1 2 3 0 ⊕ x_power (i / 8 - 1)

-- Words i to i + 3 of w become those of the schedule, from temp at i: between two multiples of 4 temp is the word before.
unfoldable pub four_more : List ℕ → ℕ → ℕ → List ℕ
four_more w i t =
    let a = at w (i - 8) ⊕ t in
    let b = at w (i - 7) ⊕ a in
    let c = at w (i - 6) ⊕ b in
    let d = at w (i - 5) ⊕ c in
    set (set (set (set w i a) (i + 1) b) (i + 2) c) (i + 3) d

-- What the whole expansion makes of a list of words w₀: the schedule of whatever key its first 8 words are.
abbrev pub Expands : List ℕ → List ℕ → Type 0
Expands w₀ w = (key : List ℕ) → length key ≡ 32 → Bytes key → take 8 w₀ ≡ packed 8 key
    → w ≡ packed 60 (key_expansion key)
