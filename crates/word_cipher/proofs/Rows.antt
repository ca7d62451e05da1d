-- Words and parts, computed.
-- Assumes nothing.
use mathlib.Core.Path.{◌≡◌, refl}
use mathlib.Core.List.{List, [], ◌∷◌, map}
use Prim.Native.Nat.{ℕ}
use Rattle.laws.specs.Lists.{tabulate, overwrite}
use Rattle.word_cipher.specs.Words.{word, byte_of, packed, unpacked}
use Rattle.word_cipher.specs.Claims.{WordsRow}

pub words_row : WordsRow
unfolding packed unpacked tabulate word byte_of
words_row = (refl, refl)

-- parts of 0, 2 and 18 bytes that a block is written to
pub cut_short : map (λ (part : List ℕ). overwrite part (tabulate (λ i. i) 16)) ([] ∷ (0xff ∷ 0xff ∷ []) ∷ tabulate (λ i. 0xff) 18 ∷ [])
    ≡ [] ∷ (0x00 ∷ 0x01 ∷ [])
    ∷ (0x00 ∷ 0x01 ∷ 0x02 ∷ 0x03 ∷ 0x04 ∷ 0x05 ∷ 0x06 ∷ 0x07 ∷ 0x08 ∷ 0x09 ∷ 0x0a ∷ 0x0b ∷ 0x0c ∷ 0x0d ∷ 0x0e ∷ 0x0f
    ∷ 0xff ∷ 0xff ∷ []) ∷ []
unfolding overwrite tabulate
cut_short = refl
