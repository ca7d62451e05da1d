-- Four tables of 256 words, one for each row of a state: a word joins SubBytes (FIPS 197, 5.1.1) and MixColumns (5.1.3).
-- Assumes nothing.
use Rattle.std.specs.Prelude.{ℕ, zero, suc, ◌/◌, ◌%◌, List}
use Rattle.laws.specs.Lists.{tabulate}
use Rattle.cipher.specs.Field.{product, sub_byte}
use Rattle.word_cipher.specs.Words.{word}

-- What a byte s in row 0, 1, 2 or 3 adds to its mixed column: s times that column of the matrix of MixColumns (5.1.3).
unfoldable pub spread : ℕ → ℕ → ℕ
spread zero s = word (product 0x02 s) s s (product 0x03 s)
spread (suc zero) s = word (product 0x03 s) (product 0x02 s) s s
spread (suc (suc zero)) s = word s (product 0x03 s) (product 0x02 s) s
spread (suc (suc (suc k))) s = word s s (product 0x03 s) (product 0x02 s)

-- Entry x of the table of row k.
unfoldable pub entry : ℕ → ℕ → ℕ
entry k x = spread k (sub_byte x)

-- The four tables side by side: entry x of the table of row k stands at 256 * k + x.
unfoldable pub tables : List ℕ
tables = tabulate (λ i. entry (i / 256) (i % 256)) 1024
