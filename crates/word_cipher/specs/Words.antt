-- Words of 32 bits: a column of a state (FIPS 197, 3.5) or a word of a schedule (5.2), its first byte the least significant.
-- Assumes nothing.
use Rattle.std.specs.Prelude.{ℕ, ◌+◌, ◌*◌, ◌/◌, ◌%◌, ◌^◌, List}
use Rattle.laws.specs.Lists.{tabulate}
use Rattle.cipher.specs.Aes.{at}

-- Four bytes as a word.
unfoldable pub word : ℕ → ℕ → ℕ → ℕ → ℕ
word a b c d = ((d * 256 + c) * 256 + b) * 256 + a

-- Byte k of a word.
unfoldable pub byte_of : ℕ → ℕ → ℕ
byte_of x k = x / 2 ^ (8 * k) % 256

-- Word i of a list of bytes.
abbrev pub word_in : List ℕ → ℕ → ℕ
word_in s i = word (at s (4 * i)) (at s (4 * i + 1)) (at s (4 * i + 2)) (at s (4 * i + 3))

-- Its first n words.
unfoldable pub packed : ℕ → List ℕ → List ℕ
packed n s = tabulate (word_in s) n

-- The first n bytes of a list of words.
unfoldable pub unpacked : ℕ → List ℕ → List ℕ
unpacked n u = tabulate (λ i. byte_of (at u (i / 4)) (i % 4)) n
