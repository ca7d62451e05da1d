-- SHA-256 of a message of bytes: FIPS 180-4, 5.2.1 and 6.2.
-- Assumes nothing.
use Rattle.std.specs.Prelude.{ℕ, zero, suc, ◌-◌, ◌*◌, ◌/◌, ◌%◌, ◌^◌, List, ◌++◌, length, take, drop, slice_index}
use Rattle.laws.specs.Lists.{tabulate}
use Rattle.hash.specs.Constants.{H⁰}
use Rattle.hash.specs.Padding.{padding}
use Rattle.hash.specs.Block.{compress}

-- the hash value after the first n blocks of m, from the hash value h (6.2.2)
unfoldable pub blocks : ℕ → List ℕ → List ℕ → List ℕ
blocks zero h m = h
blocks (suc n) h m = blocks n (compress h (take 64 m)) (drop 64 m)

-- byte i of a list of words, the most significant byte of a word first
abbrev pub words_byte : List ℕ → ℕ → ℕ
words_byte h i = slice_index h (i / 4) / 2 ^ (24 - 8 * (i % 4)) % 256

-- the digest after all blocks of m, from the hash value h: 8 words as 32 bytes (6.2.2)
unfoldable pub digest_from : List ℕ → List ℕ → List ℕ
digest_from h m = tabulate (words_byte (blocks (length m / 64) h m)) 32

-- (6.2)
unfoldable pub sha256 : List ℕ → List ℕ
sha256 m = digest_from H⁰ (m ++ padding (length m))
