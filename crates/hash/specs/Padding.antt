-- The padding of a message: FIPS 180-4, 5.1.1. Messages here are whole bytes, so the bit 1 and the first seven zeros are the byte 128.
-- Assumes nothing.
use Rattle.std.specs.Prelude.{ℕ, ◌-◌, ◌*◌, ◌/◌, ◌%◌, ◌^◌, List, ◌∷◌, ◌++◌, replicate}
use Rattle.laws.specs.Lists.{tabulate}

-- byte i of the 64-bit length block, the most significant first; the number is taken modulo 2 ^ 64
abbrev pub length_byte : ℕ → ℕ → ℕ
length_byte bits i = bits / 2 ^ (56 - 8 * i) % 256

-- the count of zero bytes after the byte 128, for a message of n bytes
unfoldable pub zero_bytes : ℕ → ℕ
zero_bytes n = (119 - n % 64) % 64

-- what follows a message of n bytes
unfoldable pub padding : ℕ → List ℕ
padding n = (128 ∷ replicate (zero_bytes n) 0) ++ tabulate (length_byte (8 * n)) 8
