-- C as 16 bytes, least significant first, and as the number that they stand for (004, 9.4.2).
-- Assumes nothing.
use Rattle.std.specs.Prelude.{List, [], ◌∷◌, ℕ, zero, suc, ◌+◌, ◌*◌, ◌/◌, ◌%◌, ◌^◌, ◌-◌}

-- the sum of p_i 2^(8 i)
unfoldable pub value : List ℕ → ℕ
value [] = 0
value (p ∷ ps) = p + 256 * value ps

-- the n least significant bytes of v, least significant first
unfoldable pub little_endian : ℕ → ℕ → List ℕ
little_endian zero v = []
little_endian (suc n) v = v % 256 ∷ little_endian n (v / 256)

-- the largest value of C
unfoldable pub max_counter : ℕ
max_counter = 2 ^ 128 - 1

-- the 16 bytes of a value of C: what the cipher is handed, 01's counter block
unfoldable pub counter_block : ℕ → List ℕ
counter_block c = little_endian 16 c
