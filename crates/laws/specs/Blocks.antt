-- A buffer in parts of 16 bytes, one for each block of the cipher, the last cut short.
-- Assumes nothing.
use Rattle.std.specs.Prelude.{ℕ, ◌+◌, ◌/◌}

-- the blocks that n bytes take: ceil(n / 16)
unfoldable pub block_count : ℕ → ℕ
block_count n = (n + 15) / 16
