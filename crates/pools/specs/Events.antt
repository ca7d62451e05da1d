-- What an event puts into its pool (004, 9.5.1 and 9.5.3.1).
-- Assumes nothing.
use Rattle.std.specs.Prelude.{ℕ, ◌+◌, ◌/◌, ◌%◌, List, [], ◌∷◌, ◌++◌, length}

-- the largest source, the count of pools, the most bytes of data (11, 12, 13)
unfoldable pub max_source : ℕ
max_source = 65535

unfoldable pub pool_count : ℕ
pool_count = 32

unfoldable pub max_data : ℕ
max_data = 32

-- what stands before n bytes of data: the source in two bytes, least significant first, and the length
unfoldable pub header : ℕ → ℕ → List ℕ
header source n = source % 256 ∷ source / 256 ∷ n ∷ []

-- how many bytes the header has
unfoldable pub header_length : ℕ
header_length = 3

-- the bytes that the pool gains: header, data
unfoldable pub event_bytes : ℕ → List ℕ → List ℕ
event_bytes source «data» = header source (length «data») ++ «data»

-- how many bytes the pool gains of n bytes of data
unfoldable pub gain : ℕ → ℕ
gain n = header_length + n
