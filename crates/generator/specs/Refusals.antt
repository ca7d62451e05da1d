-- The refusals of the generator alone, one chain for each operation, over plain values, in 01's order: input numbers, then state numbers.
-- Assumes nothing.
use Rattle.std.specs.Prelude.{Bool, not, ◌&&◌, ℕ, ◌+◌, ◌-◌, eqb, ltb}
use Rattle.laws.specs.Lists.{all_zero}
use Rattle.laws.specs.Refusals.{refuse}
use Rattle.laws.specs.Blocks.{block_count}
use Rattle.hash.specs.ShaD.{max_d_message}
use Rattle.generator.specs.Counter.{max_counter}
use Rattle.generator.specs.Steps.{GeneratorState}

-- the most bytes of one request (14)
unfoldable pub max_request : ℕ
max_request = 1048576

-- the most bytes of a seed, which D takes behind the 32 of K (17)
unfoldable pub max_seed : ℕ
max_seed = max_d_message - 32

-- C = 0 with K not all zero (21)
unfoldable pub malformed : GeneratorState → Bool
malformed w = eqb w.count 0 && not (all_zero w.key)

-- C = 0 (23)
unfoldable pub unseeded : GeneratorState → Bool
unseeded w = eqb w.count 0

-- C cannot grow by k (24)
unfoldable pub spent : GeneratorState → ℕ → Bool
spent w k = ltb max_counter (w.count + k)

-- a reseed with n bytes: u = 1 and b = 0
unfoldable pub reseed_number : GeneratorState → ℕ → ℕ
reseed_number w n = refuse (ltb max_seed n) 17 (refuse (malformed w) 21 (refuse (spent w 1) 24 0))

-- the state's part where b blocks are to be made: u = 0
unfoldable pub state_number : GeneratorState → ℕ → ℕ
state_number w b = refuse (malformed w) 21 (refuse (unseeded w) 23 (refuse (spent w b) 24 0))

-- n bytes, with `more` blocks behind those that they take: b is ceil(n / 16) + more
unfoldable pub output_number : GeneratorState → ℕ → ℕ → ℕ
output_number w n more = refuse (ltb max_request n) 14 (state_number w (block_count n + more))

-- the block operation on n bytes
unfoldable pub blocks_number : GeneratorState → ℕ → ℕ
blocks_number w n = output_number w n 0

-- a request of n bytes, with its two key blocks
unfoldable pub request_number : GeneratorState → ℕ → ℕ
request_number w n = output_number w n 2
