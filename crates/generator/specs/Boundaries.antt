-- Boundary rows: each number's last accepted and first refused value, the order of the numbers, the carries of C, and what C grows by.
-- Assumes nothing.
use Rattle.std.specs.Prelude.{◌≡◌, [], ◌∷◌, ◌++◌, map, ℕ, ◌-◌, ◌^◌, replicate}
use Rattle.laws.specs.Blocks.{block_count}
use Rattle.generator.specs.Counter.{value, little_endian}
use Rattle.generator.specs.Steps.{GeneratorState, initial, pseudo_random_data}
use Rattle.generator.specs.Refusals.{reseed_number, blocks_number, request_number}

-- a state with a key that is not zero and the counter c
unfoldable pub keyed : ℕ → GeneratorState
keyed c = record { key = 1 ∷ replicate 31 0; count = c }

-- C as bytes: the carry over FF, and the largest value
abbrev pub BytesRow : Type 0
BytesRow =
    map (little_endian 16) (0 ∷ 0xff ∷ 0x100 ∷ 0xffff ∷ 0x1_0000 ∷ (2 ^ 120 - 1) ∷ (2 ^ 120) ∷ (2 ^ 128 - 1) ∷ [])
    ≡ replicate 16 0
    ∷ (0xff ∷ replicate 15 0)
    ∷ (0 ∷ 1 ∷ replicate 14 0)
    ∷ (0xff ∷ 0xff ∷ replicate 14 0)
    ∷ (0 ∷ 0 ∷ 1 ∷ replicate 13 0)
    ∷ (replicate 15 0xff ++ (0 ∷ []))
    ∷ (replicate 15 0 ++ (1 ∷ []))
    ∷ replicate 16 0xff
    ∷ []

-- bytes as C
abbrev pub ValuesRow : Type 0
ValuesRow =
    map value (replicate 16 0 ∷ (2 ∷ 1 ∷ replicate 14 0) ∷ (replicate 15 0 ++ (1 ∷ [])) ∷ replicate 16 0xff ∷ [])
    ≡ 0 ∷ 0x0102 ∷ (2 ^ 120) ∷ (2 ^ 128 - 1) ∷ []

-- blocks of n bytes: ceil(n / 16)
abbrev pub BlockCountsRow : Type 0
BlockCountsRow = map block_count (0 ∷ 1 ∷ 15 ∷ 16 ∷ 17 ∷ 1048576 ∷ []) ≡ 0 ∷ 1 ∷ 1 ∷ 1 ∷ 2 ∷ 65536 ∷ []

-- what C grows by in a request of n bytes, from C = 1: its blocks and two more, also where no byte is asked for
abbrev pub GrowthRow : Type 0
GrowthRow = map (λ (n : ℕ). (pseudo_random_data (keyed 1) n).next.count) (0 ∷ 1 ∷ 16 ∷ 17 ∷ []) ≡ 3 ∷ 4 ∷ 4 ∷ 5 ∷ []

-- 14: above 1,048,576 bytes
abbrev pub RequestSizesRow : Type 0
RequestSizesRow = map (request_number (keyed 1)) (0 ∷ 1048576 ∷ 1048577 ∷ []) ≡ 0 ∷ 0 ∷ 14 ∷ []

abbrev pub BlocksSizesRow : Type 0
BlocksSizesRow = map (blocks_number (keyed 1)) (0 ∷ 1048576 ∷ 1048577 ∷ []) ≡ 0 ∷ 0 ∷ 14 ∷ []

-- 17: a seed above 2 ^ 61 - 97 bytes
abbrev pub SeedSizesRow : Type 0
SeedSizesRow = map (reseed_number (keyed 1)) (0 ∷ (2 ^ 61 - 97) ∷ (2 ^ 61 - 96) ∷ []) ≡ 0 ∷ 0 ∷ 17 ∷ []

-- 24: a reseed takes 1, one block 1, no block none, a request of no bytes 2
abbrev pub ReseedRoomRow : Type 0
ReseedRoomRow = map (λ (c : ℕ). reseed_number (keyed c) 0) ((2 ^ 128 - 2) ∷ (2 ^ 128 - 1) ∷ []) ≡ 0 ∷ 24 ∷ []

abbrev pub BlockRoomRow : Type 0
BlockRoomRow = map (λ (c : ℕ). blocks_number (keyed c) 16) ((2 ^ 128 - 2) ∷ (2 ^ 128 - 1) ∷ []) ≡ 0 ∷ 24 ∷ []

abbrev pub NoBlockRow : Type 0
NoBlockRow = blocks_number (keyed (2 ^ 128 - 1)) 0 ≡ 0

abbrev pub RequestRoomRow : Type 0
RequestRoomRow = map (λ (c : ℕ). request_number (keyed c) 0) ((2 ^ 128 - 3) ∷ (2 ^ 128 - 2) ∷ []) ≡ 0 ∷ 24 ∷ []

abbrev pub LargestRequestRow : Type 0
LargestRequestRow =
    map (λ (c : ℕ). request_number (keyed c) 1048576) ((2 ^ 128 - 65539) ∷ (2 ^ 128 - 65538) ∷ []) ≡ 0 ∷ 24 ∷ []

-- 21 and 23: C = 0 with K not all zero, and with K all zero; a reseed is how a fresh state is seeded
abbrev pub MalformedRow : Type 0
MalformedRow =
    reseed_number (keyed 0) 0 ∷ blocks_number (keyed 0) 0 ∷ request_number (keyed 0) 0 ∷ request_number (keyed 1) 0 ∷ []
    ≡ 21 ∷ 21 ∷ 21 ∷ 0 ∷ []

abbrev pub FreshRow : Type 0
FreshRow =
    reseed_number initial 0 ∷ blocks_number initial 0 ∷ blocks_number initial 1 ∷ request_number initial 0 ∷ [] ≡ 0 ∷ 23 ∷ 23 ∷ 23 ∷ []

-- the order: 14 and 17 before 21, 21 before 23 (above), 23 before 24 (C = 0 has room)
abbrev pub OrderRow : Type 0
OrderRow =
    request_number (keyed 0) 1048577 ∷ blocks_number (keyed 0) 1048577 ∷ reseed_number (keyed 0) (2 ^ 61 - 96)
    ∷ request_number initial 1048577 ∷ request_number (keyed (2 ^ 128 - 1)) 1048577 ∷ reseed_number (keyed (2 ^ 128 - 1)) (2 ^ 61 - 96) ∷ []
    ≡ 14 ∷ 14 ∷ 17 ∷ 14 ∷ 14 ∷ 17 ∷ []

-- the rows together
pub record Boundaries : Type 0 where
  pub bytes : BytesRow
  pub values : ValuesRow
  pub block_counts : BlockCountsRow
  pub growth : GrowthRow
  pub request_sizes : RequestSizesRow
  pub blocks_sizes : BlocksSizesRow
  pub seed_sizes : SeedSizesRow
  pub reseed_room : ReseedRoomRow
  pub block_room : BlockRoomRow
  pub no_block : NoBlockRow
  pub request_room : RequestRoomRow
  pub largest_request : LargestRequestRow
  pub malformed_states : MalformedRow
  pub fresh_state : FreshRow
  pub order : OrderRow
