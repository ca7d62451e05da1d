-- The pools that steps pick under one scheduler key, as an AES-256 made elsewhere gives them. The rows of Boundaries.antt stand on these.
-- Assumes nothing.
use Rattle.std.specs.Prelude.{◌≡◌, List, ℕ, ◌-◌, ◌^◌}
use Rattle.laws.specs.Lists.{tabulate}
use Rattle.keyed.specs.Scheduler.{input_pool}

-- the scheduler key 00 01 .. 1F
unfoldable pub row_key : List ℕ
row_key = tabulate (λ (i : ℕ). i) 32

-- step 256 tells the order of the bytes: most significant first it would pick pool 17; by the second byte of the block it would pick pool 25
pub record Picks : Type 0 where
  pub at-32 : input_pool row_key 32 ≡ 27
  pub at-33 : input_pool row_key 33 ≡ 23
  pub at-64 : input_pool row_key 64 ≡ 10
  pub at-256 : input_pool row_key 256 ≡ 5
  pub at-352 : input_pool row_key 352 ≡ 0
  pub last-but-one : input_pool row_key (2 ^ 64 - 2) ≡ 0
  pub last : input_pool row_key (2 ^ 64 - 1) ≡ 17
