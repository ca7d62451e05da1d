-- The refusals, one chain for each operation, over plain values, in 02's order: 40, 41, 14, 42.
-- Assumes nothing.
use Rattle.std.specs.Prelude.{Bool, not, ℕ, ◌^◌, eqb, ltb}
use Rattle.laws.specs.Refusals.{refuse}
use Rattle.ctr_drbg.specs.Algorithms.{seed_length}

-- the most bytes of one request (14)
unfoldable pub max_request : ℕ
max_request = 65536

-- reseed_interval: the most requests between two seedings
unfoldable pub reseed_interval : ℕ
reseed_interval = 2 ^ 48

-- the reseed counter is set to 1 by a seeding and grows by 1 at each request: 0 means never seeded
unfoldable pub never_seeded : ℕ → Bool
never_seeded counter = eqb counter 0

-- reseed_counter > reseed_interval (10.2.1.5.1, step 1): 2^48 requests or more were made since the last seeding
unfoldable pub reseed_required : ℕ → Bool
reseed_required counter = ltb reseed_interval counter

-- n bytes of entropy input and m of personalization string
unfoldable pub instantiate_number : ℕ → ℕ → ℕ
instantiate_number n m = refuse (not (eqb n seed_length)) 40 (refuse (ltb seed_length m) 41 0)

-- n bytes of entropy input and m of additional input
unfoldable pub reseed_number : ℕ → ℕ → ℕ → ℕ
reseed_number counter n m =
    refuse (not (eqb n seed_length)) 40 (refuse (ltb seed_length m) 41 (refuse (never_seeded counter) 42 0))

-- n bytes asked for, with m of additional input
unfoldable pub generate_number : ℕ → ℕ → ℕ → ℕ
generate_number counter n m =
    refuse (ltb seed_length m) 41
    (refuse (ltb max_request n) 14 (refuse (never_seeded counter) 42 (refuse (reseed_required counter) 42 0)))
