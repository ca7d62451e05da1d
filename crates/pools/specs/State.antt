-- What is read of a state: its pools, C, whether it is malformed, and whether a pool reseed is due.
-- Assumes nothing.
use Rattle.std.specs.Prelude.{ℕ, Bool, false, not, ◌&&◌, ◌||◌, List, [], ◌∷◌, replicate, ◌==◌, slice_index_or}
use Rattle.hash.specs.ShaD.{empty_pool}
use Rattle.hash.specs.declared.hasher.Hasher.{Hasher}
use Rattle.generator.specs.Steps.{GeneratorState, decode}
use Rattle.generator.specs.Refusals as Generator
use Rattle.generator.specs.Operations as Operations
use Rattle.pools.specs.Events.{pool_count}
use Rattle.pools.specs.Schedule.{is_due}
use Rattle.pools.specs.Pool.{malformed_pool}
use Rattle.pools.specs.declared.Fortuna.{Fortuna}

-- K, C, time of the last reseed (01's mark), reseed count (01's reseed number) and requests on the key 0, no reseed made (01's flag
-- clear), pools empty
unfoldable pub fresh : Fortuna
fresh =
    record {
      generator = Operations.fresh;
      pools = replicate pool_count empty_pool;
      last_reseed = 0;
      reseed_count = 0;
      reseeded = false;
      key_requests = 0;
    }

-- pool i
unfoldable pub pool_at : Fortuna → ℕ → Hasher
pool_at s i = slice_index_or s.pools i (record { chain = []; tail = []; length = 0 })

-- C
unfoldable pub counter_of : Fortuna → ℕ
counter_of s = (decode s.generator).count

-- a test that holds of one of the pools
unfoldable pub any_pool : (Hasher → Bool) → List Hasher → Bool
any_pool t [] = false
any_pool t (p ∷ ps) = t p || any_pool t ps

-- 21: C = 0 with a reseed made
unfoldable pub unseeded_reseeded : ℕ → Bool → Bool
unseeded_reseeded c reseeded = c == 0 && reseeded

-- 21: no reseed made, and its time or its count not 0
unfoldable pub stray_timer : Bool → ℕ → ℕ → Bool
stray_timer reseeded last count = not reseeded && not (last == 0 && count == 0)

-- 21: C = 0 with a request on the key
unfoldable pub unseeded_counted : ℕ → ℕ → Bool
unseeded_counted c requests = c == 0 && not (requests == 0)

-- 21, the clauses of K and C, of C and the flag, of the flag and the timer, of C and the requests on the key
unfoldable pub malformed_fields : GeneratorState → Bool → ℕ → ℕ → ℕ → Bool
malformed_fields w reseeded last count requests =
    Generator.malformed w || unseeded_reseeded w.count reseeded || stray_timer reseeded last count || unseeded_counted w.count requests

-- 21, all clauses
unfoldable pub malformed : Fortuna → Bool
malformed s =
    any_pool malformed_pool s.pools
    || malformed_fields (decode s.generator) s.reseeded s.last_reseed s.reseed_count s.key_requests

-- a pool reseed is due at a reading
unfoldable pub due : Fortuna → ℕ → Bool
due s clock = is_due (pool_at s 0).length s.reseeded s.last_reseed clock
