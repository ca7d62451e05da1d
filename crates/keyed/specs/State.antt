-- What is read of a state of the keyed scheduler.
-- Assumes nothing.
use Rattle.std.specs.Prelude.{Bool, false, not, ◌&&◌, ◌||◌, List, ℕ, eqb, replicate}
use Rattle.hash.specs.ShaD.{empty_pool}
use Rattle.hash.specs.declared.hasher.Hasher.{Hasher}
use Rattle.generator.specs.Steps.{GeneratorState, decode}
use Rattle.generator.specs.Refusals as Generator
use Rattle.generator.specs.Operations as Operations
use Rattle.pools.specs.Events.{pool_count}
use Rattle.pools.specs.Pool.{malformed_pool}
use Rattle.pools.specs.State.{any_pool, unseeded_counted}
use Rattle.pools.specs.Collected.{nth}
use Rattle.pools.specs.declared.refusals.Standing.{Standing}
use Rattle.keyed.specs.Scheduler.{input_pool}
use Rattle.keyed.specs.declared.Keyed.{Keyed}

-- the fresh start under a scheduler key: all else 0, pools empty
unfoldable pub fresh : List ℕ → Keyed
fresh key =
    record {
      generator = Operations.fresh;
      pools = replicate pool_count empty_pool;
      last_reseed = 0;
      reseed_count = 0;
      reseeded = false;
      key_requests = 0;
      scheduler_key = key;
      step = 0;
    }

-- pool i
unfoldable pub pool_at : Keyed → ℕ → Hasher
pool_at s i = nth s.pools i

-- the pool that the state's step picks
unfoldable pub picked : Keyed → ℕ
picked s = input_pool s.scheduler_key s.step

-- C
unfoldable pub counter_of : Keyed → ℕ
counter_of s = (decode s.generator).count

-- 21: mark, flag or reseed number is not 0
unfoldable pub timer_moved : Bool → ℕ → ℕ → Bool
timer_moved reseeded last count = reseeded || not (eqb last 0 && eqb count 0)

-- 21, the clauses that are about no pool
unfoldable pub malformed_fields : GeneratorState → Bool → ℕ → ℕ → ℕ → Bool
malformed_fields w reseeded last count requests =
    Generator.malformed w || timer_moved reseeded last count || unseeded_counted w.count requests

-- 21, all clauses
unfoldable pub malformed : Keyed → Bool
malformed s =
    any_pool malformed_pool s.pools
    || malformed_fields (decode s.generator) s.reseeded s.last_reseed s.reseed_count s.key_requests

-- how the state stands when a call finds it: no pool reseed is ever due
unfoldable pub standing : Keyed → Standing
standing s = record { malformed = malformed s; generator = s.generator; due = false }
