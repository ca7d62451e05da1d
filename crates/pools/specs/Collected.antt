-- What the code's private parts leave and ask: the pools that a reseed takes, how a state stands, and one that can serve a request.
-- Assumes nothing.
use Rattle.std.specs.Prelude.{◌≡◌, ℕ, ◌+◌, ◌*◌, ◌≤◌, false, cond, List, [], length, take, slice_index_or}
use Rattle.laws.specs.Lists.{tabulate, joined}
use Rattle.laws.specs.Blocks.{block_count}
use Rattle.hash.specs.ShaD.{empty_pool, pool_digest}
use Rattle.hash.specs.declared.hasher.Hasher.{Hasher}
use Rattle.generator.specs.Steps.{decode}
use Rattle.generator.specs.Refusals as Generator
use Rattle.pools.specs.Events.{pool_count}
use Rattle.pools.specs.Schedule.{used, used_pools}
use Rattle.pools.specs.Pool.{malformed_pool}
use Rattle.pools.specs.State.{counter_of, any_pool, malformed, due}
use Rattle.pools.specs.Refusals.{unseeded, spent}
use Rattle.pools.specs.declared.Fortuna.{Fortuna}
use Rattle.pools.specs.declared.refusals.Standing.{Standing}

-- pool i of a list of pools
unfoldable pub nth : List Hasher → ℕ → Hasher
nth pools i = slice_index_or pools i (record { chain = []; tail = []; length = 0 })

-- how many pools reseed n takes, those that are left, and the digests in front of the string
pub record Collects (pools : List Hasher) (n : ℕ) (left : List Hasher) (seed : List ℕ) (count : ℕ) : Type 0 where
  pub few : count ≤ 32
  pub counted : count ≡ length (used_pools n)
  pub emptied : left ≡ tabulate (λ i. cond (used n i) empty_pool (nth pools i)) pool_count
  pub front : take (32 * count) seed ≡ joined (λ i. pool_digest (nth pools i)) (used_pools n)

-- how a state stands at a reading
unfoldable pub standing : Fortuna → ℕ → Standing
standing s clock = record { malformed = malformed s; generator = s.generator; due = due s clock }

-- a pool reseed can be made
pub record Reseedable (s : Fortuna) : Type 0 where
  pub pools : any_pool malformed_pool s.pools ≡ false
  pub formed : Generator.malformed (decode s.generator) ≡ false
  pub room : Generator.spent (decode s.generator) 1 ≡ false

-- a request of n bytes can be served
pub record Servable (s : Fortuna) (clock n : ℕ) : Type 0 where
  pub pools : any_pool malformed_pool s.pools ≡ false
  pub formed : Generator.malformed (decode s.generator) ≡ false
  pub keyed : unseeded (counter_of s) (due s clock) ≡ false
  pub room : spent (counter_of s) (due s clock) (block_count n + 2) ≡ false
  pub short : n ≤ Generator.max_request
