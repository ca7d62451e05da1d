-- What the private parts of an accepted call ask of a state. What the methods promise is said by `Gives` and `GivesBytes` of `pools`.
-- Assumes nothing.
use Rattle.std.specs.Prelude.{◌≡◌, false, ℕ, ◌+◌, ◌≤◌, ◌<◌}
use Rattle.hash.specs.ShaD.{max_pool_length}
use Rattle.generator.specs.Steps.{decode}
use Rattle.generator.specs.Refusals as Generator
use Rattle.generator.specs.declared.Generator.{Generator}
use Rattle.laws.specs.Blocks.{block_count}
use Rattle.keyed.specs.State.{pool_at}
use Rattle.keyed.specs.declared.Keyed.{Keyed}

-- what an emptying of pool i asks: the pool within its limit, and the reseed accepted
pub record Emptiable (s : Keyed) (i : ℕ) : Type 0 where
  pub place : i < 32
  pub short : (pool_at s i).length ≤ max_pool_length
  pub formed : Generator.malformed (decode s.generator) ≡ false
  pub room : Generator.spent (decode s.generator) 1 ≡ false

-- what a request of n bytes asks of a generator: that it accepts it
pub record Servable (g : Generator) (n : ℕ) : Type 0 where
  pub formed : Generator.malformed (decode g) ≡ false
  pub keyed : Generator.unseeded (decode g) ≡ false
  pub room : Generator.spent (decode g) (block_count n + 2) ≡ false
  pub short : n ≤ Generator.max_request
