-- Of the state that the model says, the station reads what the model reads.
-- Assumes nothing.
use mathlib.Core.Path.{◌≡◌, refl, ap}
use mathlib.Core.Bool.{false}
use mathlib.Core.List.{List}
use Prim.Native.Nat.{ℕ, ◌<◌}
use lib.ListN.{length}
use Rattle.laws.proofs.Tabulate.{get_d_tabulate}
use Rattle.hash.specs.ShaD.{pool_of}
use Rattle.hash.proofs.Laws.{pool-length}
use Rattle.generator.specs.Steps.{GeneratorState, decode}
use Rattle.generator.proofs.Laws.{decode-encode}
use Rattle.pools.specs.Events.{pool_count}
use Rattle.pools.specs.Pool.{malformed_pool}
use Rattle.pools.specs.State.{any_pool, unseeded_counted}
use Rattle.pools.specs.Collected.{nth}
use Rattle.pools.proofs.Held.{pools-fine, key-fine, requests-fine}
use Rattle.keyed.specs.State.{pool_at, counter_of, timer_moved, malformed_fields, malformed}
use Rattle.keyed_reference.specs.Reference.{Reference, pool_contents}
use Rattle.keyed_reference.specs.Agreement.{concrete}
use Rattle.keyed_reference.proofs.Invariant.{Sound}

pub pool-concrete : (key : List ℕ) (b : Reference) (i : ℕ) → i < pool_count → pool_at (concrete key b) i ≡ pool_of (pool_contents b i)
unfolding pool_at nth concrete
pool-concrete key b i h = get_d_tabulate (λ i. pool_of (pool_contents b i)) _ pool_count i h

pub size-concrete : (key : List ℕ) (b : Reference) (i : ℕ) → i < pool_count → (pool_at (concrete key b) i).length ≡ length (pool_contents b i)
size-concrete key b i h = rw (pool-concrete key b i h) (pool-length (pool_contents b i))

module _ (key : List ℕ) (b : Reference) (s : Sound b) where
  pub decode-concrete : decode (concrete key b).generator ≡ b.generator
  unfolding concrete
  decode-concrete = decode-encode b.generator s.held.counts

  pub counter-concrete : counter_of (concrete key b) ≡ b.generator.count
  unfolding counter_of
  counter-concrete = ap (λ (w : GeneratorState). w.count) decode-concrete

  -- ---- 21 never arises

  concrete-pools : any_pool malformed_pool (concrete key b).pools ≡ false
  unfolding concrete
  concrete-pools = pools-fine s.held

  concrete-requests : unseeded_counted b.generator.count (concrete key b).key_requests ≡ false
  unfolding concrete
  concrete-requests = requests-fine s.held

  timer-fine : timer_moved (concrete key b).reseeded (concrete key b).last_reseed (concrete key b).reseed_count ≡ false
  unfolding timer_moved concrete
  timer-fine = refl

  pub malformed-concrete : malformed (concrete key b) ≡ false
  unfolding malformed malformed_fields
  malformed-concrete = rw (concrete-pools, decode-concrete, key-fine s.held, timer-fine, concrete-requests)
