-- What a model's pools, K, C and requests on the key keep throughout a run, whatever the schedule: the strings fit, C fits, and with C = 0 there
-- is no key and no request. So 21 never arises of them.
-- Assumes nothing.
use Rattle.std.proofs.Common.{◌≡◌, ℕ, ◌+◌, ◌<◌, ◌≤◌, min, Bool, true, false, cond, not, eqb, List, [], ◌++◌, length, refl, subst, zero-le, arith, length-append, eqb-true}
use Rattle.laws.specs.Lists.{tabulate, all_zero}
use Rattle.laws.proofs.Lists.{all_zero-replicate}
use Rattle.hash.specs.ShaD.{pool_of, max_pool_length}
use Rattle.generator.specs.Counter.{max_counter}
use Rattle.generator.specs.Steps.{GeneratorState, initial}
use Rattle.generator.specs.Refusals as Generator
use Rattle.pools.specs.Events.{pool_count}
use Rattle.pools.specs.Schedule.{max_key_requests}
use Rattle.pools.specs.Pool.{malformed_pool}
use Rattle.pools.specs.State.{any_pool, unseeded_counted}
use Rattle.pools.proofs.PoolTests.{any-tabulate}
use Rattle.pools.proofs.WellFormed.{well-formed, zero-count}

pub record Held (held : ℕ → List ℕ) (w : GeneratorState) (requests : ℕ) : Type 0 where
  pub fits : (i : ℕ) → length (held i) ≤ max_pool_length
  pub counts : w.count ≤ max_counter
  pub keyed : w.count ≡ 0 → all_zero w.key ≡ true
  pub counted : w.count ≡ 0 → requests ≡ 0

-- nothing yet
pub held-empty : (held : ℕ → List ℕ) → ((i : ℕ) → held i ≡ []) → Held held initial 0
unfolding initial
held-empty held none =
    record { fits = λ i. rw (none i) zero-le; counts = zero-le; keyed = λ h. all_zero-replicate 32; counted = λ h. refl }

module _ {held : ℕ → List ℕ} {w : GeneratorState} {n : ℕ} (h : Held held w n) where
  -- a pool that has room gains bytes
  pub fits-gained : (pool : ℕ) (bytes : List ℕ) → length (held pool) + length bytes ≤ max_pool_length →
      (i : ℕ) → length (held i ++ cond (eqb pool i) bytes []) ≤ max_pool_length
  fits-gained pool bytes room i = rw length-append (grown (eqb pool i) (eqb-true pool i))
    where
      grown : (t : Bool) → (t ≡ true → pool ≡ i) → length (held i) + length (cond t bytes []) ≤ max_pool_length
      grown true q = subst (λ k. length (held k) + length bytes ≤ max_pool_length) (q refl) room
      grown false q = omega (arith, h.fits i)

  -- another K and C, with a key, and any number of requests
  pub held-keyed : (v : GeneratorState) (m : ℕ) → v.count ≤ max_counter → 0 < v.count → Held held v m
  held-keyed v m c pos =
      record { fits = h.fits; counts = c; keyed = λ z. absurd (omega arith); counted = λ z. absurd (omega arith) }

  -- ---- 21 does not arise

  pub pools-fine : any_pool malformed_pool (tabulate (λ i. pool_of (held i)) pool_count) ≡ false
  pools-fine = any-tabulate malformed_pool (λ i. pool_of (held i)) pool_count (λ i _. well-formed (held i) (h.fits i))

  pub key-fine : Generator.malformed w ≡ false
  unfolding Generator.malformed
  key-fine = zero-count w.count (not (all_zero w.key)) (λ z. rw (h.keyed z))

  pub requests-fine : unseeded_counted w.count (min max_key_requests n) ≡ false
  unfolding unseeded_counted max_key_requests
  requests-fine = zero-count w.count (not (eqb (min max_key_requests n) 0)) (λ z. rw (h.counted z))

  -- other strings, within the limit
  pub held-other : (other : ℕ → List ℕ) → ((i : ℕ) → length (other i) ≤ max_pool_length) → Held other w n
  held-other other fit = record { fits = fit; counts = h.counts; keyed = h.keyed; counted = h.counted }
