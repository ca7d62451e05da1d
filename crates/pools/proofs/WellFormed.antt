-- The pool that bytes up to the limit leave is well formed (21); a clause on a state with C = 0; and 21 as the code asks for it.
-- Assumes nothing.
use Rattle.std.proofs.Common.{◌≡◌, ℕ, ◌-◌, ◌%◌, ◌≤◌, Bool, false, not, ◌&&◌, ◌||◌, eqb, ltb, List, length, drop, ltb-true, le-ltb, eqb-true}
use lib.Pointwise.{pointwise}
use Rattle.laws.specs.Lists.{all_zero, same_list}
use Rattle.laws.proofs.Cases.{by-test}
use Rattle.laws.proofs.Lists.{all_zero-replicate, same_list-refl}
use Rattle.hash.specs.ShaD.{empty_pool, pool_of, max_pool_length}
use Rattle.hash.proofs.Laws.{pool-length, pool-zeros, pool-short}
use Rattle.hash.specs.declared.hasher.Hasher.{Hasher}
use Rattle.generator.specs.Steps.{GeneratorState}
use Rattle.generator.specs.Refusals as Generator
use Rattle.generator.proofs.Laws.{unseeded-is}
use Rattle.pools.specs.Pool.{too_long, dirty_tail, stray_chain, malformed_pool}
use Rattle.pools.specs.State.{unseeded_reseeded, stray_timer, unseeded_counted, malformed_fields}
use Rattle.pools.proofs.Bits.{compared}

-- a pool that holds bytes up to the limit
module _ (m : List ℕ) where
  not-too-long : length m ≤ max_pool_length → too_long (pool_of m) ≡ false
  unfolding too_long
  not-too-long h = rw (pool-length m) (le-ltb max_pool_length (length m) h)

  clean-tail : dirty_tail (pool_of m) ≡ false
  unfolding dirty_tail
  clean-tail = rw (pool-length m, pool-zeros m, all_zero-replicate (64 - length m % 64))

  chain-kept : stray_chain (pool_of m) ≡ false
  unfolding stray_chain
  chain-kept =
      rw (pool-length m)
      (by-test
      (ltb (length m) 64)
      ((ltb (length m) 64 && not (same_list (pool_of m).chain empty_pool.chain)) ≡ false)
      (λ t. rw (t, pool-short m (ltb-true (length m) 64 t), same_list-refl empty_pool.chain))
      (λ t. rw t))

  pub well-formed : length m ≤ max_pool_length → malformed_pool (pool_of m) ≡ false
  unfolding malformed_pool
  well-formed h = rw (not-too-long h, clean-tail, chain-kept)

-- a clause that asks for C = 0
pub zero-count : (c : ℕ) (t : Bool) → (c ≡ 0 → t ≡ false) → (eqb c 0 && t) ≡ false
zero-count c t h = by-test (eqb c 0) ((eqb c 0 && t) ≡ false) (λ e. rw (e, h (eqb-true c 0 e))) (λ e. rw e)

-- no key: C = 0
pub no_key : (w : GeneratorState) → Generator.unseeded w ≡ eqb w.count 0
no_key w = unseeded-is w

-- ---- 21 as the code asks for it

pub fields : (w : GeneratorState) (reseeded : Bool) (last count requests : ℕ) → malformed_fields w reseeded last count requests
    ≡ (Generator.malformed w || (Generator.unseeded w && reseeded) || (not reseeded && not (eqb last 0 && eqb count 0))
    || (Generator.unseeded w && not (eqb requests 0)))
unfolding malformed_fields unseeded_reseeded stray_timer unseeded_counted
fields w reseeded last count requests = rw unseeded-is

pub pool : (p : Hasher) → malformed_pool p
    ≡ (ltb max_pool_length p.length || not (all_zero (drop (p.length % 64) p.tail))
    || (ltb p.length 64 && not (pointwise eqb p.chain empty_pool.chain)))
unfolding malformed_pool too_long dirty_tail stray_chain
pool p = rw compared
