-- The state after a try that passes: as many tries pass in it as were left. It needs all 32 pools, as a reseed lists them anew.
-- Assumes nothing.
use Rattle.std.proofs.Common.{◌≡◌, ℕ, zero, suc, ◌+◌, ◌*◌, ◌≤◌, Bool, true, false, cond, ◌||◌, eqb, ltb, [], length, refl, ap, ◌∙◌, zero-le, suc-add, zero-add, arith, le-ltb, ne_eqb}
use Rattle.laws.proofs.Cases.{split, neither}
use Rattle.laws.proofs.Lists.{all_zero-replicate, same_list-refl}
use Rattle.laws.proofs.Tabulate.{length-tabulate}
use Rattle.hash.specs.ShaD.{max_pool_length, empty_pool}
use Rattle.hash.specs.declared.hasher.Hasher.{Hasher}
use Rattle.hash.proofs.Laws.{pool-empty, pool-empty-length, pool-zeros}
use Rattle.generator.specs.Counter.{max_counter}
use Rattle.generator.specs.Steps.{GeneratorState, decode, pseudo_random_data}
use Rattle.generator.specs.Refusals as Generator
use Rattle.generator.proofs.Laws.{unseeded-is, decode-encode, keyed-formed, random-data-count, try-blocks}
use Rattle.slots.specs.Fair.{try_value}
use Rattle.pools.specs.Events.{pool_count}
use Rattle.pools.specs.Schedule.{used}
use Rattle.pools.specs.Pool.{too_long, dirty_tail, stray_chain, malformed_pool}
use Rattle.pools.specs.State.{pool_at, counter_of, any_pool, unseeded_reseeded, stray_timer, unseeded_counted, malformed_fields, malformed, due}
use Rattle.pools.specs.Refusals.{unseeded, spent}
use Rattle.pools.specs.Effects.{unchanged, with_request, next_reseed, digests, emptied_pools, pool_reseed, reseed_if_due, random_data}
use Rattle.pools.specs.Collected.{nth}
use Rattle.pools.specs.Draws.{Drawn, try_size, after, leaving, tries, try_at}
use Rattle.pools.specs.Tries.{Passing}
use Rattle.pools.specs.declared.Fortuna.{Fortuna}
use Rattle.pools.proofs.Acceptance.{not-spent}
use Rattle.pools.proofs.PoolTests.{none-at, any-tabulate}
use Rattle.pools.proofs.Serving.{reseeded-count}
use Rattle.pools.proofs.Servables.{pools-formed, fields-formed}
use Rattle.pools.proofs.OneReseed.{quiet-after}
use Rattle.pools.proofs.Passing.{passing-fewer}

-- ---- the pools

empty-formed : malformed_pool empty_pool ≡ false
unfolding malformed_pool too_long dirty_tail stray_chain
empty-formed =
    let clean = rw (← pool-empty) at (pool-zeros []) in
    rw (pool-empty-length, le-ltb max_pool_length 0 zero-le, clean, all_zero-replicate 64, same_list-refl empty_pool.chain)

-- those of a reseed: emptied, or as they were
reseeded-formed : (s : Fortuna) (clock : ℕ) → length s.pools ≡ pool_count → any_pool malformed_pool s.pools ≡ false
    → any_pool malformed_pool (pool_reseed s clock).pools ≡ false
unfolding pool_reseed emptied_pools pool_at nth
reseeded-formed s clock all e =
    any-tabulate malformed_pool _ pool_count
    (λ i h.
    split (λ (p : Hasher). malformed_pool p ≡ false) (used (next_reseed s) i)
    (λ t. empty-formed)
    (λ t. none-at malformed_pool s.pools i e (rw all h)))

-- ---- the state in which the request is made, after the reseed if due

module _ (s : Fortuna) (clock : ℕ) where
  held-count : counter_of s + cond (due s clock) 1 0 ≤ max_counter → counter_of (reseed_if_due s clock) ≡ counter_of s + cond (due s clock) 1 0
  unfolding reseed_if_due pool_reseed counter_of
  held-count = go (due s clock)
    where
      go : (d : Bool) → (decode s.generator).count + cond d 1 0 ≤ max_counter
          → (decode (cond d (pool_reseed s clock) s).generator).count ≡ (decode s.generator).count + cond d 1 0
      go true h = reseeded-count s.generator (digests s (next_reseed s)) h
      go false h = omega arith

  held-long : length s.pools ≡ pool_count → length (reseed_if_due s clock).pools ≡ pool_count
  unfolding reseed_if_due pool_reseed emptied_pools
  held-long all = split (λ (q : Fortuna). length q.pools ≡ pool_count) (due s clock) (λ t. length-tabulate _ pool_count) (λ t. all)

  held-formed : length s.pools ≡ pool_count → malformed s ≡ false → any_pool malformed_pool (reseed_if_due s clock).pools ≡ false
  unfolding reseed_if_due
  held-formed all e =
      split (λ (q : Fortuna). any_pool malformed_pool q.pools ≡ false) (due s clock)
      (λ t. reseeded-formed s clock all (pools-formed s e))
      (λ t. pools-formed s e)

  timer-kept : malformed s ≡ false → stray_timer s.reseeded s.last_reseed s.reseed_count ≡ false
  unfolding malformed_fields
  timer-kept e =
      let front : Bool = Generator.malformed (decode s.generator) || unseeded_reseeded (decode s.generator).count s.reseeded in
      let timer : Bool = stray_timer s.reseeded s.last_reseed s.reseed_count in
      (neither front timer (neither (front || timer) (unseeded_counted (decode s.generator).count s.key_requests) (fields-formed s e)).0).1

  held-timer : malformed s ≡ false
      → stray_timer (reseed_if_due s clock).reseeded (reseed_if_due s clock).last_reseed (reseed_if_due s clock).reseed_count ≡ false
  unfolding reseed_if_due
  held-timer e =
      split (λ (q : Fortuna). stray_timer q.reseeded q.last_reseed q.reseed_count ≡ false) (due s clock)
      (λ t. unfold pool_reseed stray_timer in refl)
      (λ t. timer-kept e)

-- ---- the state after the request

-- C above 0, pools and timer as they should be
with-formed : (q : Fortuna) (w : GeneratorState) → w.count ≤ max_counter → (w.count ≡ 0 → ⊥) → any_pool malformed_pool q.pools ≡ false
    → stray_timer q.reseeded q.last_reseed q.reseed_count ≡ false → malformed (with_request q w) ≡ false
unfolding malformed malformed_fields with_request unseeded_reseeded unseeded_counted
with-formed q w room some pools timer =
    let zero : eqb w.count 0 ≡ false = ne_eqb w.count 0 some in
    rw (pools, decode-encode w room, keyed-formed w (unseeded-is w ∙ zero), zero, timer)

some-keyed : (c : ℕ) (d : Bool) → (c ≡ 0 → ⊥) → unseeded c d ≡ false
unfolding unseeded
some-keyed c d some = rw (ne_eqb c 0 some)

fits-unspent : (c : ℕ) (d : Bool) (b : ℕ) → c + cond d 1 0 + b ≤ max_counter → spent c d b ≡ false
unfolding spent
fits-unspent c d b h = le-ltb max_counter _ h

module _ (s : Fortuna) (clock : ℕ) where
  -- K and C after a try
  made : GeneratorState
  made = (pseudo_random_data (decode (reseed_if_due s clock).generator) try_size).next

  try-is : (try_at clock s).next ≡ with_request (reseed_if_due s clock) made
  unfolding try_at random_data made
  try-is = refl

  pub pools-next : length s.pools ≡ pool_count → length (try_at clock s).next.pools ≡ pool_count
  pools-next all = rw try-is (unfold with_request in held-long s clock all)

  made-is : counter_of s + cond (due s clock) 1 0 + 3 ≤ max_counter → made.count ≡ counter_of s + cond (due s clock) 1 0 + 3
  unfolding made try_size
  made-is room =
      let held : (decode (reseed_if_due s clock).generator).count ≡ counter_of s + cond (due s clock) 1 0 =
      unfold counter_of in held-count s clock (omega arith) in
      random-data-count (decode (reseed_if_due s clock).generator) 4 ∙ rw (held, try-blocks)

  pub passing-next : (k : ℕ) → length s.pools ≡ pool_count → Passing s clock (suc k) → Passing (try_at clock s).next clock k
  passing-next k all p =
      let room = not-spent (counter_of s) (due s clock) (3 * suc k) p.room in
      let count = made-is (omega arith) in
      let fits : made.count ≤ max_counter = rw count (omega arith) in
      let some : made.count ≡ 0 → ⊥ = λ z. omega (arith, count) in
      let quiet : due (try_at clock s).next clock ≡ false = unfold try_at in quiet-after s clock try_size in
      let next : counter_of (try_at clock s).next ≡ made.count =
      rw try-is (unfold counter_of with_request in ap (λ (w : GeneratorState). w.count) (decode-encode made fits)) in
      record {
        formed = rw try-is (with-formed (reseed_if_due s clock) made fits some (held-formed s clock all p.formed) (held-timer s clock p.formed));
        keyed = rw next (some-keyed made.count (due (try_at clock s).next clock) some);
        room = rw (next, quiet, count) (fits-unspent (counter_of s + cond (due s clock) 1 0 + 3) false (3 * k) (omega arith));
      }

-- ---- the state after the tries of a draw, however many were made

pub tries-pools : (clock n d : ℕ) (s : Fortuna) → length s.pools ≡ pool_count → length (tries (try_at clock) n d s).effect.next.pools ≡ pool_count
unfolding tries unchanged leaving after
tries-pools clock n zero s all = all
tries-pools clock n (suc d) s all =
    let next = pools-next s clock all in
    split (λ (o : Drawn Fortuna). length o.effect.next.pools ≡ pool_count) (ltb (try_value n (try_at clock s).buffer) n)
    (λ t. next)
    (λ t. tries-pools clock n d (try_at clock s).next next)

pub tries-passing : (clock n d k : ℕ) (s : Fortuna) → length s.pools ≡ pool_count → Passing s clock (d + k)
    → Passing (tries (try_at clock) n d s).effect.next clock k
unfolding tries unchanged leaving after
tries-passing clock n zero k s all p = rw (zero-add k) at p
tries-passing clock n (suc d) k s all p =
    let next : Passing (try_at clock s).next clock (d + k) = passing-next s clock (d + k) all (rw (suc-add d k) at p) in
    split (λ (o : Drawn Fortuna). Passing o.effect.next clock k) (ltb (try_value n (try_at clock s).buffer) n)
    (λ t. passing-fewer (try_at clock s).next clock k (d + k) (omega arith) next)
    (λ t. tries-passing clock n d k (try_at clock s).next (pools-next s clock all) next)
