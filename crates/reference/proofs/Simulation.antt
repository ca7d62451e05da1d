-- Each step of the station on the state that the model says is the model's step.
-- Assumes nothing.
use mathlib.Core.Path.{◌≡◌, refl, sym, ap, ap₂, ◌∙◌}
use mathlib.Core.Logic.{◌≢◌}
use mathlib.Core.Bool.{Bool, true, false, cond}
use mathlib.Core.List.{List, ◌++◌, append-nil}
use Prim.Native.Nat.{ℕ, ◌+◌, ◌%◌, ◌^◌, ◌<◌, min}
use native.Mathlib.Nat.{mod-add-mod, min-eq_left, min-eq_right}
use native.Mathlib.Decide.{dec_le}
use native.Mathlib.Omega.{arith}
use lib.Dec.{ltb}
use lib.ListN.{length, set}
use borrow.Author.Tests.{lt-ltb, eq-eqb, ne_eqb}
use Rattle.laws.specs.Lists.{joined, select}
use Rattle.laws.proofs.Cases.{split}
use Rattle.laws.proofs.Tabulate.{tabulate-ext}
use Rattle.laws.proofs.Lists.{set-tabulate}
use Rattle.hash.specs.Hasher.{absorb}
use Rattle.hash.specs.ShaD.{D, empty_pool, pool_of, pool_digest}
use Rattle.hash.specs.declared.hasher.Hasher.{Hasher}
use Rattle.hash.proofs.Laws.{pool-empty, absorb-pool, pool-digest-is}
use Rattle.generator.specs.Steps.{GeneratorState, Generated, decode, encode, reseed, pseudo_random_data}
use Rattle.generator.specs.Closed.{closed_random_data}
use Rattle.generator.proofs.Steps.{random-data-closed}
use Rattle.pools.specs.declared.Fortuna.{Fortuna}
use Rattle.pools.specs.Events.{pool_count}
use Rattle.pools.specs.Schedule.{used, used_pools, max_key_requests, count_request}
use Rattle.pools.specs.State.{pool_at}
use Rattle.pools.specs.Effects.{Effect, with_pool, with_generator, with_request, add_event, next_reseed, digests, emptied_pools, pool_reseed, reseed_if_due, emptied_by, random_data, reseed_with_seed}
use Rattle.reference.specs.Reference.{Reference, consumed_at, contents, pool_contents, due_at, append_event, with_state, requested_state, scheduled_digests, reference_reseed, reference_reseed_if_due, reference_count, reference_request}
use Rattle.reference.specs.Agreement.{concrete}
use Rattle.reference.proofs.Schedule.{used-mod, used-pools-mod, joined-used}
use Rattle.reference.proofs.Invariant.{Sound, count-is, contents-event, contents-used, contents-unused, contents-consumed}
use Rattle.reference.proofs.Concrete.{pool-concrete, decode-concrete, due-concrete}

-- a model's effect with the state that it says
unfoldable pub concrete_effect : Effect Reference → Effect Fortuna
concrete_effect e = record { emptied = e.emptied; buffer = e.buffer; next = concrete e.next; trace = e.trace }

-- ---- another K and C

pub with-generator-concrete : (b : Reference) (w : GeneratorState) → with_generator (concrete b) w ≡ concrete (with_state b w)
unfolding with_generator concrete with_state pool_contents
with-generator-concrete b w = refl

-- one request more, up to the most that are counted
pub count-concrete : (m n : ℕ) → min m (min m n + 1) ≡ min m (n + 1)
count-concrete m n =
    elim (dec_le m n) [
      | yes h ↦ rw (min-eq_left h, min-eq_left {n = m} {m = m + 1} (omega arith), min-eq_left {n = m} {m = n + 1} (omega arith))
      | no h ↦ rw (min-eq_right {n = n} {m = m} (omega arith))
    ]

-- the model's count
requested-count : (b : Reference) (w : GeneratorState) → b.key_requests + 1 ≡ (requested_state b w).key_requests
unfolding requested_state
requested-count b w = omega arith

with-request-concrete : (b : Reference) (w : GeneratorState) → with_request (concrete b) w ≡ concrete (requested_state b w)
unfolding with_request concrete requested_state pool_contents count_request
with-request-concrete b w =
    λ i. record {
      generator = encode w;
      pools = (concrete b).pools;
      last_reseed = b.last_reseed;
      reseed_count = b.reseeds % 2 ^ 32;
      reseeded = ltb 0 b.reseeds;
      key_requests = (count-concrete max_key_requests b.key_requests ∙ ap (min max_key_requests) (requested-count b w)) i;
    }

-- ---- an event

module _ (place : ℕ) (b : Reference) (pool : ℕ) (bytes : List ℕ) where
  pool-gains : pool_contents (append_event place b pool bytes) pool ≡ pool_contents b pool ++ bytes
  pool-gains = contents-event place b pool bytes pool ∙ rw (eq-eqb pool pool refl)

  others_keep : (i : ℕ) → i ≢ pool → pool_contents b i ≡ pool_contents (append_event place b pool bytes) i
  others_keep i n = sym (contents-event place b pool bytes i ∙ rw (ne_eqb pool i (λ e. n (sym e))) (append-nil (pool_contents b i)))

  event-pools : pool < pool_count → set (concrete b).pools pool (absorb (pool_at (concrete b) pool) bytes) ≡ (concrete (append_event place b pool bytes)).pools
  event-pools h =
      ap (λ (p : Hasher). set (concrete b).pools pool p)
      (ap (λ (p : Hasher). absorb p bytes) (pool-concrete b pool h) ∙ absorb-pool (pool_contents b pool) bytes ∙ ap pool_of (sym pool-gains))
      ∙ (unfold concrete in set-tabulate (λ i. pool_of (pool_contents b i)) (λ i. pool_of (pool_contents (append_event place b pool bytes) i))
      pool_count pool h (λ i n. ap pool_of (others_keep i n)))

  event-uncounted : b.key_requests ≡ (append_event place b pool bytes).key_requests
  unfolding append_event
  event-uncounted = omega arith

  pub add-event-concrete : pool < pool_count → add_event (concrete b) pool bytes ≡ concrete (append_event place b pool bytes)
  unfolding add_event with_pool concrete append_event
  add-event-concrete h =
      λ i. record {
        generator = (concrete b).generator;
        pools = event-pools h i;
        last_reseed = b.last_reseed;
        reseed_count = b.reseeds % 2 ^ 32;
        reseeded = ltb 0 b.reseeds;
        key_requests = ap (min max_key_requests) event-uncounted i;
      }

-- ---- a pool reseed

pub next-reseed-concrete : (b : Reference) → next_reseed (concrete b) ≡ (b.reseeds + 1) % 2 ^ 32
unfolding next_reseed concrete
next-reseed-concrete b = mod-add-mod b.reseeds (2 ^ 32) 1

pub used-concrete : (b : Reference) (i : ℕ) → i < pool_count → used (next_reseed (concrete b)) i ≡ used (b.reseeds + 1) i
used-concrete b i h = rw (next-reseed-concrete b) (used-mod (b.reseeds + 1) i h)

pub used-pools-concrete : (b : Reference) → used_pools (next_reseed (concrete b)) ≡ used_pools (b.reseeds + 1)
used-pools-concrete b = rw (next-reseed-concrete b) (used-pools-mod (b.reseeds + 1))

module _ (b : Reference) (t : ℕ) (s : Sound b) where
  digest-concrete : (i : ℕ) → i < pool_count → used (b.reseeds + 1) i ≡ true
      → pool_digest (pool_at (concrete b) i) ≡ D (contents (select (consumed_at (b.reseeds + 1) i) b.events))
  digest-concrete i h u = ap pool_digest (pool-concrete b i h) ∙ pool-digest-is (pool_contents b i) ∙ ap D (contents-consumed b t s.past i u)

  -- the model's D of pool i at reseed n; its words for all of them
  abbrev booked_digest : ℕ → ℕ → List ℕ
  booked_digest n i = D (contents (select (consumed_at n i) b.events))

  digests-are : (n : ℕ) → joined (booked_digest n) (used_pools n) ≡ scheduled_digests b n
  unfolding scheduled_digests
  digests-are n = ap (λ (m : ℕ). joined (booked_digest n) (used_pools m)) (omega arith)

  pub digests-concrete : digests (concrete b) (next_reseed (concrete b)) ≡ scheduled_digests b (b.reseeds + 1)
  unfolding digests
  digests-concrete =
      ap (λ (l : List ℕ). joined (λ i. pool_digest (pool_at (concrete b) i)) l) (used-pools-concrete b)
      ∙ joined-used (λ i. pool_digest (pool_at (concrete b) i)) (booked_digest (b.reseeds + 1)) (b.reseeds + 1) digest-concrete
      ∙ digests-are (b.reseeds + 1)

  emptied-pool : (i : ℕ) → i < pool_count
      → cond (used (next_reseed (concrete b)) i) empty_pool (pool_at (concrete b) i) ≡ pool_of (pool_contents (reference_reseed b t) i)
  emptied-pool i h =
      ap (λ (u : Bool). cond u empty_pool (pool_at (concrete b) i)) (used-concrete b i h)
      ∙ split (λ (p : Hasher). p ≡ pool_of (pool_contents (reference_reseed b t) i)) (used (b.reseeds + 1) i)
      (λ u. pool-empty ∙ sym (ap pool_of (contents-used b t s.past i u)))
      (λ u. pool-concrete b i h ∙ ap pool_of (sym (contents-unused b t s.past i u)))

  reseed-pools : emptied_pools (concrete b) (next_reseed (concrete b)) ≡ (concrete (reference_reseed b t)).pools
  unfolding emptied_pools concrete
  reseed-pools = tabulate-ext _ (λ i. pool_of (pool_contents (reference_reseed b t) i)) pool_count emptied-pool

  reseed-generator : encode (reseed (decode (concrete b).generator) (digests (concrete b) (next_reseed (concrete b))))
      ≡ encode (reseed b.generator (scheduled_digests b (b.reseeds + 1)))
  reseed-generator = ap encode (ap₂ reseed (decode-concrete b s) digests-concrete)

  mark-moves : t ≡ (reference_reseed b t).last_reseed
  unfolding reference_reseed
  mark-moves = omega arith

  pub pool-reseed-concrete : pool_reseed (concrete b) t ≡ concrete (reference_reseed b t)
  unfolding pool_reseed concrete reference_reseed max_key_requests
  pool-reseed-concrete =
      λ i. record {
        generator = reseed-generator i;
        pools = reseed-pools i;
        last_reseed = mark-moves i;
        reseed_count = next-reseed-concrete b i;
        reseeded = sym (lt-ltb 0 (b.reseeds + 1) (omega arith)) i;
        key_requests = 0;
      }

  reseed-if-due-concrete : reseed_if_due (concrete b) t ≡ concrete (reference_reseed_if_due b t)
  unfolding reseed_if_due reference_reseed_if_due
  reseed-if-due-concrete = ap (λ (d : Bool). cond d (pool_reseed (concrete b) t) (concrete b)) (due-concrete b t) ∙ go (due_at b t)
    where
      go : (d : Bool) → cond d (pool_reseed (concrete b) t) (concrete b) ≡ concrete (cond d (reference_reseed b t) b)
      go true = pool-reseed-concrete
      go false = refl

  emptied-by-concrete : emptied_by (concrete b) t ≡ reference_count b t
  unfolding emptied_by
  emptied-by-concrete = ap₂ (λ (d : Bool) (n : ℕ). cond d n 0) (due-concrete b t) (ap length (used-pools-concrete b)) ∙ sym (count-is b t)

-- ---- a request

-- what is left once the pools gave k digests: the generator's request
requested : Fortuna → ℕ → Generated → Effect Fortuna
requested s k made = record { emptied = k; buffer = made.bytes; next = with_request s made.next; trace = made.trace }

requested-concrete : (b : Reference) (n k : ℕ) → Sound b
    → requested (concrete b) k (pseudo_random_data (decode (concrete b).generator) n)
    ≡ concrete_effect
    (record {
      emptied = k;
      buffer = (closed_random_data b.generator n).bytes;
      next = requested_state b (closed_random_data b.generator n).next;
      trace = (closed_random_data b.generator n).trace;
    })
unfolding requested concrete_effect
requested-concrete b n k s =
    ap (λ (w : GeneratorState). requested (concrete b) k (pseudo_random_data w n)) (decode-concrete b s)
    ∙ ap (λ (made : Generated). requested (concrete b) k made) (random-data-closed b.generator n)
    ∙ λ i. record {
      emptied = k;
      buffer = (closed_random_data b.generator n).bytes;
      next = with-request-concrete b (closed_random_data b.generator n).next i;
      trace = (closed_random_data b.generator n).trace;
    }

pub random-data-concrete : (b : Reference) (t n : ℕ) → Sound b → Sound (reference_reseed_if_due b t)
    → random_data (concrete b) t n ≡ concrete_effect (reference_request b t n)
unfolding random_data reference_request requested
random-data-concrete b t n s s' =
    ap₂ (λ (x : Fortuna) (k : ℕ). requested x k (pseudo_random_data (decode x.generator) n)) (reseed-if-due-concrete b t s) (emptied-by-concrete b t s)
    ∙ requested-concrete (reference_reseed_if_due b t) n (reference_count b t) s'

pub reseed-with-seed-concrete : (b : Reference) (seed : List ℕ) → Sound b
    → reseed_with_seed (concrete b) seed ≡ concrete (with_state b (reseed b.generator seed))
unfolding reseed_with_seed
reseed-with-seed-concrete b seed s =
    ap (λ (w : GeneratorState). with_generator (concrete b) (reseed w seed)) (decode-concrete b s)
    ∙ with-generator-concrete b (reseed b.generator seed)
