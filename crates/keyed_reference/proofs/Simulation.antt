-- Each accepted call of the station on the state that the model says is the model's.
-- Assumes nothing.
use mathlib.Core.Path.{◌≡◌, refl, sym, ap, ap₂, ◌∙◌}
use mathlib.Core.Logic.{◌≢◌}
use mathlib.Core.Bool.{Bool, true, false, cond}
use mathlib.Core.List.{List, [], append-nil}
use Prim.Native.Nat.{ℕ, ◌+◌, ◌≤◌, ◌<◌, min}
use native.Mathlib.Omega.{arith}
use lib.ListN.{set}
use borrow.Author.Tests.{eq-eqb, ne_eqb}
use Rattle.laws.specs.Lists.{tabulate, select}
use Rattle.laws.proofs.Cases.{by-test}
use Rattle.laws.proofs.Tabulate.{get_d_tabulate, tabulate-ext}
use Rattle.laws.proofs.Lists.{set-tabulate}
use Rattle.hash.specs.Hasher.{absorb}
use Rattle.hash.specs.ShaD.{D, empty_pool, pool_of, pool_digest}
use Rattle.hash.specs.declared.hasher.Hasher.{Hasher}
use Rattle.hash.proofs.Laws.{pool-empty, absorb-pool, pool-digest-is}
use Rattle.generator.specs.Counter.{max_counter}
use Rattle.laws.specs.Blocks.{block_count}
use Rattle.generator.specs.Steps.{GeneratorState, Generated, encode, reseed}
use Rattle.generator.specs.Closed.{rekeyed, closed_random_data}
use Rattle.generator.proofs.Steps.{random-data-closed}
use Rattle.generator.proofs.Laws.{decode-encode}
use Rattle.pools.specs.Events.{pool_count}
use Rattle.pools.specs.Schedule.{max_key_requests, count_request}
use Rattle.pools.specs.Collected.{nth}
use Rattle.pools.specs.Effects.{Effect}
use Rattle.pools.proofs.Runs.{effect_to}
use Rattle.reference.proofs.Simulation.{count-concrete}
use Rattle.keyed.specs.declared.Keyed.{Keyed}
use Rattle.keyed.specs.Scheduler.{input_pool, empties, output_pool, takes}
use Rattle.keyed.specs.State.{pool_at, picked}
use Rattle.keyed.specs.Effects.{gained, emptied_into, emptied_by_step, stepped, add_event, served, random_data_from}
use Rattle.keyed_reference.specs.Reference.{Reference, consumed_at, contents, pool_contents, noted, reference_event, reference_request}
use Rattle.keyed_reference.specs.Agreement.{concrete}
use Rattle.keyed_reference.proofs.Schedule.{input-small, output-is}
use Rattle.keyed_reference.proofs.Bookings.{pending-consumed}
use Rattle.keyed_reference.proofs.Invariant.{Sound, gained_contents, contents-gained, past-noted, contents-taken, contents-kept, requested_state, sound-requested}
use Rattle.keyed_reference.proofs.Concrete.{pool-concrete}

-- ---- an event

-- where nothing is emptied, no pool is taken; where something is, the output pool is, and no other
not_taken : (n i : ℕ) → empties n ≡ false → takes n i ≡ false
unfolding takes
not_taken n i e = rw e

pub output-taken : (n : ℕ) → empties n ≡ true → takes n (output_pool n) ≡ true
unfolding takes
output-taken n e = rw e (eq-eqb (output_pool n) (output_pool n) refl)

others-not-taken : (n i : ℕ) → i ≢ output_pool n → empties n ≡ true → takes n i ≡ false
unfolding takes
others-not-taken n i h e = rw e (ne_eqb (output_pool n) i (λ q. h (sym q)))

module _ (key : List ℕ) (place : ℕ) (b : Reference) (bytes : List ℕ) (s : Sound b) where
  abbrev in-pool : ℕ
  in-pool = input_pool key b.steps

  abbrev out-pool : ℕ
  out-pool = output_pool b.steps

  -- the pools once the event is in, and once a pool is emptied
  abbrev full_at : ℕ → Hasher
  full_at i = pool_of (gained_contents key place b bytes i)

  abbrev left_at : ℕ → Hasher
  left_at i = pool_of (pool_contents (reference_event key place b bytes).next i)

  in-range : in-pool < pool_count
  unfolding pool_count
  in-range = input-small key b.steps

  own-pool : absorb (pool_at (concrete key b) in-pool) bytes ≡ full_at in-pool
  own-pool =
      ap (λ (p : Hasher). absorb p bytes) (pool-concrete key b in-pool in-range)
      ∙ absorb-pool (pool_contents b in-pool) bytes
      ∙ ap pool_of (sym (contents-gained key place b bytes in-pool ∙ rw (eq-eqb in-pool in-pool refl)))

  other-pool : (i : ℕ) → i ≢ in-pool → pool_of (pool_contents b i) ≡ full_at i
  other-pool i n =
      ap pool_of (sym (contents-gained key place b bytes i ∙ rw (ne_eqb in-pool i (λ e. n (sym e))) (append-nil (pool_contents b i))))

  gained-pools : set (concrete key b).pools in-pool (absorb (pool_at (concrete key b) in-pool) bytes) ≡ tabulate full_at pool_count
  gained-pools =
      ap (λ (p : Hasher). set (concrete key b).pools in-pool p) own-pool
      ∙ (unfold concrete in set-tabulate (λ i. pool_of (pool_contents b i)) full_at pool_count in-pool in-range other-pool)

  kept-pools : empties b.steps ≡ false → tabulate full_at pool_count ≡ tabulate left_at pool_count
  kept-pools e = tabulate-ext full_at left_at pool_count (λ i h. ap pool_of (sym (contents-kept key place b bytes s.past i (not_taken b.steps i e))))

  module _ (e : empties b.steps ≡ true) where
    out-range : out-pool < pool_count
    unfolding pool_count
    out-range = omega (arith, (output-is b.steps e).small)

    emptied-pools : set (tabulate full_at pool_count) out-pool empty_pool ≡ tabulate left_at pool_count
    emptied-pools =
        ap (λ (p : Hasher). set (tabulate full_at pool_count) out-pool p)
        (pool-empty ∙ ap pool_of (sym (contents-taken key place b bytes s.past out-pool (output-taken b.steps e))))
        ∙ set-tabulate full_at left_at pool_count out-pool out-range
        (λ i n. ap pool_of (sym (contents-kept key place b bytes s.past i (others-not-taken b.steps i n e))))

    digest-is : pool_digest (nth (tabulate full_at pool_count) out-pool) ≡ D (contents (select (consumed_at b.steps out-pool) (noted key place b bytes)))
    unfolding nth gained_contents
    digest-is =
        ap pool_digest (get_d_tabulate full_at _ pool_count out-pool out-range) ∙ pool-digest-is _
        ∙ ap (λ es. D (contents es))
        (pending-consumed b.steps out-pool (noted key place b bytes) (past-noted key place b bytes s.past) (output-taken b.steps e))

  -- the state once the event is in its pool
  abbrev filled : Keyed
  filled =
      record {
        generator = encode b.generator;
        pools = tabulate full_at pool_count;
        last_reseed = 0;
        reseed_count = 0;
        reseeded = false;
        key_requests = min max_key_requests b.key_requests;
        scheduler_key = key;
        step = b.steps;
      }

  gained-is : gained (concrete key b) bytes ≡ filled
  unfolding gained picked concrete
  gained-is =
      λ i. record {
        generator = encode b.generator;
        pools = gained-pools i;
        last_reseed = 0;
        reseed_count = 0;
        reseeded = false;
        key_requests = min max_key_requests b.key_requests;
        scheduler_key = key;
        step = b.steps;
      }

  next-is : (g : GeneratorState) (n : ℕ) (t : Bool) → t ≡ empties b.steps
      → g ≡ cond t (reseed b.generator (D (contents (select (consumed_at b.steps out-pool) (noted key place b bytes))))) b.generator
      → n ≡ cond t 0 b.key_requests
      → (g ≡ (reference_event key place b bytes).next.generator) × (n ≡ (reference_event key place b bytes).next.key_requests)
  unfolding reference_event
  next-is g n t q e f = (e ∙ rw q, f ∙ rw q)

  -- what the model's event leaves beside its pools, K and C
  steps_next : b.steps + 1 ≡ (reference_event key place b bytes).next.steps
  unfolding reference_event
  steps_next = refl

  emptied-next : cond (empties b.steps) 1 0 ≡ (reference_event key place b bytes).emptied
  unfolding reference_event
  emptied-next = refl

  buffer-next : [] ≡ (reference_event key place b bytes).buffer
  unfolding reference_event
  buffer-next = refl

  trace-next : [] ≡ (reference_event key place b bytes).trace
  unfolding reference_event
  trace-next = refl

  taken_next : empties b.steps ≡ true → stepped (emptied_into filled out-pool) ≡ concrete key (reference_event key place b bytes).next
  unfolding stepped emptied_into concrete pool_at max_key_requests
  taken_next e =
      let n = next-is (reseed b.generator (D (contents (select (consumed_at b.steps out-pool) (noted key place b bytes))))) 0 true (sym e) refl refl in
      λ i. record {
        generator = (ap encode (ap₂ reseed (decode-encode b.generator s.held.counts) (digest-is e)) ∙ ap encode n.0) i;
        pools = emptied-pools e i;
        last_reseed = 0;
        reseed_count = 0;
        reseeded = false;
        key_requests = ap (min max_key_requests) n.1 i;
        scheduler_key = key;
        step = steps_next i;
      }

  kept_next : empties b.steps ≡ false → stepped filled ≡ concrete key (reference_event key place b bytes).next
  unfolding stepped concrete
  kept_next e =
      let n = next-is b.generator b.key_requests false (sym e) refl refl in
      λ i. record {
        generator = ap encode n.0 i;
        pools = kept-pools e i;
        last_reseed = 0;
        reseed_count = 0;
        reseeded = false;
        key_requests = ap (min max_key_requests) n.1 i;
        scheduler_key = key;
        step = steps_next i;
      }

  emptied-is : (t : Bool) → empties b.steps ≡ t → stepped (emptied_by_step filled) ≡ stepped (cond t (emptied_into filled out-pool) filled)
  unfolding emptied_by_step
  emptied-is t e = ap (λ (d : Bool). stepped (cond d (emptied_into filled out-pool) filled)) e

  next-agrees : stepped (emptied_by_step (gained (concrete key b) bytes)) ≡ concrete key (reference_event key place b bytes).next
  next-agrees =
      ap (λ (x : Keyed). stepped (emptied_by_step x)) gained-is
      ∙ by-test (empties b.steps) (stepped (emptied_by_step filled) ≡ concrete key (reference_event key place b bytes).next)
      (λ e. emptied-is true e ∙ taken_next e)
      (λ e. emptied-is false e ∙ kept_next e)

  pub event-agrees : add_event (concrete key b) bytes ≡ effect_to (concrete key) (reference_event key place b bytes)
  unfolding add_event
  event-agrees =
      let emptied-here : cond (empties (concrete key b).step) 1 0 ≡ (reference_event key place b bytes).emptied = unfold concrete in emptied-next in
      λ i. record {
        emptied = emptied-here i;
        buffer = buffer-next i;
        next = next-agrees i;
        trace = trace-next i;
      }

-- ---- a request

-- what the generator's request leaves
requested : Keyed → Generated → Effect Keyed
requested x made = record { emptied = 0; buffer = made.bytes; next = served x made.next; trace = made.trace }

-- the model's count
requested-count : (b : Reference) (w : GeneratorState) → b.key_requests + 1 ≡ (requested_state b w).key_requests
unfolding requested_state
requested-count b w = refl

module _ (key : List ℕ) (b : Reference) (w : GeneratorState) (n : ℕ) where
  abbrev made : Generated
  made = closed_random_data w n

  request-next : (reference_request b w n).next ≡ requested_state b made.next
  unfolding reference_request requested_state
  request-next = refl

  served-is : served (concrete key b) made.next ≡ concrete key (requested_state b made.next)
  unfolding served concrete requested_state pool_contents count_request
  served-is =
      λ i. record {
        generator = encode made.next;
        pools = (concrete key b).pools;
        last_reseed = 0;
        reseed_count = 0;
        reseeded = false;
        key_requests = (count-concrete max_key_requests b.key_requests ∙ ap (min max_key_requests) (requested-count b made.next)) i;
        scheduler_key = key;
        step = b.steps;
      }

  pub request-agrees : random_data_from (concrete key b) w n ≡ effect_to (concrete key) (reference_request b w n)
  unfolding random_data_from reference_request requested
  request-agrees =
      ap (requested (concrete key b)) (random-data-closed w n)
      ∙ λ i. record {
        emptied = 0;
        buffer = made.bytes;
        next = (served-is ∙ ap (concrete key) (sym request-next)) i;
        trace = made.trace;
      }

  pub request-sound : Sound b → w.count + (block_count n + 2) ≤ max_counter → Sound (reference_request b w n).next
  unfolding closed_random_data rekeyed
  request-sound s room = rw request-next (sound-requested b made.next room (omega arith) s)
