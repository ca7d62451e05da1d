-- An accepted event: its pool can gain, its step is not the last, and what it empties can be emptied; and what the code then leaves.
-- Assumes nothing.
use mathlib.Core.Path.{◌≡◌, refl, sym, ap, ap₂, subst₂, ◌∙◌}
use mathlib.Core.Bool.{Bool, true, false, cond, ◌||◌}
use mathlib.Core.List.{List, []}
use Prim.Native.Nat.{ℕ, ◌+◌, ◌-◌, ◌^◌, ◌≤◌, ◌<◌}
use native.Mathlib.Nat.{mod-lt}
use native.Mathlib.Omega.{arith}
use lib.Dec.{eqb, ltb}
use lib.ListN.{length, set}
use lib.Seq.{get_or-set_same, get_or-set_other}
use borrow.Author.Tests.{eqb-true, eqb-false, le-ltb}
use Rattle.std.specs.Int.{from_bool}
use Rattle.laws.specs.Refusals.{refuse}
use Rattle.laws.proofs.Cases.{by-test, neither}
use Rattle.laws.proofs.Refusals.{passed}
use Rattle.hash.specs.Hasher.{absorb}
use Rattle.hash.specs.ShaD.{empty_pool, max_pool_length, pool_digest}
use Rattle.std.proofs.Common.{Result, Ok}
use Rattle.hash.specs.Answers.{within}
use Rattle.hash.specs.declared.answer.TooLong.{TooLong}
use Rattle.hash.specs.declared.hasher.Hasher.{Hasher}
use Rattle.hash.proofs.Laws.{absorb-length, within-limit as digest-within, length-pool-digest}
use Rattle.generator.specs.Counter.{max_counter}
use Rattle.generator.specs.Steps.{decode}
use Rattle.generator.specs.Refusals as Generator
use Rattle.generator.specs.Operations.{reseeded}
use Rattle.generator.specs.declared.Generator.{Generator}
use Rattle.generator.proofs.Laws.{small-seed, reseeded-done, spent-is}
use Rattle.pools.specs.Events.{pool_count, event_bytes, gain}
use Rattle.pools.specs.Pool.{full, malformed_pool}
use Rattle.pools.specs.State.{any_pool, unseeded_counted}
use Rattle.pools.specs.Collected.{nth}
use Rattle.pools.specs.Refusals as Pools
use Rattle.pools.proofs.PoolTests.{none-at, within-limit}
use Rattle.pools.proofs.Chains.{both-passed}
use Rattle.pools.proofs.Acceptance.{event-room}
use Rattle.pools.proofs.Gains.{length-event}
use Rattle.pools.proofs.GainedPools.{gained-pool-is}
use Rattle.keyed.specs.Scheduler.{input_pool, empties, divides, output_pool}
use Rattle.keyed.specs.State.{pool_at, picked, counter_of, timer_moved, malformed_fields, malformed}
use Rattle.keyed.specs.Refusals.{max_step, step_number, event_number}
use Rattle.keyed.specs.Effects.{gained, emptied_into, emptied_by_step, stepped, add_event}
use Rattle.keyed.specs.Calls.{event, call_number, call_effect}
use Rattle.keyed.specs.Promises.{Emptiable}
use Rattle.keyed.specs.declared.Keyed.{Keyed}
use Rattle.keyed.proofs.Periods.{greatest-le}
use Rattle.keyed.proofs.Acceptance.{event-parts, step_left, step_room}

-- ---- a state that is not malformed

first : (a b c : Bool) → (a || b || c) ≡ false → a ≡ false
first true b c e = e
first false b c e = refl

module _ (s : Keyed) (fine : malformed s ≡ false) where
  -- the clauses on the other fields
  abbrev fields : Bool
  fields = malformed_fields (decode s.generator) s.reseeded s.last_reseed s.reseed_count s.key_requests

  pub pools-formed : any_pool malformed_pool s.pools ≡ false
  unfolding malformed
  pools-formed = (neither (any_pool malformed_pool s.pools) fields fine).0

  fields-formed : fields ≡ false
  unfolding malformed
  fields-formed = (neither (any_pool malformed_pool s.pools) fields fine).1

  pub generator-formed : Generator.malformed (decode s.generator) ≡ false
  unfolding malformed_fields
  generator-formed =
      first (Generator.malformed (decode s.generator)) (timer_moved s.reseeded s.last_reseed s.reseed_count)
      (unseeded_counted (decode s.generator).count s.key_requests) fields-formed

-- ---- an accepted event

event-formed : (m : Bool) (size source pool n : ℕ) → Pools.event_number m size source pool n ≡ 0 → m ≡ false
event-formed m size source pool n e =
    let parts = both-passed (Pools.event_input source pool n) (Pools.event_state m size n) (unfold Pools.event_number in e) in
    (passed m 21 (refuse (full size (gain n)) 22 0) (omega arith) (unfold Pools.event_state in parts.1)).0

module _ (s : Keyed) (source : ℕ) (d : List ℕ) (ok : call_number s (event source d) ≡ 0) where
  parts :
      (Pools.event_number (malformed s) (pool_at s (picked s)).length source 0 (length d) ≡ 0) × (step_number (counter_of s) s.step ≡ 0)
  unfolding call_number
  parts = event-parts (malformed s) _ source (length d) (counter_of s) s.step ok

  formed : malformed s ≡ false
  formed = event-formed (malformed s) _ source 0 (length d) parts.0

  pub step_fits : s.step < 2 ^ 64 → s.step + 1 < 2 ^ 64
  step_fits h =
      by-test (eqb s.step (2 ^ 64 - 1)) _
      (λ e. absurd (step_left (counter_of s) s.step parts.1 (unfold max_step in eqb-true s.step (2 ^ 64 - 1) e)))
      (λ e. omega (arith, eqb-false s.step (2 ^ 64 - 1) e))

  -- the pool gains the event's bytes
  pub gained-pool : Pools.gained_pool (pool_at s (picked s)) source d ≡ absorb (pool_at s (picked s)) (event_bytes source d)
  gained-pool = gained-pool-is (malformed s) (pool_at s (picked s)) source 0 d parts.0

  module _ (long : length s.pools ≡ 32) where
    -- and each pool stays within its limit
    short-pools : (j : ℕ) → j < 32 → (pool_at (gained s (event_bytes source d)) j).length ≤ max_pool_length
    unfolding gained pool_at nth picked
    short-pools j h =
        by-test (eqb j (picked s)) _
        (λ e.
        rw (eqb-true j (picked s) e) (rw (get_or-set_same s.pools (picked s) grown none (omega (arith, eqb-true j (picked s) e))) own))
        (λ e.
        rw (get_or-set_other s.pools (picked s) j grown none (eqb-false j (picked s) e))
        (within-limit _ (none-at malformed_pool s.pools j (pools-formed s formed) (omega arith))))
      where
        none : Hasher
        none = record { chain = []; tail = []; length = 0 }

        grown : Hasher
        grown = absorb (pool_at s (picked s)) (event_bytes source d)

        own : (absorb (pool_at s (picked s)) (event_bytes source d)).length ≤ max_pool_length
        own =
            rw (absorb-length (pool_at s (picked s)) (event_bytes source d), length-event source d)
            (event-room (malformed s) _ source 0 (length d) parts.0)

    pub emptiable : empties s.step ≡ true → Emptiable (gained s (event_bytes source d)) (output_pool s.step)
    unfolding counter_of
    emptiable e =
        let small : output_pool s.step ≤ 31 = unfold output_pool in greatest-le (divides s.step) 31 in
        let room = step_room (counter_of s) s.step parts.1 e in
        record {
          place = omega arith;
          short = short-pools (output_pool s.step) (omega arith);
          formed = unfold gained in generator-formed s formed;
          room = unfold gained counter_of in spent-is (decode s.generator) 1 ∙ le-room room;
        }
      where
        le-room : counter_of s + 1 ≤ max_counter → ltb max_counter ((decode s.generator).count + 1) ≡ false
        le-room r = le-ltb max_counter ((decode s.generator).count + 1) r

-- ---- what the code leaves

-- a pool emptied into the key: its digest comes
pub digest-comes :
    (s : Keyed) (i : ℕ) (r : Result (List ℕ) TooLong) → Emptiable s i →
    r ≡ within max_pool_length (pool_at s i).length (pool_digest (pool_at s i)) → r ≡ Ok (pool_digest (pool_at s i))
digest-comes s i r able e = e ∙ digest-within max_pool_length (pool_at s i).length (pool_digest (pool_at s i)) able.short

pub emptied-is :
    (s : Keyed) (i : ℕ) (digest : List ℕ) (g : Generator) (empty : Hasher) → Emptiable s i → digest ≡ pool_digest (pool_at s i) →
    g ≡ reseeded s.generator digest → empty ≡ empty_pool →
    ◌≡◌ {A = Keyed}
    (record {
      generator = g;
      pools = set s.pools i empty;
      last_reseed = s.last_reseed;
      reseed_count = s.reseed_count;
      reseeded = s.reseeded;
      key_requests = 0;
      scheduler_key = s.scheduler_key;
      step = s.step;
    })
    (emptied_into s i)
unfolding emptied_into
emptied-is s i digest g empty able is made blank =
    let short : length (pool_digest (pool_at s i)) ≤ 1024 = rw (length-pool-digest (pool_at s i)) (omega arith) in
    let done = reseeded-done s.generator (pool_digest (pool_at s i)) (small-seed (length (pool_digest (pool_at s i))) short) able.formed able.room in
    rw (made ∙ ap (reseeded s.generator) is ∙ done, blank)

-- a state with another pool, and at another step
abbrev pub with_pool : Keyed → ℕ → Hasher → Keyed
with_pool s i p =
    record {
      generator = s.generator;
      pools = set s.pools i p;
      last_reseed = s.last_reseed;
      reseed_count = s.reseed_count;
      reseeded = s.reseeded;
      key_requests = s.key_requests;
      scheduler_key = s.scheduler_key;
      step = s.step;
    }

abbrev pub at_step : Keyed → ℕ → Keyed
at_step s t =
    record {
      generator = s.generator;
      pools = s.pools;
      last_reseed = s.last_reseed;
      reseed_count = s.reseed_count;
      reseeded = s.reseeded;
      key_requests = s.key_requests;
      scheduler_key = s.scheduler_key;
      step = t;
    }

-- the pool that a step picks is one of the 32
pub input-small : (key : List ℕ) (t i : ℕ) → i ≡ input_pool key t → i < 32
unfolding input_pool pool_count
input-small key t i e = rw e (mod-lt _ {m = 32} (omega arith))

pub place-small : (s : Keyed) (place : ℕ) → place ≡ picked s → place < 32
unfolding picked
place-small s place e = input-small s.scheduler_key s.step place e

module _ (s : Keyed) (source : ℕ) (d : List ℕ) (ok : call_number s (event source d) ≡ 0) where
  module _ (place : ℕ) (q : Hasher) (placed : place ≡ picked s) (grown : q ≡ Pools.gained_pool (pool_at s place) source d) where
    -- the event's pool stored
    stored_is : with_pool s place q ≡ gained s (event_bytes source d)
    unfolding gained
    stored_is =
        let is : q ≡ absorb (pool_at s (picked s)) (event_bytes source d) =
        grown ∙ ap (λ (i : ℕ). Pools.gained_pool (pool_at s i) source d) placed ∙ gained-pool s source d ok in
        rw (is, placed)

    -- what the step empties can be emptied
    pub emptiable-now :
        length s.pools ≡ 32 → (out : ℕ) → out ≡ output_pool s.step → empties s.step ≡ true → Emptiable (with_pool s place q) out
    emptiable-now long out e u = subst₂ Emptiable (sym stored_is) (sym e) (emptiable s source d ok long u)

    -- and the next step
    pub taken_is : (out : ℕ) (x : Keyed) → out ≡ output_pool s.step → x ≡ emptied_into (with_pool s place q) out → empties s.step ≡ true
        → at_step x (s.step + 1) ≡ (add_event s (event_bytes source d)).next
    unfolding add_event emptied_by_step
    taken_is out x e f u =
        ap (λ (y : Keyed). at_step y (s.step + 1)) (f ∙ ap₂ emptied_into stored_is e) ∙ (unfold stepped emptied_into gained in rw u)

    pub kept-is : (x : Keyed) → x ≡ with_pool s place q → empties s.step ≡ false → at_step x (s.step + 1) ≡ (add_event s (event_bytes source d)).next
    unfolding add_event emptied_by_step
    kept-is x f u = ap (λ (y : Keyed). at_step y (s.step + 1)) (f ∙ stored_is) ∙ (unfold stepped gained in rw u)

-- the number of an event, from the pool that the step picks
pub event-number :
    (s : Keyed) (source : ℕ) (d : List ℕ) (i k : ℕ) → i ≡ picked s →
    k ≡ event_number (malformed s) (pool_at s i).length source (length d) (counter_of s) s.step → k ≡ call_number s (event source d)
unfolding call_number
event-number s source d i k placed e = rw (← placed) e

-- its effect
pub event-effect :
    (s : Keyed) (source : ℕ) (d : List ℕ) (n : ℕ) (x : Keyed) →
    (n ≡ (add_event s (event_bytes source d)).emptied) × (x ≡ (add_event s (event_bytes source d)).next) →
    (n ≡ (call_effect s (event source d)).emptied) × (x ≡ (call_effect s (event source d)).next)
    × ([] ≡ (call_effect s (event source d)).buffer)
unfolding call_effect add_event
event-effect s source d n x h = (h.0, h.1, refl)

-- how many pools its step empties
pub emptied-count : (s : Keyed) (bytes : List ℕ) (u : Bool) → u ≡ empties s.step → from_bool u ≡ (add_event s bytes).emptied
unfolding add_event
emptied-count s bytes true e = ap (λ (t : Bool). cond t 1 0) e
emptied-count s bytes false e = ap (λ (t : Bool). cond t 1 0) e

-- emptying a pool is no step
pub emptied-step : (s : Keyed) (i : ℕ) → (emptied_into s i).step ≡ s.step
unfolding emptied_into
emptied-step s i = refl
