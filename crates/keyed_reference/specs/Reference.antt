-- The reference model of the keyed scheduler: a run worked out from the scheduler key and the calls' arguments alone. Each accepted event is
-- booked for the step that empties its pool, in closed form. Text that it shares with the station is invisible to agreement, so rows and laws
-- check it by itself (docs/PROOFS.md, 'What model and station share'): the scheduler (`input_pool`, `empties`, `output_pool`); the refusal chains
-- over plain values, with `seed_size`; `event_bytes`; `D`, and the generator's `initial` and `reseed`; and what a call and a run are, `input_number`,
-- `and_then`, `input_buffer`, `outcome`, `run_from`, `state_from`. The generator's request it takes in closed form, and a list of quotas record by
-- record (ReferenceLists.antt). What it compares goes by `concrete` (`pool_of`, `encode`, `pool_count`, `max_key_requests`) and `left_with`. The
-- clauses of 21 it never reads.
-- Assumes nothing.
use Rattle.std.specs.Prelude.{Bool, true, false, cond, ◌&&◌, List, [], ◌∷◌, ◌++◌, ℕ, ◌+◌, ◌-◌, ◌*◌, ◌/◌, ◌^◌, eqb, leb, ltb, length}
use Rattle.laws.specs.Lists.{joined, select}
use Rattle.hash.specs.ShaD.{D}
use Rattle.generator.specs.Steps.{GeneratorState, initial, reseed}
use Rattle.generator.specs.Closed.{closed_random_data}
use Rattle.pools.specs.Events.{event_bytes}
use Rattle.pools.specs.Refusals.{and_then, seed_size, request_number, write_number, update_number}
use Rattle.pools.specs.Effects.{Effect}
use Rattle.pools.specs.Calls.{Outcome, outcome, run_from, state_from}
use Rattle.keyed.specs.Scheduler.{input_pool, empties, output_pool}
use Rattle.keyed.specs.Refusals.{event_number}
use Rattle.keyed.specs.Calls.{Call, event, request, update, write, input_buffer, input_number}
use Rattle.keyed.specs.Entries.{Entry}
use Rattle.keyed_reference.specs.ReferenceLists.{by_records}

-- an accepted event: the place of its call in the list, its pool, the bytes that the pool gained, and its step
pub record Accepted : Type 0 where
  pub place : ℕ
  pub pool : ℕ
  pub bytes : List ℕ
  pub step : ℕ

-- K and C, the steps made, the accepted events in arrival order, and the requests made since the last emptying (never stopped)
pub record Reference : Type 0 where
  pub generator : GeneratorState
  pub steps : ℕ
  pub events : List Accepted
  pub key_requests : ℕ

-- 0 everywhere and no events
unfoldable pub empty : Reference
empty = record { generator = initial; steps = 0; events = []; key_requests = 0 }

-- ---- the schedule

-- the step that an event of pool i at step t is booked for: below 31 the first odd multiple of 32 × 2^i from t on, of pool 31 the first
-- multiple above 0 from t on
unfoldable pub scheduled_step : ℕ → ℕ → ℕ
scheduled_step i t =
    cond (ltb i 31)
    (32 * 2 ^ (i + 1) * ((t + 32 * 2 ^ i - 1) / (32 * 2 ^ (i + 1))) + 32 * 2 ^ i)
    (32 * 2 ^ i * ((t - 1) / (32 * 2 ^ i) + 1))

unfoldable pub scheduled : Accepted → ℕ
scheduled e = scheduled_step e.pool e.step

-- of pool i, booked for step n or later; of pool i, booked for n
unfoldable pub pending : ℕ → ℕ → Accepted → Bool
pending n i e = eqb e.pool i && leb n (scheduled e)

unfoldable pub consumed_at : ℕ → ℕ → Accepted → Bool
consumed_at n i e = eqb e.pool i && eqb (scheduled e) n

-- the events' bytes, joined
unfoldable pub contents : List Accepted → List ℕ
contents es = joined (λ e. e.bytes) es

-- the bytes that pool i holds before the next step: those of its events booked for that step or later
unfoldable pub pool_contents : Reference → ℕ → List ℕ
pool_contents b i = contents (select (pending b.steps i) b.events)

-- ---- what an accepted call does

-- the events with that of the next step
unfoldable pub noted : List ℕ → ℕ → Reference → List ℕ → List Accepted
noted key place b bytes =
    b.events ++ (record { place = place; pool = input_pool key b.steps; bytes = bytes; step = b.steps } ∷ [])

-- an event is noted; where its step empties a pool, D of the bytes of that pool's events booked for the step reseeds the generator
unfoldable pub reference_event : List ℕ → ℕ → Reference → List ℕ → Effect Reference
reference_event key place b bytes =
    let n = b.steps in
    let es = noted key place b bytes in
    record {
      emptied = cond (empties n) 1 0;
      buffer = [];
      next = record {
        generator = cond (empties n) (reseed b.generator (D (contents (select (consumed_at n (output_pool n)) es)))) b.generator;
        steps = n + 1;
        events = es;
        key_requests = cond (empties n) 0 b.key_requests;
      };
      trace = [];
    }

-- a request for n bytes of K and C
unfoldable pub reference_request : Reference → GeneratorState → ℕ → Effect Reference
reference_request b w n =
    let made = closed_random_data w n in
    record {
      emptied = 0;
      buffer = made.bytes;
      next = record { generator = made.next; steps = b.steps; events = b.events; key_requests = b.key_requests + 1 };
      trace = made.trace;
    }

-- ---- the calls; 21 never arises

unfoldable pub reference_number : List ℕ → Reference → Call → ℕ
reference_number key b (event source content) =
    let i = input_pool key b.steps in
    event_number false (length (pool_contents b i)) source (length content) b.generator.count b.steps
reference_number key b (request buffer) = request_number false b.generator.count false (length buffer)
reference_number key b (update seed) = update_number false b.generator.count false seed
reference_number key b (write seed) = write_number false b.generator.count false seed

-- an update: the 64 bytes reseed the generator, then as a request for 64 bytes; a write: as a request for 64 bytes
unfoldable pub reference_effect : List ℕ → ℕ → Reference → Call → Effect Reference
reference_effect key place b (event source content) = reference_event key place b (event_bytes source content)
reference_effect key place b (request buffer) = reference_request b b.generator (length buffer)
reference_effect key place b (update seed) = reference_request b (reseed b.generator seed) seed_size
reference_effect key place b (write seed) = reference_request b b.generator seed_size

-- a call with its list, or without one: the list's numbers stand after the input's
unfoldable pub reference_entry_number : List ℕ → Reference → Entry → ℕ
reference_entry_number key b e =
    and_then (input_number e.call) (and_then (by_records e.quotas e.call) (reference_number key b e.call))

unfoldable pub reference_step : List ℕ → ℕ → Reference → Entry → Outcome Reference
reference_step key place b e =
    outcome (reference_entry_number key b e) true 0 (input_buffer e.call) b (reference_effect key place b e.call)

unfoldable pub reference_run : List ℕ → List Entry → List (Outcome Reference)
reference_run key calls = run_from (reference_step key) 0 empty calls

unfoldable pub reference_after : List ℕ → List Entry → Reference
reference_after key calls = state_from (reference_step key) 0 empty calls
