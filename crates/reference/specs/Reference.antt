-- The reference model (01's plain logbook): a run worked out from the calls' arguments alone. It takes nothing of a Fortuna state or of
-- its answers. Text that it shares with the station is invisible to agreement, so rows and laws check it by itself (docs/PROOFS.md, 'What
-- model and station share'): the refusal chains over plain values, with `seed_size`; `event_bytes`; `used_pools`; `D`, and the generator's
-- `initial` and `reseed`; the rule of draws and shuffles, `tries` and `shuffled`, with `try_size`; and what a call and a run are,
-- `input_number`, `and_then`, `input_buffer`, `unchanged`, `effect_of`, `outcome`, `run_from`, `state_from`. The generator's request it takes in
-- closed form, and a list of quotas record by record (ReferenceLists.antt).
-- Assumes nothing.
use Rattle.std.specs.Prelude.{Bool, true, false, cond, ◌&&◌, ◌||◌, List, [], ◌∷◌, ◌++◌, ℕ, ◌+◌, ◌-◌, ◌*◌, ◌/◌, ◌%◌, ◌^◌, eqb, leb, ltb, length}
use Rattle.laws.specs.Lists.{joined, select}
use Rattle.hash.specs.ShaD.{D}
use Rattle.generator.specs.Steps.{GeneratorState, initial, reseed}
use Rattle.generator.specs.Closed.{closed_random_data}
use Rattle.pools.specs.Events.{event_bytes}
use Rattle.pools.specs.Schedule.{used_pools}
use Rattle.pools.specs.Refusals.{and_then, seed_size, event_number, request_number, write_number, update_number, draw_number, shuffle_number}
use Rattle.pools.specs.Effects.{Effect}
use Rattle.pools.specs.Draws.{try_size, tries, shuffled}
use Rattle.pools.specs.Calls.{Call, event, request, update, write, draw, shuffle, input_buffer, input_number, Outcome, outcome, run_from, state_from}
use Rattle.quotas.specs.Entries.{Entry}
use Rattle.reference.specs.ReferenceLists.{by_records}

-- an accepted event: the place of its call in the list, its pool, the bytes that the pool gained, and its r, the R at that moment
pub record Accepted : Type 0 where
  pub place : ℕ
  pub pool : ℕ
  pub bytes : List ℕ
  pub reseeds_before : ℕ

-- K and C, the mark, R (never wrapped), the accepted events in arrival order, and the requests made since the last reseed (never stopped)
pub record Reference : Type 0 where
  pub generator : GeneratorState
  pub last_reseed : ℕ
  pub reseeds : ℕ
  pub events : List Accepted
  pub key_requests : ℕ

-- 0 everywhere and no events
unfoldable pub empty : Reference
empty = record { generator = initial; last_reseed = 0; reseeds = 0; events = []; key_requests = 0 }

-- ---- the schedule

-- the reseed that an event of pool i is booked for, accepted after r reseeds
unfoldable pub scheduled_reseed : ℕ → ℕ → ℕ
scheduled_reseed i r = 2 ^ i * (r / 2 ^ i + 1)

unfoldable pub scheduled : Accepted → ℕ
scheduled e = scheduled_reseed e.pool e.reseeds_before

-- of pool i, booked above n; of pool i, booked for n
unfoldable pub pending : ℕ → ℕ → Accepted → Bool
pending n i e = eqb e.pool i && ltb n (scheduled e)

unfoldable pub consumed_at : ℕ → ℕ → Accepted → Bool
consumed_at n i e = eqb e.pool i && eqb (scheduled e) n

-- the events' bytes, joined
unfoldable pub contents : List Accepted → List ℕ
contents es = joined (λ e. e.bytes) es

-- the bytes that pool i holds: those of its events booked above R
unfoldable pub pool_contents : Reference → ℕ → List ℕ
pool_contents b i = contents (select (pending b.reseeds i) b.events)

-- the reading minus the mark, modulo 2^32
unfoldable pub waited_at : Reference → ℕ → ℕ
waited_at b clock = (clock % 2 ^ 32 + 2 ^ 32 - b.last_reseed % 2 ^ 32) % 2 ^ 32

-- due: pool 0 holds 64 bytes or more, and R = 0 or the reading minus the mark, modulo 2^32, is above 100
unfoldable pub due_at : Reference → ℕ → Bool
due_at b clock = leb 64 (length (pool_contents b 0)) && (eqb b.reseeds 0 || ltb 100 (waited_at b clock))

-- ---- what an accepted call does

-- an event is noted with r = R
unfoldable pub append_event : ℕ → Reference → ℕ → List ℕ → Reference
append_event place b i bytes =
    record {
      generator = b.generator;
      last_reseed = b.last_reseed;
      reseeds = b.reseeds;
      events = b.events ++ (record { place = place; pool = i; bytes = bytes; reseeds_before = b.reseeds } ∷ []);
      key_requests = b.key_requests;
    }

unfoldable pub with_state : Reference → GeneratorState → Reference
with_state b w =
    record { generator = w; last_reseed = b.last_reseed; reseeds = b.reseeds; events = b.events; key_requests = b.key_requests }

-- K and C that a request left, which counts as one more on the key
unfoldable pub requested_state : Reference → GeneratorState → Reference
requested_state b w =
    record { generator = w; last_reseed = b.last_reseed; reseeds = b.reseeds; events = b.events; key_requests = b.key_requests + 1 }

-- for each i with 2^i dividing n, D of the bytes of pool i's events booked for n, joined in rising i
unfoldable pub scheduled_digests : Reference → ℕ → List ℕ
scheduled_digests b n = joined (λ i. D (contents (select (consumed_at n i) b.events))) (used_pools n)

-- R grows by 1, the reading becomes the mark, and the generator is reseeded
unfoldable pub reference_reseed : Reference → ℕ → Reference
reference_reseed b clock =
    record {
      generator = reseed b.generator (scheduled_digests b (b.reseeds + 1));
      last_reseed = clock;
      reseeds = b.reseeds + 1;
      events = b.events;
      key_requests = 0;
    }

unfoldable pub reference_reseed_if_due : Reference → ℕ → Reference
reference_reseed_if_due b clock = cond (due_at b clock) (reference_reseed b clock) b

-- the count: how many D there were; 0 where none was due
unfoldable pub reference_count : Reference → ℕ → ℕ
reference_count b clock = cond (due_at b clock) (length (used_pools (b.reseeds + 1))) 0

-- a request for n bytes
unfoldable pub reference_request : Reference → ℕ → ℕ → Effect Reference
reference_request b clock n =
    let r = reference_reseed_if_due b clock in
    let made = closed_random_data r.generator n in
    record { emptied = reference_count b clock; buffer = made.bytes; next = requested_state r made.next; trace = made.trace }

-- ---- the calls; 21 never arises

unfoldable pub reference_number : Reference → Call → ℕ
reference_number b (event source pool content) = event_number false (length (pool_contents b pool)) source pool (length content)
reference_number b (request clock buffer) = request_number false b.generator.count (due_at b clock) (length buffer)
reference_number b (update clock seed) = update_number false b.generator.count (due_at b clock) seed
reference_number b (write clock seed) = write_number false b.generator.count (due_at b clock) seed
reference_number b (draw clock n d) = draw_number false b.generator.count (due_at b clock) n d
reference_number b (shuffle clock list) = shuffle_number false b.generator.count (due_at b clock) list

-- a try at a reading is a request for 4 bytes
unfoldable pub reference_try : ℕ → Reference → Effect Reference
reference_try clock b = reference_request b clock try_size

-- an update: the 64 bytes reseed the generator, then as a request for 64 bytes; a write: as a request for 64 bytes
unfoldable pub reference_effect : ℕ → Reference → Call → Effect Reference
reference_effect place b (event source pool content) =
    record { emptied = 0; buffer = []; next = append_event place b pool (event_bytes source content); trace = [] }
reference_effect place b (request clock buffer) = reference_request b clock (length buffer)
reference_effect place b (update clock seed) = reference_request (with_state b (reseed b.generator seed)) clock seed_size
reference_effect place b (write clock seed) = reference_request b clock seed_size
reference_effect place b (draw clock n d) = (tries (reference_try clock) n d b).effect
reference_effect place b (shuffle clock list) = (shuffled (reference_try clock) list b).effect

unfoldable pub reference_found : Reference → Call → Bool
reference_found b (event source pool content) = true
reference_found b (request clock buffer) = true
reference_found b (update clock seed) = true
reference_found b (write clock seed) = true
reference_found b (draw clock n d) = (tries (reference_try clock) n d b).found
reference_found b (shuffle clock list) = (shuffled (reference_try clock) list b).found

unfoldable pub reference_value : Reference → Call → ℕ
reference_value b (event source pool content) = 0
reference_value b (request clock buffer) = 0
reference_value b (update clock seed) = 0
reference_value b (write clock seed) = 0
reference_value b (draw clock n d) = (tries (reference_try clock) n d b).value
reference_value b (shuffle clock list) = 0

-- a call with its list, or without one: the list's numbers stand after the input's
unfoldable pub reference_entry_number : Reference → Entry → ℕ
reference_entry_number b e = and_then (input_number e.call) (and_then (by_records e.quotas e.call) (reference_number b e.call))

unfoldable pub reference_step : ℕ → Reference → Entry → Outcome Reference
reference_step place b e =
    let c = e.call in
    outcome (reference_entry_number b e) (reference_found b c) (reference_value b c) (input_buffer c) b (reference_effect place b c)

unfoldable pub reference_run : List Entry → List (Outcome Reference)
reference_run calls = run_from reference_step 0 empty calls

unfoldable pub reference_after : List Entry → Reference
reference_after calls = state_from reference_step 0 empty calls
