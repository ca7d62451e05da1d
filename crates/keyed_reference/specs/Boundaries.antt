-- Boundary rows of the keyed scheduler: the pool that a step empties (what it picks: Picks.antt), the booking, each number at its last accepted and
-- first refused value, the order of the numbers, the clauses of 21, and what an accepted and a refused event leave. They are about text that model
-- and station share, so agreement cannot check it.
-- Assumes nothing.
use Rattle.std.specs.Prelude.{◌≡◌, Bool, true, false, List, [], ◌∷◌, ◌++◌, map, ℕ, ◌+◌, ◌-◌, ◌*◌, ◌^◌, length, replicate, set}
use Rattle.laws.specs.Lists.{tabulate}
use Rattle.hash.specs.Hasher.{absorb}
use Rattle.hash.specs.ShaD.{empty_pool, pool_digest}
use Rattle.hash.specs.declared.hasher.Hasher.{Hasher}
use Rattle.generator.specs.Steps.{GeneratorState, encode, reseed, pseudo_random_data}
use Rattle.pools.specs.Events.{event_bytes}
use Rattle.quotas.specs.declared.Quota.{Quota}
use Rattle.quotas.specs.Entries.{within}
use Rattle.keyed.specs.declared.Keyed.{Keyed}
use Rattle.keyed.specs.Scheduler.{emptied_at}
use Rattle.keyed.specs.State.{fresh, malformed}
use Rattle.keyed.specs.Refusals.{event_number}
use Rattle.keyed.specs.Calls.{Call, event, request, update, write, step}
use Rattle.keyed.specs.Entries.{taking, entry_number, entry_step, left_by}
use Rattle.keyed_reference.specs.Picks.{row_key}
use Rattle.keyed_reference.specs.Reference.{scheduled_step}

-- the pool that a step empties, or 32 where it empties none
abbrev pub OutputRow : Type 0
OutputRow =
    map emptied_at
    (0 ∷ 1 ∷ 31 ∷ 32 ∷ 33 ∷ 64 ∷ 96 ∷ 128 ∷ (2 ^ 35) ∷ (2 ^ 36) ∷ (2 ^ 36 + 32)
    ∷ (2 ^ 37) ∷ (2 ^ 63) ∷ (2 ^ 64 - 32) ∷ (2 ^ 64 - 1) ∷ [])
    ≡ 32 ∷ 32 ∷ 32 ∷ 0 ∷ 32 ∷ 1 ∷ 0 ∷ 2 ∷ 30 ∷ 31 ∷ 0 ∷ 31 ∷ 31 ∷ 0 ∷ 32 ∷ []

-- pool 0 from the steps 0, 32, 33 on; pool 1 from 0, 64, 65; pool 30 from 2^35, 2^35 + 1; pool 31 from 0, 1, 2^36, 2^36 + 1
abbrev pub ScheduleRow : Type 0
ScheduleRow =
    scheduled_step 0 0 ∷ scheduled_step 0 32 ∷ scheduled_step 0 33 ∷ scheduled_step 1 0 ∷ scheduled_step 1 64 ∷ scheduled_step 1 65
    ∷ scheduled_step 30 (2 ^ 35) ∷ scheduled_step 30 (2 ^ 35 + 1) ∷ scheduled_step 31 0 ∷ scheduled_step 31 1 ∷ scheduled_step 31 (2 ^ 36)
    ∷ scheduled_step 31 (2 ^ 36 + 1) ∷ []
    ≡ 32 ∷ 32 ∷ 96 ∷ 64 ∷ 64 ∷ 192 ∷ (2 ^ 35) ∷ (3 * 2 ^ 35) ∷ (2 ^ 36) ∷ (2 ^ 36) ∷ (2 ^ 36) ∷ (2 ^ 37) ∷ []

-- ---- states

-- a state under the row key, with these pools, K and C, step and requests on the key; mark, reseed number and flag as given
unfoldable pub state_with : List Hasher → GeneratorState → ℕ → ℕ → ℕ → Bool → ℕ → Keyed
state_with pools w t last count made requests =
    record {
      generator = encode w;
      pools = pools;
      last_reseed = last;
      reseed_count = count;
      reseeded = made;
      key_requests = requests;
      scheduler_key = row_key;
      step = t;
    }

-- with empty pools, K's first byte and C
abbrev pub key_and_count : ℕ → ℕ → GeneratorState
key_and_count first c = record { key = first ∷ replicate 31 0; count = c }

abbrev pub at_step : ℕ → ℕ → Keyed
at_step t c = state_with (replicate 32 empty_pool) (key_and_count 1 c) t 0 0 false 3

-- a pool that claims so many bytes, otherwise empty; all pools empty but pool i
abbrev pub sized : ℕ → Hasher
sized n = record { chain = empty_pool.chain; tail = empty_pool.tail; length = n }

abbrev pub with_pool : ℕ → Hasher → ℕ → Keyed
with_pool i p t = state_with (set (replicate 32 empty_pool) i p) (key_and_count 1 9) t 0 0 false 3

-- a page of 64 bytes that are not all equal
unfoldable pub page : List ℕ
page = 1 ∷ replicate 63 2

-- an event of source 2 with the bytes 10 and 20
unfoldable pub row_event : Call
row_event = event 2 (10 ∷ 20 ∷ [])

-- ---- numbers

-- 45 at the last step alone; 24 where the step empties a pool and C is at its end; by the station's own step
abbrev pub StepRow : Type 0
StepRow =
    map (λ (s : Keyed). (step s row_event).number)
    (at_step (2 ^ 64 - 2) 9 ∷ at_step (2 ^ 64 - 1) 9 ∷ at_step 32 (2 ^ 128 - 2) ∷ at_step 32 (2 ^ 128 - 1) ∷ at_step 33 (2 ^ 128 - 1)
    ∷ [])
    ≡ 0 ∷ 45 ∷ 0 ∷ 24 ∷ 0 ∷ []

-- 22 by the pool that the step picks, and by no other: step 33 picks pool 23; a pool has room for 2^61 - 65 bytes
abbrev pub RoomRow : Type 0
RoomRow =
    map (λ (s : Keyed). (step s row_event).number)
    (with_pool 23 (sized (2 ^ 61 - 70)) 33 ∷ with_pool 23 (sized (2 ^ 61 - 69)) 33 ∷ with_pool 22 (sized (2 ^ 61 - 69)) 33
    ∷ with_pool 0 (sized (2 ^ 61 - 69)) 33 ∷ [])
    ≡ 0 ∷ 22 ∷ 0 ∷ 0 ∷ []

-- an event's numbers one by one, from all tests failing on: 11, 13, 21, 22, 45, and 24 at a step that empties
abbrev pub OrderRow : Type 0
OrderRow =
    event_number true (2 ^ 61 - 1) 65536 0 (2 ^ 128 - 1) (2 ^ 64 - 1)
    ∷ event_number true (2 ^ 61 - 1) 65535 0 (2 ^ 128 - 1) (2 ^ 64 - 1)
    ∷ event_number true (2 ^ 61 - 1) 65535 33 (2 ^ 128 - 1) (2 ^ 64 - 1)
    ∷ event_number true (2 ^ 61 - 1) 65535 32 (2 ^ 128 - 1) (2 ^ 64 - 1)
    ∷ event_number false (2 ^ 61 - 1) 65535 1 (2 ^ 128 - 1) (2 ^ 64 - 1)
    ∷ event_number false 0 65535 1 (2 ^ 128 - 1) (2 ^ 64 - 1)
    ∷ event_number false (2 ^ 61 - 1) 0 1 (2 ^ 128 - 1) 32
    ∷ event_number false 0 0 1 (2 ^ 128 - 1) 32
    ∷ event_number false 0 0 1 (2 ^ 128 - 1) 31
    ∷ event_number false 0 0 1 (2 ^ 128 - 1) 0
    ∷ event_number false 0 0 1 (2 ^ 128 - 2) (2 ^ 36)
    ∷ event_number false 0 0 1 (2 ^ 128 - 1) (2 ^ 36)
    ∷ []
    ≡ 11 ∷ 13 ∷ 13 ∷ 21 ∷ 22 ∷ 45 ∷ 22 ∷ 24 ∷ 0 ∷ 0 ∷ 0 ∷ 24 ∷ []

-- with a list: 37, 38 and 39 after 13 and before 21
abbrev pub quota : ℕ → ℕ → ℕ → Quota
quota source allowance spent = record { source = source; allowance = allowance; spent = spent }

-- a state that 21 refuses
abbrev pub marked : Keyed
marked = state_with (replicate 32 empty_pool) (key_and_count 1 9) 33 1 0 false 3

abbrev pub ListOrderRow : Type 0
ListOrderRow =
    (map (λ (rs : List Quota). entry_number marked (taking (within rs) (event 2 [])))
    ((quota 2 9 10 ∷ []) ∷ []) ≡ 13 ∷ [])
    × (map (λ (rs : List Quota). entry_number marked (taking (within rs) row_event))
    ((quota 2 9 10 ∷ []) ∷ (quota 3 9 0 ∷ []) ∷ (quota 2 9 5 ∷ []) ∷ (quota 2 9 4 ∷ []) ∷ []) ≡ 37 ∷ 38 ∷ 39 ∷ 21 ∷ [])
    × (map (λ (c : Call). entry_number marked (taking (within (quota 2 9 10 ∷ [])) c))
    (request (replicate 1 0) ∷ update (replicate 63 1) ∷ update (replicate 64 1) ∷ update page ∷ write (replicate 64 1) ∷ [])
    ≡ 37 ∷ 15 ∷ 36 ∷ 37 ∷ 37 ∷ [])

-- 21: nothing wrong, at the last step; K without C; C without a reseed, as an update leaves it; mark, reseed number, flag not 0; requests without C
abbrev pub ClausesRow : Type 0
ClausesRow =
    map malformed
    (state_with (replicate 32 empty_pool) (key_and_count 0 0) (2 ^ 64 - 1) 0 0 false 0
    ∷ state_with (replicate 32 empty_pool) (key_and_count 1 0) 5 0 0 false 0
    ∷ state_with (replicate 32 empty_pool) (key_and_count 1 1) 5 0 0 false 1 ∷ state_with (replicate 32 empty_pool) (key_and_count 1 1) 5 1 0 false 0
    ∷ state_with (replicate 32 empty_pool) (key_and_count 1 1) 5 0 1 false 0 ∷ state_with (replicate 32 empty_pool) (key_and_count 1 1) 5 0 0 true 0
    ∷ state_with (replicate 32 empty_pool) (key_and_count 0 0) 5 0 0 false 1 ∷ [])
    ≡ false ∷ true ∷ false ∷ true ∷ true ∷ true ∷ true ∷ []

-- 21, the clauses on a pool: a full one at step 0; too long, a byte after the tail, another running hash below 64 bytes
abbrev pub PoolClausesRow : Type 0
PoolClausesRow =
    map malformed
    (with_pool 31 (sized (2 ^ 61 - 65)) 0 ∷ with_pool 31 (sized (2 ^ 61 - 64)) 5
    ∷ with_pool 31 (record { chain = empty_pool.chain; tail = replicate 63 0 ++ (1 ∷ []); length = 5 }) 5
    ∷ with_pool 31 (record { chain = replicate 8 0; tail = replicate 64 0; length = 63 }) 5
    ∷ with_pool 31 (record { chain = replicate 8 0; tail = replicate 64 0; length = 64 }) 5 ∷ [])
    ≡ false ∷ true ∷ true ∷ true ∷ false ∷ []

-- each of the 32 pools is looked at, and each byte of K
abbrev pub EachRow : Type 0
EachRow =
    (tabulate (λ (i : ℕ). malformed (with_pool i (sized (2 ^ 61 - 64)) 5)) 32 ≡ replicate 32 true)
    × (tabulate (λ (i : ℕ).
    malformed (state_with (replicate 32 empty_pool) (record { key = set (replicate 32 0) i 1; count = 0 }) 5 0 0 false 0)) 32
    ≡ replicate 32 true)

-- every call is refused by 21
abbrev pub EveryCallRow : Type 0
EveryCallRow =
    map (λ (c : Call). (step marked c).number) (row_event ∷ request [] ∷ update page ∷ write (replicate 64 1) ∷ [])
    ≡ 21 ∷ 21 ∷ 21 ∷ 21 ∷ []

-- no key yet: requests and writes are refused by 23, an update is taken
abbrev pub UnseededRow : Type 0
UnseededRow =
    map (λ (c : Call). (step (fresh row_key) c).number) (request [] ∷ request (1 ∷ []) ∷ write page ∷ update page ∷ [])
    ≡ 23 ∷ 23 ∷ 23 ∷ 0 ∷ []

-- 24 of requests and seed calls with nothing due, also at a step that empties: blocks and two more, an update seven
abbrev pub SpentCallsRow : Type 0
SpentCallsRow =
    (step (at_step 32 (2 ^ 128 - 3)) (request [])).number ∷ (step (at_step 32 (2 ^ 128 - 2)) (request [])).number
    ∷ (step (at_step 32 (2 ^ 128 - 4)) (request (replicate 16 0))).number ∷ (step (at_step 32 (2 ^ 128 - 3)) (request (replicate 16 0))).number
    ∷ (step (at_step 32 (2 ^ 128 - 7)) (write page)).number ∷ (step (at_step 32 (2 ^ 128 - 6)) (write page)).number
    ∷ (step (at_step 32 (2 ^ 128 - 8)) (update page)).number ∷ (step (at_step 32 (2 ^ 128 - 7)) (update page)).number ∷ []
    ≡ 0 ∷ 24 ∷ 0 ∷ 24 ∷ 0 ∷ 24 ∷ 0 ∷ 24 ∷ []

-- 22 before 45, by the pool that the last step picks, which is pool 17
abbrev pub FullLastRow : Type 0
FullLastRow =
    map (λ (s : Keyed). (step s row_event).number)
    (with_pool 17 (sized (2 ^ 61 - 69)) (2 ^ 64 - 1) ∷ with_pool 16 (sized (2 ^ 61 - 69)) (2 ^ 64 - 1) ∷ [])
    ≡ 22 ∷ 45 ∷ []

-- a request above 1,048,576 bytes is refused by 14 in every state, also with a list that 37 refuses
abbrev pub LongRow : Type 0
LongRow =
    ((s : Keyed) (out : List ℕ) → length out ≡ 1048577 → (step s (request out)).number ≡ 14)
    × ((s : Keyed) (rs : List Quota) (out : List ℕ) → length out ≡ 1048577 → entry_number s (taking (within rs) (request out)) ≡ 14)

-- ---- what an event leaves

-- the pool that holds the row's event alone
unfoldable pub event_pool : Hasher
event_pool = absorb empty_pool (event_bytes 2 (10 ∷ 20 ∷ []))

-- at step 33 pool 23 gains it, and nothing is emptied
abbrev pub GainRow : Type 0
GainRow =
    step (at_step 33 9) row_event
    ≡ record {
      number = 0;
      value = 0;
      effect = record {
        emptied = 0;
        buffer = [];
        next = state_with (set (replicate 32 empty_pool) 23 event_pool) (key_and_count 1 9) 34 0 0 false 3;
        trace = [];
      };
    }

-- at step 32 pool 27 gains it and pool 0 is emptied, although it is empty: K and C go on, no request is on the key
abbrev pub EmptyRow : Type 0
EmptyRow =
    step (at_step 32 9) row_event
    ≡ record {
      number = 0;
      value = 0;
      effect = record {
        emptied = 1;
        buffer = [];
        next =
            state_with (set (replicate 32 empty_pool) 27 event_pool) (reseed (key_and_count 1 9) (pool_digest empty_pool)) 33 0 0 false 0;
        trace = [];
      };
    }

-- at step 352 pool 0 gains it and is emptied: the event's own bytes enter at its own step, and the pool is empty again
abbrev pub OwnRow : Type 0
OwnRow =
    step (at_step 352 9) row_event
    ≡ record {
      number = 0;
      value = 0;
      effect = record {
        emptied = 1;
        buffer = [];
        next = state_with (replicate 32 empty_pool) (reseed (key_and_count 1 9) (pool_digest event_pool)) 353 0 0 false 0;
        trace = [];
      };
    }

-- the event's bytes go behind what its pool holds, and D of all of it enters
abbrev pub StringRow : Type 0
StringRow =
    (step (with_pool 0 (sized (2 ^ 61 - 70)) 352) row_event).effect.next.generator
    ≡ encode (reseed (key_and_count 1 9) (pool_digest (absorb (sized (2 ^ 61 - 70)) (event_bytes 2 (10 ∷ 20 ∷ [])))))

-- at step 64 pool 1 alone is emptied, and pool 10 gains the event
abbrev pub OnlyRow : Type 0
OnlyRow =
    let first = set (replicate 32 empty_pool) 0 (sized 64) in
    (step (state_with (set first 1 (sized 128)) (key_and_count 1 9) 64 0 0 false 65535) row_event).effect.next
    ≡ state_with (set first 10 event_pool) (reseed (key_and_count 1 9) (pool_digest (sized 128))) 65 0 0 false 0

-- step 2^64 - 2 is made, and the state is then at 2^64 - 1; there an event leaves everything as it was
abbrev pub LastRow : Type 0
LastRow =
    ((step (at_step (2 ^ 64 - 2) 9) row_event).effect.next
    ≡ state_with (set (replicate 32 empty_pool) 0 event_pool) (key_and_count 1 9) (2 ^ 64 - 1) 0 0 false 3)
    × ((step (at_step (2 ^ 64 - 1) 9) row_event).effect.next ≡ at_step (2 ^ 64 - 1) 9)

-- a request empties no pool, however full, and moves no step: one request more on the key
abbrev pub RequestRow : Type 0
RequestRow =
    step (with_pool 0 (sized (2 ^ 61 - 70)) 32) (request [])
    ≡ record {
      number = 0;
      value = 0;
      effect = record {
        emptied = 0;
        buffer = [];
        next =
            state_with (set (replicate 32 empty_pool) 0 (sized (2 ^ 61 - 70))) (pseudo_random_data (key_and_count 1 9) 0).next 32 0 0 false 4;
        trace = (pseudo_random_data (key_and_count 1 9) 0).trace;
      };
    }

-- the requests on the key stop at 65,535
abbrev pub CountRow : Type 0
CountRow =
    map (λ (n : ℕ). (step (state_with (replicate 32 empty_pool) (key_and_count 1 9) 33 0 0 false n) (request [])).effect.next.key_requests)
    (0 ∷ 65534 ∷ 65535 ∷ [])
    ≡ 1 ∷ 65535 ∷ 65535 ∷ []

-- spent: charged at step 33, all 0 at step 32, the event's own too
abbrev pub SpentRow : Type 0
SpentRow =
    (left_by (at_step 33 9) (quota 1 9 7 ∷ quota 2 90 8 ∷ []) row_event ≡ quota 1 9 7 ∷ quota 2 90 13 ∷ [])
    × (left_by (at_step 32 9) (quota 1 9 7 ∷ quota 2 90 8 ∷ []) row_event ≡ quota 1 9 0 ∷ quota 2 90 0 ∷ [])
    × (entry_step (at_step 32 9) (taking (within (quota 1 9 7 ∷ quota 2 90 8 ∷ [])) row_event) ≡ step (at_step 32 9) row_event)
    × (left_by (at_step 32 (2 ^ 128 - 1)) (quota 1 9 7 ∷ quota 2 90 8 ∷ []) row_event ≡ quota 1 9 7 ∷ quota 2 90 8 ∷ [])

-- the rows together
pub record Boundaries : Type 0 where
  pub outputs : OutputRow
  pub schedule : ScheduleRow
  pub steps : StepRow
  pub room : RoomRow
  pub order : OrderRow
  pub lists : ListOrderRow
  pub clauses : ClausesRow
  pub pool_clauses : PoolClausesRow
  pub each : EachRow
  pub every_call : EveryCallRow
  pub unseeded : UnseededRow
  pub spent_calls : SpentCallsRow
  pub full_last : FullLastRow
  pub long : LongRow
  pub gain : GainRow
  pub empty : EmptyRow
  pub own : OwnRow
  pub string : StringRow
  pub only : OnlyRow
  pub last : LastRow
  pub request : RequestRow
  pub count : CountRow
  pub spent : SpentRow
