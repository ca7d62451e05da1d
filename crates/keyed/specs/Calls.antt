-- The calls of the keyed scheduler with their arguments, and what each gives from a state.
-- Assumes nothing.
use Rattle.std.specs.Prelude.{true, false, List, [], ℕ, length}
use Rattle.pools.specs.Events.{event_bytes}
use Rattle.pools.specs.Refusals.{seed_size, request_input, request_state, request_number, seed_input, write_number, update_input, update_state, update_number}
use Rattle.pools.specs.Effects.{Effect}
use Rattle.pools.specs.Calls.{Outcome, outcome}
use Rattle.keyed.specs.State.{pool_at, picked, counter_of, malformed}
use Rattle.keyed.specs.Refusals.{event_input, event_state, event_number}
use Rattle.keyed.specs.Effects.{add_event, random_data, update_seed, write_seed}
use Rattle.keyed.specs.declared.Keyed.{Keyed}

-- a call with its arguments: an event names no pool, and no call takes a reading
pub data Call : Type 0 where
  event : (source : ℕ) (content : List ℕ) → Call
  request : (buffer : List ℕ) → Call
  update : (seed : List ℕ) → Call
  write : (seed : List ℕ) → Call

-- what the call's lent buffer holds; an event has none
unfoldable pub input_buffer : Call → List ℕ
input_buffer (event source content) = []
input_buffer (request buffer) = buffer
input_buffer (update seed) = seed
input_buffer (write seed) = seed

-- a call's input numbers (11, 13, 14, 15, 36), by its arguments alone
unfoldable pub input_number : Call → ℕ
input_number (event source content) = event_input source (length content)
input_number (request buffer) = request_input (length buffer)
input_number (update seed) = update_input seed
input_number (write seed) = seed_input seed

-- its state numbers (21 to 24, 45); no pool reseed is ever due
unfoldable pub state_number : Keyed → Call → ℕ
state_number s (event source content) =
    event_state (malformed s) (pool_at s (picked s)).length (length content) (counter_of s) s.step
state_number s (request buffer) = request_state (malformed s) (counter_of s) false (length buffer)
state_number s (update seed) = update_state (malformed s) (counter_of s) false
state_number s (write seed) = request_state (malformed s) (counter_of s) false seed_size

-- 0, or the number that refuses the call before it does anything
unfoldable pub call_number : Keyed → Call → ℕ
call_number s (event source content) =
    event_number (malformed s) (pool_at s (picked s)).length source (length content) (counter_of s) s.step
call_number s (request buffer) = request_number (malformed s) (counter_of s) false (length buffer)
call_number s (update seed) = update_number (malformed s) (counter_of s) false seed
call_number s (write seed) = write_number (malformed s) (counter_of s) false seed

-- what an accepted call does
unfoldable pub call_effect : Keyed → Call → Effect Keyed
call_effect s (event source content) = add_event s (event_bytes source content)
call_effect s (request buffer) = random_data s (length buffer)
call_effect s (update seed) = update_seed s seed
call_effect s (write seed) = write_seed s

-- the step of a state; no call draws a value
unfoldable pub step : Keyed → Call → Outcome Keyed
step s c = outcome (call_number s c) true 0 (input_buffer c) s (call_effect s c)
