-- The calls with their arguments, what each gives from a state, and runs of calls.
-- Assumes nothing.
use Rattle.std.specs.Prelude.{ℕ, suc, Bool, true, cond, List, [], ◌∷◌, length}
use Rattle.laws.specs.Refusals.{guarded}
use Rattle.pools.specs.Events.{event_bytes}
use Rattle.pools.specs.State.{fresh, pool_at, counter_of, malformed, due}
use Rattle.pools.specs.Refusals.{and_then, seed_size, event_input, event_state, event_number, request_input, request_state, request_number, seed_input, write_number, update_input, update_state, update_number, draw_input, draw_state, draw_number, list_input, shuffle_state, shuffle_number}
use Rattle.pools.specs.Effects.{Effect, unchanged, add_event, random_data, update_seed, write_seed}
use Rattle.pools.specs.Draws.{tries, shuffled, try_at}
use Rattle.pools.specs.declared.Fortuna.{Fortuna}

-- a call with its arguments; a buffer is what the lent buffer holds when the call finds it
pub data Call : Type 0 where
  event : (source pool : ℕ) (content : List ℕ) → Call
  request : (clock : ℕ) (buffer : List ℕ) → Call
  update : (clock : ℕ) (seed : List ℕ) → Call
  write : (clock : ℕ) (seed : List ℕ) → Call
  draw : (clock n d : ℕ) → Call
  shuffle : (clock : ℕ) (list : List ℕ) → Call

-- what the call's lent buffer holds, bytes or a list's numbers; an event and a draw have none
unfoldable pub input_buffer : Call → List ℕ
input_buffer (event source pool content) = []
input_buffer (request clock buffer) = buffer
input_buffer (update clock seed) = seed
input_buffer (write clock seed) = seed
input_buffer (draw clock n d) = []
input_buffer (shuffle clock list) = list

-- the call's reading of the clock; an event has none
unfoldable pub reading_of : Call → ℕ
reading_of (event source pool content) = 0
reading_of (request clock buffer) = clock
reading_of (update clock seed) = clock
reading_of (write clock seed) = clock
reading_of (draw clock n d) = clock
reading_of (shuffle clock list) = clock

-- a call's input numbers (11 to 15, 31, 32, 36), by its arguments alone
unfoldable pub input_number : Call → ℕ
input_number (event source pool content) = event_input source pool (length content)
input_number (request clock buffer) = request_input (length buffer)
input_number (update clock seed) = update_input seed
input_number (write clock seed) = seed_input seed
input_number (draw clock n d) = draw_input n d
input_number (shuffle clock list) = list_input list

-- its state numbers (21 to 24)
unfoldable pub state_number : Fortuna → Call → ℕ
state_number s (event source pool content) = event_state (malformed s) (pool_at s pool).length (length content)
state_number s (request clock buffer) = request_state (malformed s) (counter_of s) (due s clock) (length buffer)
state_number s (update clock seed) = update_state (malformed s) (counter_of s) (due s clock)
state_number s (write clock seed) = request_state (malformed s) (counter_of s) (due s clock) seed_size
state_number s (draw clock n d) = draw_state (malformed s) (counter_of s) (due s clock) d
state_number s (shuffle clock list) = shuffle_state (malformed s) (counter_of s) (due s clock) (length list)

-- 0, or the number that refuses the call before it does anything
unfoldable pub call_number : Fortuna → Call → ℕ
call_number s (event source pool content) = event_number (malformed s) (pool_at s pool).length source pool (length content)
call_number s (request clock buffer) = request_number (malformed s) (counter_of s) (due s clock) (length buffer)
call_number s (update clock seed) = update_number (malformed s) (counter_of s) (due s clock) seed
call_number s (write clock seed) = write_number (malformed s) (counter_of s) (due s clock) seed
call_number s (draw clock n d) = draw_number (malformed s) (counter_of s) (due s clock) n d
call_number s (shuffle clock list) = shuffle_number (malformed s) (counter_of s) (due s clock) list

-- what an accepted call does
unfoldable pub call_effect : Fortuna → Call → Effect Fortuna
call_effect s (event source pool content) =
    record { emptied = 0; buffer = []; next = add_event s pool (event_bytes source content); trace = [] }
call_effect s (request clock buffer) = random_data s clock (length buffer)
call_effect s (update clock seed) = update_seed s clock seed
call_effect s (write clock seed) = write_seed s clock
call_effect s (draw clock n d) = (tries (try_at clock) n d s).effect
call_effect s (shuffle clock list) = (shuffled (try_at clock) list s).effect

-- whether its draws found a value, where it makes any; and the value of a draw
unfoldable pub call_found : Fortuna → Call → Bool
call_found s (event source pool content) = true
call_found s (request clock buffer) = true
call_found s (update clock seed) = true
call_found s (write clock seed) = true
call_found s (draw clock n d) = (tries (try_at clock) n d s).found
call_found s (shuffle clock list) = (shuffled (try_at clock) list s).found

unfoldable pub call_value : Fortuna → Call → ℕ
call_value s (event source pool content) = 0
call_value s (request clock buffer) = 0
call_value s (update clock seed) = 0
call_value s (write clock seed) = 0
call_value s (draw clock n d) = (tries (try_at clock) n d s).value
call_value s (shuffle clock list) = 0

-- a call's number, the value of a draw, and its effect
pub record Outcome (S : Type 0) : Type 0 where
  pub number : ℕ
  pub value : ℕ
  pub effect : Effect S

-- the effect of a call that n refuses, or does not
unfoldable pub effect_of : {S : Type 0} → ℕ → List ℕ → S → Effect S → Effect S
effect_of n buffer s done = guarded n done (unchanged buffer s)

-- n is the number that refuses the call; 33 is the number of a call that was done, and whose draw found no value
unfoldable pub outcome : {S : Type 0} → ℕ → Bool → ℕ → List ℕ → S → Effect S → Outcome S
outcome n found value buffer s done =
    record { number = and_then n (cond found 0 33); value = guarded n value 0; effect = effect_of n buffer s done }

-- the step of a Fortuna state
unfoldable pub step : Fortuna → Call → Outcome Fortuna
step s c = outcome (call_number s c) (call_found s c) (call_value s c) (input_buffer c) s (call_effect s c)

-- the outcomes of a list of calls of any kind C, each given the state that the last one left; a step also takes the call's place in
-- the list
unfoldable pub run_from : {C S : Type 0} → (ℕ → S → C → Outcome S) → ℕ → S → List C → List (Outcome S)
run_from f place s [] = []
run_from f place s (c ∷ cs) = f place s c ∷ run_from f (suc place) (f place s c).effect.next cs

-- the state that a list of calls leaves
unfoldable pub state_from : {C S : Type 0} → (ℕ → S → C → Outcome S) → ℕ → S → List C → S
state_from f place s [] = s
state_from f place s (c ∷ cs) = state_from f (suc place) (f place s c).effect.next cs

-- from the fresh state
unfoldable pub run : List Call → List (Outcome Fortuna)
run calls = run_from (λ place. step) 0 fresh calls
