-- The events behind the keys of a run (demand 3): what the calls put into each pool, and what the strings say of it.
-- Assumes nothing.
use Rattle.std.specs.Prelude.{Bool, cond, ◌&&◌, List, [], ◌∷◌, ◌++◌, map, ℕ, ◌+◌, ◌*◌, ◌/◌, ◌^◌, eqb, ltb, leb}
use Rattle.pools.specs.Schedule.{used_pools}
use Rattle.pools.specs.Calls.{Call, event, request, update, write, draw, shuffle}
use Rattle.quotas.specs.Entries.{Entry, entry_number}
use Rattle.reference.specs.Runs.{state_after}
use Rattle.reference.specs.Timer.{reseeds_after}
use Rattle.reference.specs.Provenance.{PoolUse, erased, traced}
use Rattle.history.specs.Strings.{Event}
use Rattle.history.specs.Reader.{history}

-- ---- the events of the calls

-- the event of a call, if it is one of pool i and the reseed that it is booked for passes a test: with r reseeds made before it, 01 books it
-- for 2^i × (floor(r / 2^i) + 1)
unfoldable pub booked_event : (ℕ → Bool) → ℕ → ℕ → Call → List Event
booked_event test i r (event source pool content) =
    cond (eqb pool i && test (2 ^ pool * (r / 2 ^ pool + 1))) (record { source = source; content = content } ∷ []) []
booked_event test i r (request clock buffer) = []
booked_event test i r (update clock seed) = []
booked_event test i r (write clock seed) = []
booked_event test i r (draw clock n d) = []
booked_event test i r (shuffle clock list) = []

-- the same of the call c after these, if the station accepts it
unfoldable pub accepted_event : (ℕ → Bool) → ℕ → List Entry → Entry → List Event
accepted_event test i before c =
    cond (eqb (entry_number (state_after before) c) 0) (booked_event test i (reseeds_after before) c.call) []

-- of a list of calls after these, in the order of the calls
unfoldable pub accepted_from : (ℕ → Bool) → ℕ → List Entry → List Entry → List Event
accepted_from test i before [] = []
accepted_from test i before (c ∷ later) = accepted_event test i before c ++ accepted_from test i (before ++ (c ∷ [])) later

-- the accepted events of pool i that are booked for reseed n; those that are booked for a reseed which the run has not made
unfoldable pub booked_for : List Entry → ℕ → ℕ → List Event
booked_for calls n i = accepted_from (λ k. eqb k n) i [] calls

unfoldable pub waiting_in : List Entry → ℕ → List Event
waiting_in calls i = accepted_from (λ k. ltb (reseeds_after calls) k) i [] calls

-- ---- what has entered the key

-- the events that entered through a pool, in their order there
pub record Entered : Type 0 where
  pub pool : ℕ
  pub events : List Event

-- whether the run has made reseed n, counted from 1
unfoldable pub made : List Entry → ℕ → Bool
made calls n = ltb 0 n && leb n (reseeds_after calls)

-- at reseed n, for each pool that it uses, in rising i
unfoldable pub entered_at : List Entry → ℕ → List Entered
entered_at calls n = cond (made calls n) (map (λ i. record { pool = i; events = booked_for calls n i }) (used_pools n)) []

-- ---- the strings

-- the uses of reseed n, in their order
unfoldable pub uses_of : ℕ → List PoolUse → List PoolUse
uses_of n [] = []
uses_of n (u ∷ us) = cond (eqb u.reseed_number n) (u ∷ uses_of n us) (uses_of n us)

-- the strings that reseed n used, in the order of use: bytes alone, without a pool and without the place of a call
unfoldable pub strings_at : List Entry → ℕ → List (List ℕ)
strings_at calls n = map (λ u. erased u.pieces) (uses_of n (traced calls).uses)

-- the string that pool i holds
unfoldable pub string_in : List Entry → ℕ → List ℕ
string_in calls i = erased ((traced calls).pieces i)

-- ---- worked out from the strings and the schedule alone

-- each pool with the events that its string is read as, as far as pools and strings go
unfoldable pub read_into : List ℕ → List (List ℕ) → List Entered
read_into [] strings = []
read_into (i ∷ pools) [] = []
read_into (i ∷ pools) (s ∷ strings) = record { pool = i; events = (history s).events } ∷ read_into pools strings

-- reseed n uses its pools in rising i
unfoldable pub worked_out : ℕ → List (List ℕ) → List Entered
worked_out n strings = read_into (used_pools n) strings
