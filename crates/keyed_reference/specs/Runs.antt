-- Runs of the keyed scheduler's calls, each with the list that it takes, or none, from a fresh start under a scheduler key.
-- Assumes nothing.
use Rattle.std.specs.Prelude.{Bool, true, false, List, [], ◌∷◌, ℕ, ◌+◌}
use Rattle.pools.specs.Calls.{Outcome, run_from, state_from}
use Rattle.quotas.specs.Entries.{Quotas, lists_with}
use Rattle.keyed.specs.declared.Keyed.{Keyed}
use Rattle.keyed.specs.State.{fresh}
use Rattle.keyed.specs.Calls.{Call, event, request, update, write}
use Rattle.keyed.specs.Entries.{Entry, entry_step, list_remaining}

-- the outcomes of the calls, and the state that they leave
unfoldable pub run : List ℕ → List Entry → List (Outcome Keyed)
run key calls = run_from (λ place. entry_step) 0 (fresh key) calls

unfoldable pub state_after : List ℕ → List Entry → Keyed
state_after key calls = state_from (λ place. entry_step) 0 (fresh key) calls

-- the lists that the calls return
unfoldable pub lists_left : List Entry → List (Outcome Keyed) → List Quotas
lists_left calls os = lists_with list_remaining calls os

-- a sum over the calls of a run and their outcomes
unfoldable pub tally : {S : Type 0} → (Entry → Outcome S → ℕ) → List Entry → List (Outcome S) → ℕ
tally f [] os = 0
tally f (c ∷ cs) [] = 0
tally f (c ∷ cs) (o ∷ os) = f c o + tally f cs os

-- whether a call is an event, an update
unfoldable pub is_event : Call → Bool
is_event (event source content) = true
is_event (request buffer) = false
is_event (update seed) = false
is_event (write seed) = false

unfoldable pub is_update : Call → Bool
is_update (event source content) = false
is_update (request buffer) = false
is_update (update seed) = true
is_update (write seed) = false
