-- Runs of calls, each with the list that it takes, or none (02 (x)).
-- Assumes nothing.
use Rattle.std.specs.Prelude.{◌≡◌, List, map}
use Rattle.pools.specs.declared.Fortuna.{Fortuna}
use Rattle.pools.specs.State.{fresh}
use Rattle.pools.specs.Calls as Calls
use Rattle.pools.specs.Calls.{Call, Outcome, run_from, state_from}
use Rattle.quotas.specs.declared.Quota.{Quota}
use Rattle.quotas.specs.Entries.{Quotas, without, within, Entry, taking, entry_step, list_remaining, lists_with}
use Rattle.quotas.specs.Runs.{Taken, returned, handed_on}

-- from the fresh state: the outcomes of the calls, and the state that they leave
unfoldable pub run : List Entry → List (Outcome Fortuna)
run calls = run_from (λ place. entry_step) 0 fresh calls

unfoldable pub state_after : List Entry → Fortuna
state_after calls = state_from (λ place. entry_step) 0 fresh calls

-- the lists that the calls return
unfoldable pub lists_left : List Entry → List (Outcome Fortuna) → List Quotas
lists_left calls os = lists_with list_remaining calls os

-- a run of calls without a list is as before
abbrev pub RunAsBefore : Type 0
RunAsBefore = (calls : List Call) → run (map (taking without) calls) ≡ Calls.run calls

-- a run that hands the list on is a run of these calls, each with the list that it took
abbrev pub taken_entries : List Taken → List Entry
taken_entries ts = map (λ (t : Taken). taking (within t.quotas) t.call) ts

abbrev pub HandedIsRun : Type 0
HandedIsRun =
    (rs : List Quota) (calls : List Call) →
    run (taken_entries (handed_on fresh rs calls)) ≡ map (λ (t : Taken). t.outcome) (handed_on fresh rs calls)

-- and the lists that its calls return are those handed on; calls without a list return none
abbrev pub HandedLists : Type 0
HandedLists =
    (rs : List Quota) (calls : List Call) →
    let ts = handed_on fresh rs calls in
    lists_left (taken_entries ts) (run (taken_entries ts)) ≡ map (λ (t : Taken). within (returned t)) ts

abbrev pub NoListLeft : Type 0
NoListLeft =
    (calls : List Call) →
    lists_left (map (taking without) calls) (run (map (taking without) calls)) ≡ map (λ (c : Call). without) calls
