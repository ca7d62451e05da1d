-- Runs of calls without a list are as before; a run that hands the list on is a run of demand 3.
-- Assumes nothing.
use mathlib.Core.Path.{◌≡◌, refl, ap, ap₂, ◌∙◌}
use mathlib.Core.List.{List, [], ◌∷◌, map}
use Prim.Native.Nat.{ℕ, suc}
use Rattle.pools.specs.declared.Fortuna.{Fortuna}
use Rattle.pools.specs.State.{fresh}
use Rattle.pools.specs.Calls as Calls
use Rattle.pools.specs.Calls.{Call, Outcome, step, run_from}
use Rattle.quotas.specs.declared.Quota.{Quota}
use Rattle.quotas.specs.Entries.{Quotas, without, within, taking, entry_step, list_remaining, left_with, lists_with}
use Rattle.quotas.specs.Runs.{Taken, taken_by, returned, handed_on}
use Rattle.quotas.proofs.Entries.{as_before}
use Rattle.reference.specs.Runs.{run, lists_left, RunAsBefore, taken_entries, HandedIsRun, HandedLists, NoListLeft}

from-before : (calls : List Call) (place : ℕ) (s : Fortuna)
    → run_from (λ place. entry_step) place s (map (taking without) calls) ≡ run_from (λ place. step) place s calls
unfolding run_from
from-before [] place s = refl
from-before (c ∷ calls) place s =
    ap₂ (λ (o : Outcome Fortuna) (l : List (Outcome Fortuna)). o ∷ l) (as_before s c)
    (ap (λ (o : Outcome Fortuna). run_from (λ place. entry_step) (suc place) o.effect.next (map (taking without) calls)) (as_before s c)
    ∙ from-before calls (suc place) (step s c).effect.next)

pub run-as-before : RunAsBefore
unfolding run Calls.run
run-as-before calls = from-before calls 0 fresh

-- ---- a run that hands the list on

handed-from :
    (calls : List Call) (place : ℕ) (s : Fortuna) (rs : List Quota) →
    run_from (λ place. entry_step) place s (taken_entries (handed_on s rs calls)) ≡ map (λ (t : Taken). t.outcome) (handed_on s rs calls)
unfolding run_from handed_on taken_by
handed-from [] place s rs = refl
handed-from (c ∷ calls) place s rs =
    ap (λ (l : List (Outcome Fortuna)). entry_step s (taking (within rs) c) ∷ l)
    (handed-from calls (suc place) (entry_step s (taking (within rs) c)).effect.next (returned (taken_by s rs c)))

pub handed-is-run : HandedIsRun
unfolding run
handed-is-run rs calls = handed-from calls 0 fresh rs

lists-from :
    (calls : List Call) (place : ℕ) (s : Fortuna) (rs : List Quota) →
    lists_left (taken_entries (handed_on s rs calls)) (run_from (λ place. entry_step) place s (taken_entries (handed_on s rs calls)))
    ≡ map (λ (t : Taken). within (returned t)) (handed_on s rs calls)
unfolding run_from handed_on taken_by lists_left lists_with left_with list_remaining returned
lists-from [] place s rs = refl
lists-from (c ∷ calls) place s rs =
    ap (λ (l : List Quotas). within (returned (taken_by s rs c)) ∷ l)
    (lists-from calls (suc place) (entry_step s (taking (within rs) c)).effect.next (returned (taken_by s rs c)))

pub handed-lists : HandedLists
unfolding run
handed-lists rs calls = lists-from calls 0 fresh rs

none_from : (calls : List Call) (place : ℕ) (s : Fortuna)
    → lists_left (map (taking without) calls) (run_from (λ place. entry_step) place s (map (taking without) calls)) ≡ map (λ (c : Call). without) calls
unfolding run_from lists_left lists_with left_with list_remaining
none_from [] place s = refl
none_from (c ∷ calls) place s = ap (λ (l : List Quotas). without ∷ l) (none_from calls (suc place) (entry_step s (taking without c)).effect.next)

pub no-list-left : NoListLeft
unfolding run
no-list-left calls = none_from calls 0 fresh
