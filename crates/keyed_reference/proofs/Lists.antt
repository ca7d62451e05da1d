-- The reference model's reading of a list, record by record, is the station's.
-- Assumes nothing.
use mathlib.Core.Path.{◌≡◌, refl, sym, ap, ◌∙◌}
use mathlib.Core.Bool.{true, false}
use mathlib.Core.List.{List, map}
use Prim.Native.Nat.{ℕ}
use native.Mathlib.Omega.{arith}
use lib.Dec.{eqb, ltb}
use lib.ListN.{length}
use borrow.Author.Tests.{eqb-true}
use Rattle.laws.proofs.Refusals.{passed}
use Rattle.pools.specs.Calls.{run_from, outcome}
use Rattle.pools.proofs.Chains.{then-nothing, both-passed}
use Rattle.quotas.specs.declared.Quota.{Quota}
use Rattle.quotas.specs.Records.{malformed_quotas, quotas_number, event_quotas_number}
use Rattle.quotas.specs.Entries.{Quotas, without, within, left_with}
use Rattle.quotas.proofs.Left.{passed-alone}
use Rattle.reference.proofs.ListReadings.{faulty-is, event-is, plain-charged, event-charged, settled-list, lists-each}
use Rattle.keyed.specs.declared.Keyed.{Keyed}
use Rattle.keyed.specs.Calls.{Call, event, request, update, write, input_number}
use Rattle.keyed.specs.Entries.{Entry, taking, list_number, entry_number, entry_step, charged_for, quotas_left, list_remaining}
use Rattle.keyed_reference.specs.Runs.{lists_left}
use Rattle.keyed_reference.specs.ReferenceLists.{by_records, adds_to, record_after, list_after, lists_after}

-- ---- the number that a list gives a call

pub by-records : (q : Quotas) (c : Call) → by_records q c ≡ list_number q c
unfolding by_records list_number quotas_number
by-records without c = refl
by-records (within rs) (event source content) = event-is rs source (length content)
by-records (within rs) (request buffer) = rw (faulty-is rs)
by-records (within rs) (update seed) = rw (faulty-is rs)
by-records (within rs) (write seed) = rw (faulty-is rs)

-- ---- the list that a call returns

-- a step's number is the one that refuses it
pub step-number : (s : Keyed) (c : Entry) → (entry_step s c).number ≡ entry_number s c
unfolding entry_step outcome
step-number s c = then-nothing (entry_number s c)

-- an accepted event's list is one that 37 does not refuse
allowed : (s : Keyed) (rs : List Quota) (source : ℕ) (content : List ℕ) → entry_number s (taking (within rs) (event source content)) ≡ 0
    → malformed_quotas rs ≡ false
unfolding entry_number list_number event_quotas_number
allowed s rs source content h =
    (passed (malformed_quotas rs) 37 _ (omega arith) (both-passed _ _ (both-passed (input_number (event source content)) _ h).1).0).0

charges : (s : Keyed) (rs : List Quota) (c : Call) → let o = entry_step s (taking (within rs) c) in
    ltb 0 o.effect.emptied ≡ false → eqb o.number 0 ≡ true → charged_for c rs ≡ map (record_after c o) rs
unfolding charged_for record_after adds_to
charges s rs (event source content) q d =
    event-charged (entry_step s (taking (within rs) (event source content))) (adds_to (event source content)) rs q d source (length content)
    (λ x. refl)
    (passed-alone rs (allowed s rs source content (sym (step-number s (taking (within rs) (event source content))) ∙ eqb-true _ 0 d)))
charges s rs (request buffer) q d = plain-charged (entry_step s (taking (within rs) (request buffer))) (λ x. 0) rs q d (λ x. refl)
charges s rs (update seed) q d = plain-charged (entry_step s (taking (within rs) (update seed))) (λ x. 0) rs q d (λ x. refl)
charges s rs (write seed) q d = plain-charged (entry_step s (taking (within rs) (write seed))) (λ x. 0) rs q d (λ x. refl)

pub list-is : (s : Keyed) (rs : List Quota) (c : Call) → let o = entry_step s (taking (within rs) c) in quotas_left c rs o ≡ map (record_after c o) rs
unfolding quotas_left record_after
list-is s rs c =
    settled-list (entry_step s (taking (within rs) c)) (adds_to c) (charged_for c rs) rs (λ t d. unfold record_after in charges s rs c t d)

left_is : (s : Keyed) (q : Quotas) (c : Call) → list_remaining (taking q c) (entry_step s (taking q c)) ≡ list_after (taking q c) (entry_step s (taking q c))
unfolding list_remaining list_after left_with
left_is s without c = refl
left_is s (within rs) c = ap within (list-is s rs c)

-- along a run
pub lists-left : (calls : List Entry) (place : ℕ) (s : Keyed)
    → lists_left calls (run_from (λ place. entry_step) place s calls) ≡ lists_after calls (run_from (λ place. entry_step) place s calls)
unfolding lists_left lists_after
lists-left = lists-each (λ place. entry_step) list_remaining list_after (λ place s e. left_is s e.quotas e.call)
