-- Laws of runs for the crates above: an event's number, and the reseeds made.
-- Assumes nothing.
use mathlib.Core.Path.{◌≡◌, refl, sym, ap, ◌∙◌}
use mathlib.Core.Bool.{false, cond, true≢false}
use mathlib.Core.List.{List, [], ◌∷◌, ◌++◌}
use Prim.Native.Nat.{ℕ, ◌+◌}
use native.Mathlib.Omega.{arith}
use lib.Dec.{eqb, ltb}
use lib.ListN.{length}
use borrow.Author.Tests.{ltb-true}
use Rattle.laws.proofs.Cases.{by-test}
use Rattle.pools.specs.declared.Fortuna.{Fortuna}
use Rattle.pools.specs.Refusals.{and_then, event_input, event_number}
use Rattle.pools.specs.Calls.{event, input_number, call_found, Outcome, outcome, run_from, state_from}
use Rattle.pools.proofs.Acceptance.{EventPassed, input-passed}
use Rattle.pools.proofs.Chains.{then-nothing, both-passed}
use Rattle.quotas.specs.Entries.{Quotas, without, Entry, taking, entry_number, entry_step}
use Rattle.reference.specs.Runs.{run, state_after}
use Rattle.reference.specs.ReferenceLists.{by_records}
use Rattle.reference.specs.Reference.{empty, pool_contents, reference_number, reference_after, reference_entry_number}
use Rattle.reference.specs.Timer.{requests, pool_reseeds, reseeds_after}
use Rattle.reference.proofs.Timer.{reseed-told}
use Rattle.reference.proofs.Provenance.{same_number}
use Rattle.reference.proofs.Correct.{run-correct}

-- ---- an event

module _ (s : Fortuna) (q : Quotas) (source pool : ℕ) (content : List ℕ) where
  abbrev this : Entry
  this = taking q (event source pool content)

  -- accepted, it has passed 11, 12 and 13
  pub accepted-passed : entry_number s this ≡ 0 → EventPassed source pool (length content)
  unfolding entry_number input_number
  accepted-passed h = input-passed source pool (length content) (both-passed (event_input source pool (length content)) _ h).0

  -- its number is the one that refuses it
  pub event-number : (entry_step s this).number ≡ entry_number s this
  unfolding entry_step outcome call_found
  event-number = then-nothing (entry_number s this)

  -- it makes no reseed
  pub event-makes-none : ltb 0 (entry_step s this).effect.emptied ≡ false
  event-makes-none =
      by-test (ltb 0 (entry_step s this).effect.emptied) (ltb 0 (entry_step s this).effect.emptied ≡ false)
      (λ t. absurd (true≢false (sym ((reseed-told s this).0 (ltb-true 0 _ t)).1 ∙ (unfold requests in refl))))
      (λ t. t)

asked_twice : (a b : ℕ) → and_then a (and_then 0 (and_then a b)) ≡ and_then a b
unfolding and_then
asked_twice a b = by-test (eqb a 0) (and_then a (and_then 0 (and_then a b)) ≡ and_then a b) (λ t. rw t) (λ t. rw t)

-- without a list it is refused by what its pool holds in the model
pub bare-number :
    (calls : List Entry) (source pool : ℕ) (content : List ℕ) →
    entry_number (state_after calls) (taking without (event source pool content))
    ≡ event_number false (length (pool_contents (reference_after calls) pool)) source pool (length content)
unfolding reference_entry_number reference_number input_number by_records event_number
bare-number calls source pool content =
    same_number calls (taking without (event source pool content)) ∙ asked_twice (event_input source pool (length content)) _

-- ---- the reseeds made

pub reseeds-none : reseeds_after [] ≡ 0
unfolding reseeds_after run run_from pool_reseeds
reseeds-none = refl

reseeds-append :
    (os : List (Outcome Fortuna)) (o : Outcome Fortuna) → pool_reseeds (os ++ (o ∷ [])) ≡ pool_reseeds os + cond (ltb 0 o.effect.emptied) 1 0
unfolding pool_reseeds
reseeds-append [] o = omega arith
reseeds-append (p ∷ os) o = omega (arith, reseeds-append os o)

pub reseeds-more :
    (calls : List Entry) (c : Entry) →
    reseeds_after (calls ++ (c ∷ [])) ≡ reseeds_after calls + cond (ltb 0 (entry_step (state_after calls) c).effect.emptied) 1 0
unfolding reseeds_after
reseeds-more calls c = ap pool_reseeds ((run-correct calls).steps.more calls c) ∙ reseeds-append (run calls) (entry_step (state_after calls) c)

-- ---- no call, no event

pub no-events : (reference_after []).events ≡ []
unfolding reference_after state_from empty
no-events = refl
