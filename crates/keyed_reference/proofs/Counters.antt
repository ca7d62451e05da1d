-- The counter blocks of a run rise, so none is enciphered twice.
-- Assumes nothing.
use mathlib.Core.Path.{◌≡◌, sym, ap, subst, ◌∙◌}
use mathlib.Core.Bool.{Bool, true, false, cond}
use mathlib.Core.List.{List}
use Prim.Native.Nat.{ℕ, ◌≤◌}
use native.Mathlib.Omega.{arith}
use lib.ListN.{length}
use Rattle.laws.specs.Lists.{joined}
use Rattle.laws.proofs.Lists.{joined-map}
use Rattle.generator.specs.Steps.{GeneratorState, reseed}
use Rattle.generator.specs.Statements.{NoRepeat}
use Rattle.generator.proofs.Rising.{top, rising-from, random-data-rises}
use Rattle.pools.specs.Refusals.{seed_size}
use Rattle.pools.specs.Calls.{Outcome, outcome}
use Rattle.pools.proofs.RisingRuns.{RisesTo, outcome-rises, run-no-repeat}
use Rattle.keyed.specs.declared.Keyed.{Keyed}
use Rattle.keyed.specs.Scheduler.{empties}
use Rattle.keyed.specs.Calls.{Call, event, request, update, write, input_buffer}
use Rattle.keyed.specs.Entries.{Entry}
use Rattle.keyed_reference.specs.Reference.{Reference, empty, reference_event, reference_request, reference_effect, reference_step, reference_run}
use Rattle.keyed_reference.specs.Agreement.{concrete_outcome}
use Rattle.keyed_reference.specs.Counters.{counter_blocks}
use Rattle.keyed_reference.proofs.Invariant.{Sound, sound_empty}
use Rattle.keyed_reference.proofs.Agreement.{step-sound, agrees}

abbrev counted : Reference → ℕ
counted b = b.generator.count

request-rises :
    (b : Reference) (w : GeneratorState) (n : ℕ) → b.generator.count ≤ w.count →
    RisesTo counted b.generator.count (reference_request b w n)
unfolding reference_request
request-rises b w n h = rising-from h (random-data-rises w n)

module _ (key : List ℕ) where
  -- an event enciphers no block of C
  event-rises : (place : ℕ) (b : Reference) (bytes : List ℕ) → RisesTo counted b.generator.count (reference_event key place b bytes)
  unfolding reference_event
  event-rises place b bytes = top b.generator.count (grown (empties b.steps) _)
    where
      grown : (t : Bool) (d : List ℕ) → b.generator.count ≤ (cond t (reseed b.generator d) b.generator).count
      grown true d = unfold reseed in omega arith
      grown false d = omega arith

  effect-rises : (place : ℕ) (b : Reference) (c : Call) → RisesTo counted b.generator.count (reference_effect key place b c)
  unfolding reference_effect
  effect-rises place b (event source content) = event-rises place b _
  effect-rises place b (request buffer) = request-rises b b.generator (length buffer) (omega arith)
  effect-rises place b (update seed) = request-rises b (reseed b.generator seed) seed_size (unfold reseed in omega arith)
  effect-rises place b (write seed) = request-rises b b.generator seed_size (omega arith)

  step-rises : (place : ℕ) (b : Reference) (c : Entry) → RisesTo counted b.generator.count (reference_step key place b c).effect
  unfolding reference_step outcome
  step-rises place b c = outcome-rises counted _ (input_buffer c.call) b _ (effect-rises place b c.call)

  -- ---- the station's are the model's

  pub blocks-are : (calls : List Entry) → counter_blocks key calls ≡ joined (λ (o : Outcome Reference). o.effect.trace) (reference_run key calls)
  unfolding counter_blocks concrete_outcome
  blocks-are calls =
      ap (joined (λ (o : Outcome Keyed). o.effect.trace)) (agrees key calls).outcomes
      ∙ joined-map (λ (o : Outcome Keyed). o.effect.trace) (concrete_outcome key) (reference_run key calls)

  pub no-repeat : (calls : List Entry) → NoRepeat (counter_blocks key calls)
  no-repeat calls =
      subst (λ (l : List (List ℕ)). NoRepeat l) (sym (blocks-are calls))
      (unfold reference_run in
      run-no-repeat counted (reference_step key) Sound (λ b s. s.held.counts) (step-sound key) step-rises calls 0 empty sound_empty)
