-- No counter block is enciphered twice in a run: the values of C that are enciphered only rise, and none is above the largest.
-- Assumes nothing.
use mathlib.Core.Path.{◌≡◌, sym, ap, subst, ◌∙◌}
use mathlib.Core.List.{List}
use Prim.Native.Nat.{ℕ, ◌≤◌}
use native.Mathlib.Omega.{arith}
use lib.ListN.{length}
use Rattle.laws.specs.Lists.{joined}
use Rattle.laws.proofs.Lists.{joined-map}
use Rattle.generator.specs.Steps.{reseed}
use Rattle.generator.specs.Statements.{NoRepeat}
use Rattle.generator.proofs.Rising.{top, rising-from, rising-append, random-data-rises}
use Rattle.pools.specs.declared.Fortuna.{Fortuna}
use Rattle.pools.specs.Refusals.{seed_size}
use Rattle.pools.specs.Effects.{Effect}
use Rattle.pools.specs.Draws.{try_size, after, leaving}
use Rattle.pools.specs.Calls.{Call, event, request, update, write, draw, shuffle, input_buffer, Outcome, outcome}
use Rattle.pools.proofs.EachTry.{Kept, kept-tries, kept-shuffled}
use Rattle.pools.proofs.RisingRuns.{RisesTo, idle-rises, outcome-rises, run-no-repeat}
use Rattle.quotas.specs.Entries.{Entry}
use Rattle.reference.specs.Reference.{reference_try, Reference, empty, append_event, with_state, requested_state, reference_reseed_if_due, reference_request, reference_effect, reference_step, reference_run}
use Rattle.reference.specs.Agreement.{concrete_outcome}
use Rattle.reference.specs.Counters.{counter_blocks}
use Rattle.reference.proofs.Invariant.{Sound, sound_empty, count-reseed-if-due}
use Rattle.reference.proofs.Requests.{seeded}
use Rattle.reference.proofs.Agreement.{agrees, step-sound}

-- ---- the blocks of a call

abbrev counted : Reference → ℕ
counted b = b.generator.count

-- an effect's blocks, from lo on
abbrev Rises : ℕ → Effect Reference → Type 0
Rises lo x = RisesTo counted lo x

request-rises : (b : Reference) (t n lo : ℕ) → lo ≤ b.generator.count → Rises lo (reference_request b t n)
unfolding reference_request requested_state
request-rises b t n lo h = rising-from (omega (arith, count-reseed-if-due b t)) (random-data-rises (reference_reseed_if_due b t).generator n)

tries-rise : (clock : ℕ) → Kept (reference_try clock) (λ (b : Reference). Rises b.generator.count)
tries-rise clock = record {
  idle = λ b l. idle-rises counted l b;
  other = λ b e l r. unfold leaving in r;
  served = λ b. unfold reference_try in request-rises b clock try_size b.generator.count (omega arith);
  next = λ b e f r q. unfold after in rising-append r q;
}

effect-rises : (place : ℕ) (b : Reference) (c : Call) → Rises b.generator.count (reference_effect place b c)
unfolding reference_effect
effect-rises place b (event source pool content) = unfold append_event in top b.generator.count (omega arith)
effect-rises place b (request t buffer) = request-rises b t (length buffer) b.generator.count (omega arith)
effect-rises place b (update t seed) = request-rises (seeded b seed) t seed_size b.generator.count (unfold with_state reseed in omega arith)
effect-rises place b (write t seed) = request-rises b t seed_size b.generator.count (omega arith)
effect-rises place b (draw t n d) = kept-tries (reference_try t) _ (tries-rise t) n d b
effect-rises place b (shuffle t list) = kept-shuffled (reference_try t) _ (tries-rise t) list b

step-rises : (place : ℕ) (b : Reference) (c : Entry) → Rises b.generator.count (reference_step place b c).effect
unfolding reference_step outcome
step-rises place b c = outcome-rises counted _ (input_buffer c.call) b _ (effect-rises place b c.call)

-- ---- the station's are the model's

pub blocks-are : (calls : List Entry) → counter_blocks calls ≡ joined (λ (o : Outcome Reference). o.effect.trace) (reference_run calls)
unfolding counter_blocks concrete_outcome
blocks-are calls =
    ap (joined (λ (o : Outcome Fortuna). o.effect.trace)) (agrees calls).outcomes
    ∙ joined-map (λ (o : Outcome Fortuna). o.effect.trace) concrete_outcome (reference_run calls)

pub no-repeat : (calls : List Entry) → NoRepeat (counter_blocks calls)
no-repeat calls =
    subst (λ (l : List (List ℕ)). NoRepeat l) (sym (blocks-are calls))
    (unfold reference_run in
    run-no-repeat counted reference_step Sound (λ b s. s.held.counts) step-sound step-rises calls 0 empty sound_empty)
