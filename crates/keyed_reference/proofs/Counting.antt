-- What a run adds up to: C counts every Block step, every emptying and every seed; t the accepted events; and the requests on one key.
-- Assumes nothing.
use mathlib.Core.Path.{◌≡◌, refl, sym, ap, ap₂, ◌∙◌}
use mathlib.Core.Bool.{Bool, true, false, cond, not, ◌&&◌}
use mathlib.Core.List.{List, [], ◌∷◌, map}
use Prim.Native.Nat.{ℕ, zero, suc, ◌+◌, ◌^◌, ◌≤◌, ◌<◌, min}
use native.Mathlib.Omega.{arith}
use lib.Dec.{eqb, ltb, eqb-suc-zero}
use lib.ListN.{length, length-append}
use Rattle.laws.specs.Lists.{joined}
use Rattle.laws.specs.Blocks.{block_count}
use Rattle.generator.specs.Steps.{GeneratorState, initial, reseed}
use Rattle.generator.specs.Closed.{rekeyed, closed_random_data}
use Rattle.pools.specs.Schedule.{max_key_requests}
use Rattle.pools.specs.Refusals.{and_then, seed_size}
use Rattle.pools.specs.Effects.{Effect, unchanged}
use Rattle.pools.specs.Calls.{Outcome, effect_of, outcome, run_from, state_from}
use Rattle.reference.proofs.Counting.{counters-length}
use Rattle.keyed.specs.declared.Keyed.{Keyed}
use Rattle.keyed.specs.Scheduler.{empties}
use Rattle.keyed.specs.State.{counter_of}
use Rattle.keyed.specs.Refusals.{max_step}
use Rattle.keyed.specs.Calls.{Call, event, request, update, write, input_buffer}
use Rattle.keyed.specs.Entries.{Entry}
use Rattle.keyed_reference.specs.Runs.{run, tally, is_event, is_update}
use Rattle.keyed_reference.specs.Reference.{Reference, empty, reference_event, reference_request, reference_effect, reference_entry_number, reference_step, reference_run, reference_after}
use Rattle.keyed_reference.specs.Agreement.{concrete, concrete_outcome}
use Rattle.keyed_reference.specs.Schedule.{accepted_events, StepsMade}
use Rattle.keyed_reference.specs.Counters.{emptyings, seeds, Counted, since_emptying, OnOneKey}
use Rattle.keyed_reference.proofs.Concrete.{counter-concrete}
use Rattle.keyed_reference.proofs.Agreement.{agrees, sound-after, same-steps}
use Rattle.keyed_reference.proofs.Counters.{blocks-are}

-- ---- sums over a run

module _ {S : Type 0} where
  tally-sum : (f g h : Entry → Outcome S → ℕ) → ((c : Entry) (o : Outcome S) → f c o ≡ g c o + h c o)
      → (calls : List Entry) (os : List (Outcome S)) → tally f calls os ≡ tally g calls os + tally h calls os
  unfolding tally
  tally-sum f g h e [] os = omega arith
  tally-sum f g h e (c ∷ calls) [] = omega arith
  tally-sum f g h e (c ∷ calls) (o ∷ os) = omega (arith, e c o, tally-sum f g h e calls os)

  module _ (step : ℕ → S → Entry → Outcome S) where
    -- what each call adds, all calls add
    run-tally : (count : S → ℕ) (f : Entry → Outcome S → ℕ)
        → ((place : ℕ) (s : S) (c : Entry) → count (step place s c).effect.next ≡ count s + f c (step place s c))
        → (calls : List Entry) (place : ℕ) (s : S) → count (state_from step place s calls) ≡ count s + tally f calls (run_from step place s calls)
    unfolding tally run_from state_from
    run-tally count f e [] place s = omega arith
    run-tally count f e (c ∷ calls) place s = omega (arith, e place s c, run-tally count f e calls (suc place) (step place s c).effect.next)

    trace-tally : (calls : List Entry) (place : ℕ) (s : S)
        → length (joined (λ (o : Outcome S). o.effect.trace) (run_from step place s calls))
        ≡ tally (λ c o. length o.effect.trace) calls (run_from step place s calls)
    unfolding tally run_from joined
    trace-tally [] place s = refl
    trace-tally (c ∷ calls) place s =
        let first = (step place s c).effect in
        rw (length-append first.trace (joined (λ (o : Outcome S). o.effect.trace) (run_from step (suc place) first.next calls)))
        (ap (λ (n : ℕ). length first.trace + n) (trace-tally calls (suc place) first.next))

  -- a call, refused or not: what the effect itself tells, and 1 where the call is one that counts and was accepted
  outcome-adds : (count : S → ℕ) (told : Effect S → ℕ) (u : Bool) (n : ℕ) (buffer : List ℕ) (s : S) (done : Effect S)
      → told (unchanged buffer s) ≡ 0 → count done.next ≡ count s + (told done + cond u 1 0)
      → let o = outcome n true 0 buffer s done in
      count o.effect.next ≡ count s + (told o.effect + cond (u && eqb o.number 0) 1 0)
  unfolding outcome effect_of and_then
  outcome-adds count told true zero buffer s done z e = e
  outcome-adds count told false zero buffer s done z e = e
  outcome-adds count told u (suc n) buffer s done z e = rw (eqb-suc-zero n, eqb-suc-zero n) (go u)
    where
      go : (t : Bool) → count (unchanged buffer s).next ≡ count s + (told (unchanged buffer s) + cond (t && false) 1 0)
      go true = rw z (unfold unchanged in omega arith)
      go false = rw z (unfold unchanged in omega arith)

-- ---- one call of the model

module _ (key : List ℕ) where
  -- what an effect itself adds to C: its blocks, and the pools emptied
  abbrev told : Effect Reference → ℕ
  told e = length e.trace + e.emptied

  idle-tells : (buffer : List ℕ) (b : Reference) → told (unchanged buffer b) ≡ 0
  unfolding unchanged
  idle-tells buffer b = refl

  event-adds : (place : ℕ) (b : Reference) (bytes : List ℕ) →
      (reference_event key place b bytes).next.generator.count ≡ b.generator.count + (told (reference_event key place b bytes) + 0)
  unfolding reference_event
  event-adds place b bytes = go (empties b.steps) _
    where
      go : (t : Bool) (d : List ℕ) →
          (cond t (reseed b.generator d) b.generator).count ≡ b.generator.count + (0 + cond t 1 0 + 0)
      go true d = unfold reseed in omega arith
      go false d = omega arith

  request-adds : (b : Reference) (w : GeneratorState) (n : ℕ) →
      (reference_request b w n).next.generator.count ≡ w.count + told (reference_request b w n)
  unfolding reference_request closed_random_data rekeyed
  request-adds b w n = omega (arith, counters-length w.count (block_count n + 2))

  effect-adds : (place : ℕ) (b : Reference) (c : Call) →
      (reference_effect key place b c).next.generator.count ≡ b.generator.count + (told (reference_effect key place b c) + cond (is_update c) 1 0)
  unfolding reference_effect is_update
  effect-adds place b (event source content) = event-adds place b _
  effect-adds place b (request buffer) = omega (arith, request-adds b b.generator (length buffer))
  effect-adds place b (update seed) = unfold reseed in omega (arith, request-adds b (reseed b.generator seed) seed_size)
  effect-adds place b (write seed) = omega (arith, request-adds b b.generator seed_size)

  effect-steps : (place : ℕ) (b : Reference) (c : Call) → (reference_effect key place b c).next.steps ≡ b.steps + (0 + cond (is_event c) 1 0)
  unfolding reference_effect reference_event reference_request is_event
  effect-steps place b (event source content) = omega arith
  effect-steps place b (request buffer) = omega arith
  effect-steps place b (update seed) = omega arith
  effect-steps place b (write seed) = omega arith

  step-adds : (place : ℕ) (b : Reference) (e : Entry) → let o = reference_step key place b e in
      o.effect.next.generator.count ≡ b.generator.count + (told o.effect + cond (is_update e.call && eqb o.number 0) 1 0)
  unfolding reference_step
  step-adds place b e =
      outcome-adds (λ (x : Reference). x.generator.count) told (is_update e.call) (reference_entry_number key b e) (input_buffer e.call) b
      (reference_effect key place b e.call) (idle-tells (input_buffer e.call) b) (effect-adds place b e.call)

  step-steps : (place : ℕ) (b : Reference) (e : Entry) → let o = reference_step key place b e in
      o.effect.next.steps ≡ b.steps + cond (is_event e.call && eqb o.number 0) 1 0
  unfolding reference_step
  step-steps place b e =
      outcome-adds (λ (x : Reference). x.steps) (λ _. 0) (is_event e.call) (reference_entry_number key b e) (input_buffer e.call) b
      (reference_effect key place b e.call) refl (effect-steps place b e.call)
      ∙ ap (λ (n : ℕ). b.steps + n) (omega arith)

  -- ---- a run of the model

  model-counts : (calls : List Entry) → let os = reference_run key calls in
      (reference_after key calls).generator.count
      ≡ length (joined (λ (o : Outcome Reference). o.effect.trace) os) + (emptyings calls os + seeds calls os)
  unfolding reference_after reference_run emptyings seeds empty initial
  model-counts calls =
      let os = run_from (reference_step key) 0 empty calls in
      let seeded : Entry → Outcome Reference → ℕ = λ c o. cond (is_update c.call && eqb o.number 0) 1 0 in
      omega (
        arith,
        run-tally (reference_step key) (λ (x : Reference). x.generator.count) (λ c o. told o.effect + seeded c o) step-adds calls 0 empty,
        tally-sum (λ c o. told o.effect + seeded c o) (λ c o. told o.effect) seeded (λ c o. refl) calls os,
        tally-sum (λ c o. told o.effect) (λ c o. length o.effect.trace) (λ c o. o.effect.emptied) (λ c o. refl) calls os,
        trace-tally (reference_step key) calls 0 empty,
      )

  model-steps : (calls : List Entry) → (reference_after key calls).steps ≡ accepted_events calls (reference_run key calls)
  unfolding reference_after reference_run accepted_events empty
  model-steps calls =
      omega (
        arith,
        run-tally (reference_step key) (λ (x : Reference). x.steps) (λ c o. cond (is_event c.call && eqb o.number 0) 1 0) step-steps calls 0 empty,
      )

  -- ---- the station's

  tally-concrete :
      (f : Entry → Outcome Keyed → ℕ) (g : Entry → Outcome Reference → ℕ) →
      ((c : Entry) (o : Outcome Reference) → f c (concrete_outcome key o) ≡ g c o) → (calls : List Entry) (os : List (Outcome Reference)) →
      tally f calls (map (concrete_outcome key) os) ≡ tally g calls os
  unfolding tally
  tally-concrete f g e [] os = refl
  tally-concrete f g e (c ∷ calls) [] = refl
  tally-concrete f g e (c ∷ calls) (o ∷ os) = ap₂ (λ (m n : ℕ). m + n) (e c o) (tally-concrete f g e calls os)

  module _ (calls : List Entry) where
    same-events : accepted_events calls (run key calls) ≡ accepted_events calls (reference_run key calls)
    unfolding accepted_events concrete_outcome
    same-events =
        ap (accepted_events calls) (agrees key calls).outcomes
        ∙ tally-concrete _ (λ c o. cond (is_event c.call && eqb o.number 0) 1 0) (λ c o. refl) calls (reference_run key calls)

    same-emptyings : emptyings calls (run key calls) ≡ emptyings calls (reference_run key calls)
    unfolding emptyings concrete_outcome
    same-emptyings =
        ap (emptyings calls) (agrees key calls).outcomes ∙ tally-concrete _ (λ c o. o.effect.emptied) (λ c o. refl) calls (reference_run key calls)

    same-seeds : seeds calls (run key calls) ≡ seeds calls (reference_run key calls)
    unfolding seeds concrete_outcome
    same-seeds =
        ap (seeds calls) (agrees key calls).outcomes
        ∙ tally-concrete _ (λ c o. cond (is_update c.call && eqb o.number 0) 1 0) (λ c o. refl) calls (reference_run key calls)

    pub counted : Counted key calls
    counted =
        ap counter_of (agrees key calls).state
        ∙ counter-concrete key (reference_after key calls) (sound-after key calls)
        ∙ model-counts calls
        ∙ sym (ap₂ (λ (l : List (List ℕ)) (n : ℕ). length l + n) (blocks-are key calls) (ap₂ (λ (m n : ℕ). m + n) same-emptyings same-seeds))

    below_end : {n : ℕ} → n ≤ max_step → n < 2 ^ 64
    unfolding max_step
    below_end h = omega arith

    pub steps-made : StepsMade key calls
    steps-made =
        record {
          counts = same-steps key calls ∙ model-steps calls ∙ sym same-events;
          within = rw (same-steps key calls) (below_end (sound-after key calls).left);
        }

  -- ---- the requests on one key

  -- the requests after a call, where n were made before it; is_one says whether it is an event
  abbrev since : ℕ → Bool → Outcome Reference → ℕ
  since n is_one o = cond (ltb 0 o.effect.emptied) 0 n + cond (not is_one && eqb o.number 0) 1 0

  accepted-requests :
      (place : ℕ) (b : Reference) (c : Call) → let e = reference_effect key place b c in
      e.next.key_requests ≡ cond (ltb 0 e.emptied) 0 b.key_requests + cond (not (is_event c)) 1 0
  unfolding reference_effect reference_event reference_request is_event
  accepted-requests place b (event source content) = go (empties b.steps)
    where
      go : (t : Bool) → cond t 0 b.key_requests ≡ cond (ltb 0 (cond t 1 0)) 0 b.key_requests + 0
      go true = refl
      go false = omega arith
  accepted-requests place b (request buffer) = refl
  accepted-requests place b (update seed) = refl
  accepted-requests place b (write seed) = refl

  outcome-requests :
      (is_one : Bool) (n : ℕ) (buffer : List ℕ) (b : Reference) (done : Effect Reference) →
      done.next.key_requests ≡ cond (ltb 0 done.emptied) 0 b.key_requests + cond (not is_one) 1 0 →
      let o = outcome n true 0 buffer b done in o.effect.next.key_requests ≡ since b.key_requests is_one o
  unfolding outcome effect_of and_then
  outcome-requests true zero buffer b done e = e
  outcome-requests false zero buffer b done e = e
  outcome-requests is_one (suc n) buffer b done e = rw (eqb-suc-zero n, eqb-suc-zero n) (go is_one)
    where
      go : (t : Bool) → (unchanged buffer b).next.key_requests
          ≡ cond (ltb 0 (unchanged buffer b).emptied) 0 b.key_requests + cond (not t && false) 1 0
      go true = unfold unchanged in omega arith
      go false = unfold unchanged in omega arith

  step-requests : (place : ℕ) (b : Reference) (e : Entry) → let o = reference_step key place b e in
      o.effect.next.key_requests ≡ since b.key_requests (is_event e.call) o
  unfolding reference_step
  step-requests place b e =
      outcome-requests (is_event e.call) (reference_entry_number key b e) (input_buffer e.call) b (reference_effect key place b e.call)
      (accepted-requests place b e.call)

  run-requests : (calls : List Entry) (place : ℕ) (b : Reference) →
      (state_from (reference_step key) place b calls).key_requests ≡ since_emptying b.key_requests calls (run_from (reference_step key) place b calls)
  unfolding state_from run_from since_emptying
  run-requests [] place b = refl
  run-requests (c ∷ calls) place b =
      let next = (reference_step key place b c).effect.next in
      run-requests calls (suc place) next
      ∙ ap (λ (n : ℕ). since_emptying n calls (run_from (reference_step key) (suc place) next calls)) (step-requests place b c)

  since-concrete : (n : ℕ) (calls : List Entry) (os : List (Outcome Reference)) →
      since_emptying n calls (map (concrete_outcome key) os) ≡ since_emptying n calls os
  unfolding since_emptying concrete_outcome
  since-concrete n [] os = refl
  since-concrete n (c ∷ calls) [] = refl
  since-concrete n (c ∷ calls) (o ∷ os) = since-concrete (since n (is_event c.call) o) calls os

  model-requests : (calls : List Entry) → (reference_after key calls).key_requests ≡ since_emptying 0 calls (reference_run key calls)
  unfolding reference_after reference_run empty
  model-requests calls = run-requests calls 0 empty

  pub on-one-key : (calls : List Entry) → OnOneKey key calls
  on-one-key calls =
      ap (λ (s : Keyed). s.key_requests) (agrees key calls).state
      ∙ (unfold concrete max_key_requests in ap (min 65535) (model-requests calls
      ∙ sym (ap (since_emptying 0 calls) (agrees key calls).outcomes ∙ since-concrete 0 calls (reference_run key calls))))
