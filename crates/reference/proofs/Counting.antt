-- C counts every Block step and every reseed of a run.
-- Assumes nothing.
use mathlib.Core.Path.{◌≡◌, refl, sym, ap, ap₂, ◌∙◌}
use mathlib.Core.Bool.{Bool, true, false, cond, ◌&&◌, true≢false}
use mathlib.Core.List.{List, [], ◌∷◌, map}
use Prim.Native.Nat.{ℕ, zero, suc, ◌+◌}
use native.Mathlib.Omega.{arith}
use lib.Dec.{eqb, eqb-suc-zero}
use lib.ListN.{length, length-append}
use Rattle.laws.specs.Lists.{joined}
use Rattle.laws.specs.Blocks.{block_count}
use Rattle.generator.specs.Counter.{counter_block}
use Rattle.generator.specs.Steps.{initial, reseed}
use Rattle.generator.specs.Closed.{counters, rekeyed, closed_random_data}
use Rattle.pools.specs.declared.Fortuna.{Fortuna}
use Rattle.pools.specs.State.{counter_of}
use Rattle.pools.specs.Refusals.{and_then, seed_size}
use Rattle.pools.specs.Effects.{Effect, unchanged}
use Rattle.pools.specs.Draws.{try_size, after, leaving}
use Rattle.pools.specs.Calls.{Call, event, request, update, write, draw, shuffle, input_buffer, Outcome, effect_of, outcome, run_from, state_from}
use Rattle.quotas.specs.Entries.{Entry}
use Rattle.pools.proofs.EachTry.{Kept, kept-tries, kept-shuffled}
use Rattle.reference.specs.Reference.{Reference, empty, append_event, with_state, requested_state, reference_reseed_if_due, reference_request, reference_try, reference_entry_number, reference_found, reference_effect, reference_step, reference_run, reference_after, due_at}
use Rattle.reference.specs.Agreement.{concrete_outcome}
use Rattle.reference.specs.Counters.{is_update, seeds_in, Counted}
use Rattle.reference.proofs.Invariant.{count-reseed-if-due}
use Rattle.reference.proofs.Moves.{request-moves}
use Rattle.reference.proofs.Requests.{seeded}
use Rattle.reference.proofs.Advances.{reseeds-after}
use Rattle.reference.proofs.Agreement.{agrees, sound-after}
use Rattle.reference.proofs.Counters.{blocks-are}
use Rattle.reference.proofs.Concrete.{counter-concrete}

pub counters-length : (c k : ℕ) → length (map counter_block (counters c k)) ≡ k
unfolding counters
counters-length c zero = refl
counters-length c (suc k) = omega (arith, counters-length (c + 1) k)

-- what C grows by is the trace, what R grows by, and s, the seed of an update
Grows : ℕ → Reference → Effect Reference → Type 0
Grows s b e = e.next.generator.count + b.reseeds ≡ b.generator.count + length e.trace + e.next.reseeds + s

request-made :
    (b : Reference) (t n : ℕ) →
    (reference_request b t n).next.generator.count ≡ b.generator.count + cond (due_at b t) 1 0 + length (reference_request b t n).trace
unfolding reference_request requested_state closed_random_data rekeyed
request-made b t n = omega (arith, count-reseed-if-due b t, counters-length (reference_reseed_if_due b t).generator.count (block_count n + 2))

request-grows : (b : Reference) (t n : ℕ) → Grows 0 b (reference_request b t n)
unfolding Grows
request-grows b t n = omega (arith, request-made b t n, (request-moves b t n).reseeds)

tries-grow : (clock : ℕ) → Kept (reference_try clock) (Grows 0)
unfolding Grows
tries-grow clock = record {
  idle = λ b l. unfold unchanged in omega arith;
  other = λ b e l r. unfold leaving in r;
  served = λ b. unfold reference_try in (unfold Grows in request-grows b clock try_size);
  next = λ b e f r q. unfold after in omega (arith, length-append e.trace f.trace, r, q);
}

update-grows : (b : Reference) (t : ℕ) (seed : List ℕ) → Grows 1 b (reference_request (seeded b seed) t seed_size)
unfolding Grows with_state reseed
update-grows b t seed = omega (arith, request-grows (seeded b seed) t seed_size)

-- the seed of an update
seed_of : Call → ℕ
seed_of c = cond (is_update c) 1 0

effect-grows : (place : ℕ) (b : Reference) (c : Call) → Grows (seed_of c) b (reference_effect place b c)
unfolding reference_effect seed_of is_update
effect-grows place b (event source pool content) = unfold Grows append_event in omega arith
effect-grows place b (request t buffer) = request-grows b t (length buffer)
effect-grows place b (update t seed) = update-grows b t seed
effect-grows place b (write t seed) = request-grows b t seed_size
effect-grows place b (draw t n d) = kept-tries (reference_try t) (Grows 0) (tries-grow t) n d b
effect-grows place b (shuffle t list) = kept-shuffled (reference_try t) (Grows 0) (tries-grow t) list b

-- ---- a call, refused or not

-- a refused call does nothing, and an update that is not refused answers 0
call-grows : (n : ℕ) (u found : Bool) (buffer : List ℕ) (b : Reference) (x : Effect Reference) → (u ≡ true → found ≡ true) → Grows (cond u 1 0) b x
    → Grows (cond (u && eqb (and_then n (cond found 0 33)) 0) 1 0) b (effect_of n buffer b x)
unfolding effect_of and_then
call-grows zero true true buffer b x h g = g
call-grows zero true false buffer b x h g = absurd (true≢false (sym (h refl)))
call-grows zero false found buffer b x h g = g
call-grows (suc n) u found buffer b x h g = rw (eqb-suc-zero n, eqb-suc-zero n) (go u)
  where
    go : (u : Bool) → Grows (cond (u && false) 1 0) b (unchanged buffer b)
    go true = unfold Grows unchanged in omega arith
    go false = unfold Grows unchanged in omega arith

update_found : (b : Reference) (c : Call) → is_update c ≡ true → reference_found b c ≡ true
unfolding is_update reference_found
update_found b (event source pool content) h = refl
update_found b (request t buffer) h = refl
update_found b (update t seed) h = refl
update_found b (write t seed) h = refl
update_found b (draw t n d) h = absurd (true≢false (sym h))
update_found b (shuffle t list) h = absurd (true≢false (sym h))

step-grows :
    (place : ℕ) (b : Reference) (e : Entry) →
    Grows (cond (is_update e.call && eqb (reference_step place b e).number 0) 1 0) b (reference_step place b e).effect
unfolding reference_step outcome
step-grows place b e =
    let c = e.call in
    call-grows (reference_entry_number b e) (is_update c) (reference_found b c) (input_buffer c) b (reference_effect place b c) (update_found b c)
    (unfold seed_of in effect-grows place b c)

step-grown : (place : ℕ) (b : Reference) (e : Entry)
    → (reference_step place b e).effect.next.generator.count + b.reseeds
    ≡ b.generator.count + length (reference_step place b e).effect.trace + (reference_step place b e).effect.next.reseeds
    + cond (is_update e.call && eqb (reference_step place b e).number 0) 1 0
step-grown place b e = unfold Grows in step-grows place b e

-- ---- a run

-- the model's trace
abbrev trace_of : List (Outcome Reference) → List (List ℕ)
trace_of os = joined (λ (o : Outcome Reference). o.effect.trace) os

run-counts : (calls : List Entry) (place : ℕ) (b : Reference)
    → (state_from reference_step place b calls).generator.count + b.reseeds
    ≡ b.generator.count + length (trace_of (run_from reference_step place b calls)) + (state_from reference_step place b calls).reseeds
    + seeds_in calls (run_from reference_step place b calls)
unfolding run_from state_from joined seeds_in
run-counts [] place b = omega arith
run-counts (c ∷ calls) place b =
    let first = step-grown place b c in
    let next = (reference_step place b c).effect.next in
    let more = run-counts calls (suc place) next in
    omega (arith, first, more, length-append (reference_step place b c).effect.trace (trace_of (run_from reference_step (suc place) next calls)))

-- ---- the station's

seeds-concrete : (calls : List Entry) (os : List (Outcome Reference)) → seeds_in calls (map concrete_outcome os) ≡ seeds_in calls os
unfolding seeds_in concrete_outcome
seeds-concrete [] os = refl
seeds-concrete (c ∷ calls) [] = refl
seeds-concrete (c ∷ calls) (o ∷ os) = ap (λ (n : ℕ). cond (is_update c.call && eqb o.number 0) 1 0 + n) (seeds-concrete calls os)

model-counts : (calls : List Entry) → (reference_after calls).generator.count
    ≡ length (trace_of (reference_run calls)) + ((reference_after calls).reseeds + seeds_in calls (reference_run calls))
unfolding reference_after reference_run empty initial
model-counts calls = omega (arith, run-counts calls 0 empty)

pub counted : (calls : List Entry) → Counted calls
unfolding counter_of
counted calls =
    ap (λ (s : Fortuna). counter_of s) (agrees calls).state
    ∙ counter-concrete (reference_after calls) (sound-after calls)
    ∙ model-counts calls
    ∙ sym (ap₂ (λ (l : List (List ℕ)) (n : ℕ). length l + n) (blocks-are calls)
    (ap₂ (λ (m n : ℕ). m + n) (reseeds-after calls (agrees calls).outcomes)
    (ap (seeds_in calls) (agrees calls).outcomes ∙ seeds-concrete calls (reference_run calls))))
