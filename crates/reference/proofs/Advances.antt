-- What a call does to R, to the mark and to the events of the reference model: an accepted event is appended, any other accepted call
-- moves the timer at its reading where a pool reseed is due.
-- Assumes nothing.
use mathlib.Core.Path.{◌≡◌, refl, ap, ◌∙◌}
use mathlib.Core.Bool.{Bool, false, cond, ◌&&◌}
use mathlib.Core.List.{List, [], ◌∷◌, map}
use Prim.Native.Nat.{ℕ, zero, suc, ◌+◌}
use native.Mathlib.Omega.{arith}
use lib.Dec.{ltb, eqb-suc-zero}
use lib.ListN.{length}
use borrow.Author.Tests.{ltb-true, ltb-false, lt-ltb}
use Rattle.laws.proofs.Cases.{by-test}
use Rattle.pools.specs.Events.{event_bytes}
use Rattle.pools.specs.Effects.{Effect, unchanged}
use Rattle.pools.specs.Draws.{tries, shuffled}
use Rattle.pools.specs.Calls.{Call, event, request, update, write, draw, shuffle, reading_of, effect_of, outcome, run_from, state_from}
use Rattle.quotas.specs.Entries.{Entry}
use Rattle.reference.specs.Runs.{run}
use Rattle.pools.proofs.EachTry.{idle-shuffle, draw-empties, shuffle-empties}
use Rattle.reference.specs.Reference.{Reference, empty, due_at, append_event, reference_count, reference_request, reference_try, reference_effect, reference_step, reference_run, reference_after}
use Rattle.reference.specs.Agreement.{concrete_outcome}
use Rattle.reference.specs.Timer.{requests, pool_reseeds, reseeds_after}
use Rattle.reference.specs.Provenance.{puts_into}
use Rattle.reference.proofs.Schedule.{emptied-told}
use Rattle.reference.proofs.Invariant.{count-is}
use Rattle.reference.proofs.Moves.{Moved, reseed-moves, request-moves, state-due, state-moves, draw-first, shuffle-first}

-- ---- an accepted call

-- the model finds a pool reseed due for it
unfoldable pub due_call : Reference → Call → Bool
due_call b c = requests c && due_at b (reading_of c)

pub data Shape (place : ℕ) (b : Reference) (c : Call) (x : Reference) : Type 0 where
  appended :
      (source pool : ℕ) (content : List ℕ) → c ≡ event source pool content →
      x ≡ append_event place b pool (event_bytes source content) → Shape place b c x
  moved : ((i : ℕ) → puts_into place c i ≡ []) → Moved b (due_call b c) (reading_of c) x → Shape place b c x

-- a draw without tries and a shuffle of fewer than 2 numbers leave the model as it is
draw-moves : (clock n d : ℕ) (b : Reference) → Moved b (ltb 0 d && due_at b clock) clock (tries (reference_try clock) n d b).effect.next
draw-moves clock n zero b = unfold tries unchanged in reseed-moves b clock false
draw-moves clock n (suc d) b = rw (lt-ltb 0 (suc d) (omega arith)) (draw-first clock n d b).0

shuffle-moves : (clock : ℕ) (list : List ℕ) (b : Reference)
    → Moved b (ltb 1 (length list) && due_at b clock) clock (shuffled (reference_try clock) list b).effect.next
shuffle-moves clock list b =
    by-test (ltb 1 (length list)) _
    (λ t. rw t (shuffle-first clock list b (ltb-true 1 (length list) t)).0)
    (λ t. rw (t, idle-shuffle (reference_try clock) list b (ltb-false 1 (length list) t)) (unfold unchanged in reseed-moves b clock false))

pub effect-shape : (place : ℕ) (b : Reference) (c : Call) → Shape place b c (reference_effect place b c).next
unfolding reference_effect due_call requests reading_of puts_into
effect-shape place b (event source pool content) = appended source pool content refl refl
effect-shape place b (request clock buffer) = moved (λ i. refl) (request-moves b clock (length buffer))
effect-shape place b (update clock seed) = moved (λ i. refl) (state-moves b _ clock _)
effect-shape place b (write clock seed) = moved (λ i. refl) (request-moves b clock _)
effect-shape place b (draw clock n d) = moved (λ i. refl) (draw-moves clock n d b)
effect-shape place b (shuffle clock list) = moved (λ i. refl) (shuffle-moves clock list b)

-- ---- the count of pools emptied tells whether a pool reseed was made

count-due : (clock : ℕ) (b : Reference) → ltb 0 (reference_count b clock) ≡ due_at b clock
count-due clock b = rw (count-is b clock) (emptied-told (b.reseeds + 1) (due_at b clock))

effect-emptied : (place : ℕ) (b : Reference) (c : Call) → ltb 0 (reference_effect place b c).emptied ≡ due_call b c
unfolding reference_effect due_call requests reading_of reference_request
effect-emptied place b (event source pool content) = refl
effect-emptied place b (request clock buffer) = count-due clock b
effect-emptied place b (update clock seed) = count-due clock _ ∙ state-due b _ clock
effect-emptied place b (write clock seed) = count-due clock b
effect-emptied place b (draw clock n d) =
    draw-empties (reference_try clock) (λ x. reference_count x clock) (λ x. due_at x clock) (count-due clock) (λ n d x. (draw-first clock n d x).1) n d b
effect-emptied place b (shuffle clock list) =
    shuffle-empties (reference_try clock) (λ x. reference_count x clock) (λ x. due_at x clock) (count-due clock)
    (λ l x h. (shuffle-first clock l x h).1) list b

shape-reseeds : (place : ℕ) (b : Reference) (c : Call) (x : Reference) → Shape place b c x → x.reseeds ≡ b.reseeds + cond (due_call b c) 1 0
shape-reseeds place b c x (appended source pool content q e) = rw (q, e) (unfold due_call requests append_event in omega arith)
shape-reseeds place b c x (moved p m) = m.reseeds

effect-reseeds : (place : ℕ) (b : Reference) (c : Call) → (reference_effect place b c).next.reseeds ≡ b.reseeds + cond (due_call b c) 1 0
effect-reseeds place b c = shape-reseeds place b c _ (effect-shape place b c)

-- ---- refused or not

outcome-reseeds :
    (n : ℕ) (buffer : List ℕ) (b : Reference) (done : Effect Reference) →
    done.next.reseeds ≡ b.reseeds + cond (ltb 0 done.emptied) 1 0 →
    (effect_of n buffer b done).next.reseeds ≡ b.reseeds + cond (ltb 0 (effect_of n buffer b done).emptied) 1 0
unfolding effect_of unchanged
outcome-reseeds zero buffer b done h = h
outcome-reseeds (suc n) buffer b done h = rw (eqb-suc-zero n) (omega arith)

-- R grows by 1 exactly at the calls that empty a pool
pub step-reseeds :
    (place : ℕ) (b : Reference) (c : Entry) →
    (reference_step place b c).effect.next.reseeds ≡ b.reseeds + cond (ltb 0 (reference_step place b c).effect.emptied) 1 0
unfolding reference_step outcome
step-reseeds place b c = outcome-reseeds _ _ b _ (rw (effect-emptied place b c.call) (effect-reseeds place b c.call))

-- ---- R is the number of calls that emptied a pool

run-reseeds :
    (calls : List Entry) (place : ℕ) (b : Reference) →
    b.reseeds + pool_reseeds (map concrete_outcome (run_from reference_step place b calls)) ≡ (state_from reference_step place b calls).reseeds
unfolding run_from state_from pool_reseeds concrete_outcome
run-reseeds [] place b = omega arith
run-reseeds (c ∷ calls) place b =
    omega (arith, step-reseeds place b c, run-reseeds calls (suc place) (reference_step place b c).effect.next)

pub reseeds-after :
    (calls : List Entry) → run calls ≡ map concrete_outcome (reference_run calls) → reseeds_after calls ≡ (reference_after calls).reseeds
unfolding reseeds_after reference_run reference_after empty
reseeds-after calls e = ap pool_reseeds e ∙ omega (arith, run-reseeds calls 0 empty)
