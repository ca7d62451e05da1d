-- In every run the station's outcomes and states are those that the reference model says, and a run is its calls' steps.
-- Assumes nothing.
use mathlib.Core.Path.{◌≡◌, refl, sym, ap, ap₂, ◌∙◌}
use mathlib.Core.Bool.{Bool, false}
use mathlib.Core.List.{List, [], map}
use Prim.Native.Nat.{ℕ, ◌-◌, ◌*◌, ◌<◌}
use native.Mathlib.Omega.{arith}
use lib.Dec.{ltb}
use lib.ListN.{length}
use borrow.Author.Tests.{ltb-true, ltb-false}
use Rattle.laws.proofs.Cases.{by-test}
use Rattle.laws.proofs.Lists.{replicate-tabulate}
use Rattle.hash.specs.ShaD.{empty_pool, pool_of}
use Rattle.hash.proofs.Laws.{pool-empty}
use Rattle.generator.specs.Steps.{initial, encode}
use Rattle.generator.specs.Operations as Operations
use Rattle.pools.specs.declared.Fortuna.{Fortuna}
use Rattle.pools.specs.Events.{pool_count, event_bytes}
use Rattle.pools.specs.Schedule.{max_key_requests}
use Rattle.pools.specs.State.{fresh, counter_of, malformed, due}
use Rattle.pools.specs.Refusals.{and_then, seed_size, max_tries, request_number, update_number, write_number, draw_number, shuffle_number}
use Rattle.pools.specs.Effects.{unchanged, write_seed}
use Rattle.pools.specs.Draws.{Drawn, tries, shuffled, try_at}
use Rattle.pools.specs.Calls.{Call, event, request, update, write, draw, shuffle, input_buffer, input_number, call_number, call_effect, call_found, call_value, Outcome, outcome, run_from, state_from}
use Rattle.pools.proofs.Chains.{both-passed}
use Rattle.pools.proofs.Runs.{outcome-keeps, outcome-agrees, state-keeps, run-agrees, state-agrees, run_more, state-more}
use Rattle.quotas.specs.Entries.{Entry, entry_number, entry_step, left_with}
use Rattle.quotas.proofs.Entries.{entry-number}
use Rattle.reference.specs.Runs.{run, state_after, lists_left}
use Rattle.reference.specs.ReferenceLists.{by_records, record_after, list_after, lists_after}
use Rattle.reference.proofs.ListReadings.{by-records, lists-left, lists-mapped}
use Rattle.reference.specs.Reference.{Reference, empty, pool_contents, due_at, reference_try, reference_number, reference_entry_number, reference_effect, reference_found, reference_value, reference_step, reference_run, reference_after}
use Rattle.reference.specs.Agreement.{concrete, concrete_outcome, RunIsSteps, Agrees}
use Rattle.reference.proofs.Invariant.{Sound, sound_empty, sound-event, empty-contents}
use Rattle.reference.proofs.Concrete.{size-concrete, counter-concrete, due-concrete, malformed-concrete}
use Rattle.pools.proofs.Acceptance.{not-spent, event-passed, event-room, event-size, request-room, write-room, update-room, draw-passed, shuffle-passed}
use Rattle.pools.proofs.Gains.{length-event}
use Rattle.pools.proofs.EachTry.{idle-shuffle}
use Rattle.reference.proofs.Simulation.{concrete_effect, add-event-concrete}
use Rattle.reference.proofs.Requests.{request-agrees, request-sound, update_agrees, update-sound}
use Rattle.reference.proofs.Carried.{carried}
use Rattle.reference.proofs.Draws.{concrete_drawn, Ready, tries-agree, shuffle-agrees}

-- ---- each call: the number, and the effect if it is accepted

module _ (b : Reference) (s : Sound b) where
  by-reading : {A : Type 0} (number : Bool → ℕ → Bool → A → ℕ) (t : ℕ) (x : A)
      → number (malformed (concrete b)) (counter_of (concrete b)) (due (concrete b) t) x ≡ number false b.generator.count (due_at b t) x
  by-reading number t x = rw (malformed-concrete b s, counter-concrete b s, due-concrete b t)

  pub number-agrees : (c : Call) → call_number (concrete b) c ≡ reference_number b c
  unfolding call_number reference_number update_number write_number
  number-agrees (event source pool content) = rw (malformed-concrete b s) (event-size false _ _ source pool (length content) (size-concrete b pool))
  number-agrees (request t buffer) = by-reading request_number t (length buffer)
  number-agrees (update t seed) = by-reading update_number t seed
  number-agrees (write t seed) = by-reading write_number t seed
  number-agrees (draw t n d) = by-reading (λ m c due x. draw_number m c due n x) t d
  number-agrees (shuffle t list) = by-reading shuffle_number t list

  -- an accepted draw has room for its tries, and an accepted shuffle for those of all its draws
  draw-ready : (t n d : ℕ) → reference_number b (draw t n d) ≡ 0 → Ready t b d
  unfolding reference_number
  draw-ready t n d e = record { sound = s; room = not-spent _ _ (3 * d) (draw-passed false _ _ n d e).room }

  shuffle-ready : (t : ℕ) (list : List ℕ) → reference_number b (shuffle t list) ≡ 0 → 1 < length list → Ready t b (max_tries * (length list - 1))
  unfolding reference_number max_tries
  shuffle-ready t list e h =
      let room = not-spent _ _ (192 * (length list - 1)) (shuffle-passed false _ _ list e h).room in
      record { sound = s; room = omega (arith, room) }

  -- what its draws come to; a call that makes none finds no value missing
  drawn-agree : (t n d : ℕ) → reference_number b (draw t n d) ≡ 0 → tries (try_at t) n d (concrete b) ≡ concrete_drawn (tries (reference_try t) n d b)
  drawn-agree t n d e = (tries-agree t n d b (draw-ready t n d e)).0

  drawn-sound : (t n d : ℕ) → reference_number b (draw t n d) ≡ 0 → Sound (tries (reference_try t) n d b).effect.next
  drawn-sound t n d e = (tries-agree t n d b (draw-ready t n d e)).1

  shuffled-agree : (t : ℕ) (list : List ℕ) → reference_number b (shuffle t list) ≡ 0
      → (shuffled (try_at t) list (concrete b) ≡ concrete_drawn (shuffled (reference_try t) list b)) × Sound (shuffled (reference_try t) list b).effect.next
  shuffled-agree t list e =
      by-test (ltb 1 (length list)) _
      (λ h. shuffle-agrees t list b (shuffle-ready t list e (ltb-true 1 (length list) h)))
      (λ h.
      let few = ltb-false 1 (length list) h in
      rw (idle-shuffle (try_at t) list (concrete b) few, idle-shuffle (reference_try t) list b few) (unfold carried concrete_effect unchanged in (refl, s)))

  pub found-agrees : (c : Call) → reference_number b c ≡ 0 → call_found (concrete b) c ≡ reference_found b c
  unfolding call_found reference_found carried
  found-agrees (event source pool content) e = refl
  found-agrees (request t buffer) e = refl
  found-agrees (update t seed) e = refl
  found-agrees (write t seed) e = refl
  found-agrees (draw t n d) e = ap (λ (o : Drawn Fortuna). o.found) (drawn-agree t n d e)
  found-agrees (shuffle t list) e = ap (λ (o : Drawn Fortuna). o.found) (shuffled-agree t list e).0

  pub value-agrees : (c : Call) → reference_number b c ≡ 0 → call_value (concrete b) c ≡ reference_value b c
  unfolding call_value reference_value carried
  value-agrees (event source pool content) e = refl
  value-agrees (request t buffer) e = refl
  value-agrees (update t seed) e = refl
  value-agrees (write t seed) e = refl
  value-agrees (draw t n d) e = ap (λ (o : Drawn Fortuna). o.value) (drawn-agree t n d e)
  value-agrees (shuffle t list) e = refl

  pub effect-agrees : (place : ℕ) (c : Call) → reference_number b c ≡ 0 → call_effect (concrete b) c ≡ concrete_effect (reference_effect place b c)
  unfolding reference_number update_number write_number call_effect reference_effect
  effect-agrees place (event source pool content) e =
      unfold concrete_effect in
      λ i. record {
        emptied = 0;
        buffer = [];
        next = add-event-concrete place b pool (event_bytes source content) (event-passed false _ source pool (length content) e).place i;
        trace = [];
      }
  effect-agrees place (request t buffer) e = request-agrees b t (length buffer) s (request-room false b.generator.count (due_at b t) (length buffer) e)
  effect-agrees place (update t seed) e = update_agrees b seed t s (update-room false b.generator.count (due_at b t) seed e)
  effect-agrees place (write t seed) e = unfold write_seed in request-agrees b t seed_size s (write-room false b.generator.count (due_at b t) seed e)
  effect-agrees place (draw t n d) e = unfold carried in ap (λ (o : Drawn Fortuna). o.effect) (drawn-agree t n d e)
  effect-agrees place (shuffle t list) e = unfold carried in ap (λ (o : Drawn Fortuna). o.effect) (shuffled-agree t list e).0

  pub effect-sound : (place : ℕ) (c : Call) → reference_number b c ≡ 0 → Sound (reference_effect place b c).next
  unfolding reference_number update_number write_number reference_effect
  effect-sound place (event source pool content) e =
      sound-event place b pool (event_bytes source content) (rw (length-event source content) (event-room false _ source pool (length content) e)) s
  effect-sound place (request t buffer) e = request-sound b t (length buffer) s (request-room false b.generator.count (due_at b t) (length buffer) e)
  effect-sound place (update t seed) e = update-sound b seed t s (update-room false b.generator.count (due_at b t) seed e)
  effect-sound place (write t seed) e = request-sound b t seed_size s (write-room false b.generator.count (due_at b t) seed e)
  effect-sound place (draw t n d) e = drawn-sound t n d e
  effect-sound place (shuffle t list) e = (shuffled-agree t list e).1

-- ---- a step

-- with the list that a call takes, or without one
pub entry-agrees : (b : Reference) → Sound b → (e : Entry) → entry_number (concrete b) e ≡ reference_entry_number b e
unfolding reference_entry_number
entry-agrees b s e =
    let c = e.call in
    entry-number (concrete b) e
    ∙ ap₂ (λ (l n : ℕ). and_then (input_number c) (and_then l n)) (sym (by-records e.quotas c)) (number-agrees b s c)

-- an accepted call is accepted by its own numbers too
pub own-accepted : (b : Reference) (e : Entry) → reference_entry_number b e ≡ 0 → reference_number b e.call ≡ 0
unfolding reference_entry_number
own-accepted b e z =
    let c = e.call in
    (both-passed (by_records e.quotas c) (reference_number b c) (both-passed (input_number c) _ z).1).1

pub step-agrees : (place : ℕ) (b : Reference) → Sound b → (e : Entry) → entry_step (concrete b) e ≡ concrete_outcome (reference_step place b e)
unfolding entry_step reference_step concrete_outcome concrete_effect
step-agrees place b s e =
    let c = e.call in
    outcome-agrees concrete b (input_buffer c) _ _ (entry-agrees b s e) _ _ _ _ _ _
    (λ z. found-agrees b s c (own-accepted b e z))
    (λ z. value-agrees b s c (own-accepted b e z))
    (λ z. effect-agrees b s place c (own-accepted b e z))

pub step-sound : (place : ℕ) (b : Reference) → Sound b → (e : Entry) → Sound (reference_step place b e).effect.next
unfolding reference_step outcome
step-sound place b s e = outcome-keeps Sound _ (input_buffer e.call) b _ s (λ z. effect-sound b s place e.call (own-accepted b e z))

-- ---- every run

-- the model is sound after every list of calls
pub sound-after : (calls : List Entry) → Sound (reference_after calls)
unfolding reference_after
sound-after calls = state-keeps reference_step Sound step-sound calls 0 empty sound_empty

-- ---- the fresh state

pub fresh-concrete : fresh ≡ concrete empty
unfolding fresh concrete empty Operations.fresh max_key_requests
fresh-concrete =
    λ i. record {
      generator = encode initial;
      pools = replicate-tabulate (λ i. pool_of (pool_contents empty i)) empty_pool pool_count (λ i. ap pool_of (empty-contents i) ∙ sym pool-empty) i;
      last_reseed = 0;
      reseed_count = 0;
      reseeded = false;
      key_requests = 0;
    }

-- ---- the lists that the calls return

list-concrete : (c : Entry) (o : Outcome Reference) → list_after c (concrete_outcome o) ≡ list_after c o
unfolding list_after left_with record_after concrete_outcome
list-concrete c o = refl

lists-concrete : (calls : List Entry) (os : List (Outcome Reference)) → lists_after calls (map concrete_outcome os) ≡ lists_after calls os
unfolding lists_after
lists-concrete = lists-mapped concrete_outcome list_after list_after list-concrete

run-lists : (calls : List Entry) → lists_left calls (run calls) ≡ lists_after calls (run calls)
unfolding run
run-lists calls = lists-left calls 0 fresh

run-concrete : (calls : List Entry) → run calls ≡ map concrete_outcome (reference_run calls)
unfolding run reference_run concrete_outcome
run-concrete calls =
    ap (λ (s : Fortuna). run_from (λ place. entry_step) 0 s calls) fresh-concrete
    ∙ run-agrees concrete (λ place. entry_step) reference_step Sound step-sound step-agrees calls 0 empty sound_empty

state-concrete : (calls : List Entry) → state_after calls ≡ concrete (reference_after calls)
unfolding state_after reference_after concrete_outcome
state-concrete calls =
    ap (λ (s : Fortuna). state_from (λ place. entry_step) 0 s calls) fresh-concrete
    ∙ state-agrees concrete (λ place. entry_step) reference_step Sound step-sound step-agrees calls 0 empty sound_empty

pub agrees : (calls : List Entry) → Agrees calls
agrees calls =
    record {
      fresh-state = fresh-concrete;
      outcomes = run-concrete calls;
      lists = run-lists calls ∙ ap (lists_after calls) (run-concrete calls) ∙ lists-concrete calls (reference_run calls);
      state = state-concrete calls;
    }

-- ---- a run is its calls' steps

pub run-is-steps : RunIsSteps
run-is-steps =
    record {
      none = unfold run run_from in refl;
      more = λ calls c. unfold run state_after in run_more (λ place. entry_step) calls 0 fresh c;
      start = unfold state_after state_from in refl;
      left = λ calls c. unfold state_after in state-more (λ place. entry_step) calls 0 fresh c;
    }
