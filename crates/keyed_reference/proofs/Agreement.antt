-- What is seen at each call and the state left are the reference model's.
-- Assumes nothing.
use mathlib.Core.Path.{◌≡◌, refl, sym, ap, ap₂, ◌∙◌}
use mathlib.Core.Bool.{true, false}
use mathlib.Core.List.{List, map}
use Prim.Native.Nat.{ℕ, ◌+◌, ◌≤◌, ◌<◌}
use native.Mathlib.Omega.{arith}
use lib.ListN.{length}
use Rattle.laws.specs.Blocks.{block_count}
use Rattle.laws.proofs.Lists.{replicate-tabulate}
use Rattle.hash.specs.ShaD.{empty_pool, pool_of}
use Rattle.hash.proofs.Laws.{pool-empty}
use Rattle.generator.specs.Counter.{max_counter}
use Rattle.generator.specs.Steps.{GeneratorState, decode, encode, initial, reseed}
use Rattle.generator.specs.Operations as Operations
use Rattle.generator.proofs.Laws.{decode-encode, reseed-count, seed-blocks}
use Rattle.pools.specs.Events.{pool_count, event_bytes}
use Rattle.pools.specs.Schedule.{max_key_requests}
use Rattle.pools.specs.Refusals.{and_then, seed_size}
use Rattle.pools.specs.Calls.{Outcome, outcome, run_from, state_from}
use Rattle.pools.proofs.Gains.{length-event}
use Rattle.pools.proofs.Chains.{both-passed, then-absorbed}
use Rattle.pools.proofs.Acceptance.{request-room, write-room, update-room, event-room}
use Rattle.pools.proofs.Runs.{effect_to, outcome_to, outcome-agrees, outcome-keeps, state-keeps, run-agrees, state-agrees, run_more, state-more}
use Rattle.quotas.specs.Entries.{left_with}
use Rattle.reference.proofs.ListReadings.{lists-mapped}
use Rattle.keyed.specs.declared.Keyed.{Keyed}
use Rattle.keyed.specs.Scheduler.{input_pool}
use Rattle.keyed.specs.State.{fresh, picked}
use Rattle.keyed.specs.Effects.{random_data_from, random_data, write_seed}
use Rattle.keyed.specs.Calls.{Call, event, request, update, write, input_buffer, input_number, state_number, call_number, call_effect}
use Rattle.keyed.specs.Entries.{Entry, list_number, entry_number, entry_step}
use Rattle.keyed.proofs.Acceptance.{event-parts, step_left, step_room}
use Rattle.keyed.proofs.Chains.{call-chains}
use Rattle.keyed.proofs.Requests.{update-is}
use Rattle.keyed_reference.specs.Runs.{run, state_after, lists_left}
use Rattle.keyed_reference.specs.ReferenceLists.{by_records, record_after, list_after, lists_after}
use Rattle.keyed_reference.specs.Reference.{Reference, empty, pool_contents, reference_number, reference_effect, reference_entry_number, reference_step, reference_run, reference_after}
use Rattle.keyed_reference.specs.Agreement.{concrete, concrete_outcome, RunIsSteps, Agrees}
use Rattle.keyed_reference.proofs.Schedule.{input-small}
use Rattle.keyed_reference.proofs.Invariant.{Sound, sound_empty, empty-contents, sound-event}
use Rattle.keyed_reference.proofs.Concrete.{size-concrete, decode-concrete, counter-concrete, malformed-concrete}
use Rattle.keyed_reference.proofs.Simulation.{event-agrees, request-agrees, request-sound}
use Rattle.keyed_reference.proofs.Lists.{by-records, lists-left}

pub picked-concrete : (key : List ℕ) (b : Reference) → picked (concrete key b) ≡ input_pool key b.steps
unfolding picked concrete
picked-concrete key b = refl

pub step-concrete : (key : List ℕ) (b : Reference) → (concrete key b).step ≡ b.steps
unfolding concrete
step-concrete key b = refl

module _ (key : List ℕ) (b : Reference) (s : Sound b) where
  in-pools : input_pool key b.steps < pool_count
  unfolding pool_count
  in-pools = input-small key b.steps

  pub number-agrees : (c : Call) → call_number (concrete key b) c ≡ reference_number key b c
  unfolding call_number reference_number
  number-agrees (event source content) =
      rw (
        malformed-concrete key b s,
        counter-concrete key b s,
        picked-concrete key b,
        size-concrete key b (input_pool key b.steps) in-pools,
        step-concrete key b,
      )
  number-agrees (request buffer) = rw (malformed-concrete key b s, counter-concrete key b s)
  number-agrees (update seed) = rw (malformed-concrete key b s, counter-concrete key b s)
  number-agrees (write seed) = rw (malformed-concrete key b s, counter-concrete key b s)

  -- with its list
  pub entry-agrees : (e : Entry) → entry_number (concrete key b) e ≡ reference_entry_number key b e
  unfolding entry_number reference_entry_number
  entry-agrees e =
      let c = e.call in
      then-absorbed (input_number c) (list_number e.quotas c) (state_number (concrete key b) c)
      ∙ ap₂ (λ (l n : ℕ). and_then (input_number c) (and_then l n)) (sym (by-records e.quotas c))
      (sym (call-chains (concrete key b) c) ∙ number-agrees c)

  -- ---- the room of accepted calls

  seed-room : (c : ℕ) → c + 0 + 7 ≤ max_counter → c + 1 + (block_count seed_size + 2) ≤ max_counter
  unfolding seed_size
  seed-room c h = rw seed-blocks (omega arith)

  updated-room :
      (seed : List ℕ) → reference_number key b (update seed) ≡ 0 → (reseed b.generator seed).count + (block_count seed_size + 2) ≤ max_counter
  unfolding reference_number
  updated-room seed e = rw (reseed-count b.generator seed) (seed-room b.generator.count (update-room false _ false seed e))

  updated-count :
      (seed : List ℕ) → reference_number key b (update seed) ≡ 0 →
      decode (encode (reseed (decode (concrete key b).generator) seed)) ≡ reseed b.generator seed
  updated-count seed e =
      let r = updated-room seed e in
      ap (λ (w : GeneratorState). decode (encode (reseed w seed))) (decode-concrete key b s)
      ∙ decode-encode (reseed b.generator seed) (omega arith)

  pub effect-agrees :
      (place : ℕ) (c : Call) → reference_number key b c ≡ 0 → call_effect (concrete key b) c ≡ effect_to (concrete key) (reference_effect key place b c)
  unfolding call_effect reference_effect
  effect-agrees place (event source content) e = event-agrees key place b (event_bytes source content) s
  effect-agrees place (request buffer) e =
      unfold random_data in
      ap (λ (w : GeneratorState). random_data_from (concrete key b) w (length buffer)) (decode-concrete key b s)
      ∙ request-agrees key b b.generator (length buffer)
  effect-agrees place (update seed) e =
      update-is (concrete key b) seed
      ∙ ap (λ (w : GeneratorState). random_data_from (concrete key b) w seed_size) (updated-count seed e)
      ∙ request-agrees key b (reseed b.generator seed) seed_size
  effect-agrees place (write seed) e =
      unfold write_seed random_data in
      ap (λ (w : GeneratorState). random_data_from (concrete key b) w seed_size) (decode-concrete key b s)
      ∙ request-agrees key b b.generator seed_size

  pub effect-sound : (place : ℕ) (c : Call) → reference_number key b c ≡ 0 → Sound (reference_effect key place b c).next
  unfolding reference_number reference_effect
  effect-sound place (event source content) e =
      let p = event-parts false _ source (length content) _ _ e in
      sound-event key place b (event_bytes source content)
      (rw (length-event source content) (event-room false _ source 0 (length content) p.0))
      (step_room _ _ p.1) (step_left _ _ p.1) s
  effect-sound place (request buffer) e =
      request-sound key b b.generator (length buffer) s (let r = request-room false _ false (length buffer) e in omega arith)
  effect-sound place (update seed) e =
      request-sound key b (reseed b.generator seed) seed_size s (updated-room seed (unfold reference_number in e))
  effect-sound place (write seed) e = request-sound key b b.generator seed_size s (let r = write-room false _ false seed e in omega arith)

-- ---- refused or not

-- a call accepted with its list is accepted without one
pub own-accepted : (key : List ℕ) (b : Reference) (e : Entry) → reference_entry_number key b e ≡ 0 → reference_number key b e.call ≡ 0
unfolding reference_entry_number
own-accepted key b e h = (both-passed (by_records e.quotas e.call) _ (both-passed (input_number e.call) _ h).1).1

module _ (key : List ℕ) where
  pub step-agrees :
      (place : ℕ) (b : Reference) → Sound b → (e : Entry) → entry_step (concrete key b) e ≡ outcome_to (concrete key) (reference_step key place b e)
  unfolding entry_step reference_step
  step-agrees place b s e =
      outcome-agrees (concrete key) b (input_buffer e.call) _ _ (entry-agrees key b s e) true true 0 0 _ _ (λ _. refl) (λ _. refl)
      (λ z. effect-agrees key b s place e.call (own-accepted key b e z))

  pub step-sound : (place : ℕ) (b : Reference) → Sound b → (e : Entry) → Sound (reference_step key place b e).effect.next
  unfolding reference_step outcome
  step-sound place b s e =
      outcome-keeps Sound _ (input_buffer e.call) b _ s (λ z. effect-sound key b s place e.call (own-accepted key b e z))

  -- ---- every run

  pub sound-after : (calls : List Entry) → Sound (reference_after key calls)
  unfolding reference_after
  sound-after calls = state-keeps (reference_step key) Sound step-sound calls 0 empty sound_empty

  pub fresh-concrete : fresh key ≡ concrete key empty
  unfolding fresh concrete empty Operations.fresh max_key_requests
  fresh-concrete =
      λ i. record {
        generator = encode initial;
        pools = replicate-tabulate (λ i. pool_of (pool_contents empty i)) empty_pool pool_count (λ i. ap pool_of (empty-contents i) ∙ sym pool-empty) i;
        last_reseed = 0;
        reseed_count = 0;
        reseeded = false;
        key_requests = 0;
        scheduler_key = key;
        step = 0;
      }

  run-concrete : (calls : List Entry) → run key calls ≡ map (concrete_outcome key) (reference_run key calls)
  unfolding run reference_run concrete_outcome
  run-concrete calls =
      ap (λ (s : Keyed). run_from (λ place. entry_step) 0 s calls) fresh-concrete
      ∙ run-agrees (concrete key) (λ place. entry_step) (reference_step key) Sound step-sound step-agrees calls 0 empty sound_empty

  state-concrete : (calls : List Entry) → state_after key calls ≡ concrete key (reference_after key calls)
  unfolding state_after reference_after
  state-concrete calls =
      ap (λ (s : Keyed). state_from (λ place. entry_step) 0 s calls) fresh-concrete
      ∙ state-agrees (concrete key) (λ place. entry_step) (reference_step key) Sound step-sound step-agrees calls 0 empty sound_empty

  -- ---- the lists that the calls return

  list-concrete : (c : Entry) (o : Outcome Reference) → list_after c (concrete_outcome key o) ≡ list_after c o
  unfolding list_after left_with record_after concrete_outcome
  list-concrete c o = refl

  lists-concrete : (calls : List Entry) (os : List (Outcome Reference)) → lists_after calls (map (concrete_outcome key) os) ≡ lists_after calls os
  unfolding lists_after
  lists-concrete = lists-mapped (concrete_outcome key) list_after list_after list-concrete

  run-lists : (calls : List Entry) → lists_left calls (run key calls) ≡ lists_after calls (run key calls)
  unfolding run
  run-lists calls = lists-left calls 0 (fresh key)

  pub agrees : (calls : List Entry) → Agrees key calls
  agrees calls =
      record {
        fresh-state = fresh-concrete;
        outcomes = run-concrete calls;
        lists = run-lists calls ∙ ap (lists_after calls) (run-concrete calls) ∙ lists-concrete calls (reference_run key calls);
        state = state-concrete calls;
      }

  -- ---- a run is its calls' steps

  pub run-is-steps : RunIsSteps key
  run-is-steps =
      record {
        none = unfold run run_from in refl;
        more = λ calls c. unfold run state_after in run_more (λ place. entry_step) calls 0 (fresh key) c;
        start = unfold state_after state_from in refl;
        left = λ calls c. unfold state_after in state-more (λ place. entry_step) calls 0 (fresh key) c;
      }

  -- ---- the numbers and the steps of a run, in the model's words

  module _ (before : List Entry) where
    pub same_number : (c : Entry) → entry_number (state_after key before) c ≡ reference_entry_number key (reference_after key before) c
    same_number c =
        ap (λ (s : Keyed). entry_number s c) (agrees before).state ∙ entry-agrees key (reference_after key before) (sound-after before) c

    pub same-steps : (state_after key before).step ≡ (reference_after key before).steps
    same-steps = ap (λ (s : Keyed). s.step) (agrees before).state ∙ step-concrete key (reference_after key before)
