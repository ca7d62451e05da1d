-- A call that makes a pool reseed takes its answer and its next K and C from the key that the reseed left.
-- Assumes nothing.
use mathlib.Core.Path.{◌≡◌, refl, sym, ap, subst, ◌∙◌}
use mathlib.Core.Bool.{Bool, true, false, cond, true≢false}
use mathlib.Core.List.{List}
use Prim.Native.Nat.{ℕ, zero, suc, ◌+◌, ◌-◌, ◌*◌, ◌≤◌}
use native.Mathlib.Omega.{arith}
use lib.ListN.{length}
use borrow.Author.Tests.{ltb-true}
use Rattle.laws.proofs.Cases.{split}
use Rattle.generator.specs.Counter.{max_counter}
use Rattle.generator.specs.Steps.{GeneratorState, decode, encode, reseed}
use Rattle.pools.specs.declared.Fortuna.{Fortuna}
use Rattle.pools.specs.Refusals.{and_then, seed_size, max_tries, update_number, write_number}
use Rattle.pools.specs.Effects.{Effect, pool_reseed, reseed_with_seed}
use Rattle.pools.specs.Draws.{Drawn, try_size, tries, shuffle_from, shuffled}
use Rattle.pools.specs.Calls.{Call, event, request, update, write, draw, shuffle, reading_of, Outcome, effect_of, outcome}
use Rattle.quotas.specs.Entries.{Entry, entry_step}
use Rattle.pools.proofs.Acceptance.{not-spent, request-room, write-room, update-room, draw-passed, shuffle-passed}
use Rattle.reference.specs.Reference.{Reference, due_at, with_state, reference_reseed, reference_reseed_if_due, reference_number, reference_entry_number, reference_effect, reference_found, reference_value, reference_step}
use Rattle.reference.specs.Agreement.{concrete, concrete_outcome}
use Rattle.reference.specs.Timer.{requests}
use Rattle.reference.specs.Provenance.{at_reseed, served, made_from, TakenFrom}
use Rattle.reference.proofs.Invariant.{Sound, sound-state, sound-reseed-if-due}
use Rattle.reference.proofs.Concrete.{decode-concrete}
use Rattle.reference.proofs.Simulation.{pool-reseed-concrete, reseed-with-seed-concrete}
use Rattle.reference.proofs.Moves.{state-due}
use Rattle.reference.proofs.Requests.{seeded}
use Rattle.reference.proofs.Agreement.{step-agrees, own-accepted}
use Rattle.reference.proofs.Carried.{carried}
use Rattle.reference.proofs.Taken.{alone, request-alone, draw-alone, shuffle-alone}

-- the model before a call's pool reseed: of an update, after the seed went in
before_reseed : Reference → Call → Reference
before_reseed b (event source pool content) = b
before_reseed b (request clock buffer) = b
before_reseed b (update clock seed) = seeded b seed
before_reseed b (write clock seed) = b
before_reseed b (draw clock n d) = b
before_reseed b (shuffle clock list) = b

-- K and C after it
key_at : Reference → Call → GeneratorState
key_at b c = (reference_reseed_if_due (before_reseed b c) (reading_of c)).generator

-- ---- what the call comes to is what it makes of K and C alone

record Makes (place : ℕ) (b : Reference) (c : Call) : Type 0 where
  found : reference_found b c ≡ (made_from (key_at b c) c).found
  value : reference_value b c ≡ (made_from (key_at b c) c).value
  effect : alone (reference_effect place b c) ≡ (made_from (key_at b c) c).effect

-- a shuffle draws no value of its own
no_value : {S : Type 0} (serve : S → Effect S) (p : ℕ) (list : List ℕ) (s : S) → (shuffle_from serve p list s).value ≡ 0
unfolding shuffle_from
no_value serve zero list s = refl
no_value {S} serve (suc p) list s = split (λ (o : Drawn S). o.value ≡ 0) (tries serve (suc p + 1) max_tries s).found (λ t. refl) (λ t. refl)

shuffled-value : {S : Type 0} (serve : S → Effect S) (list : List ℕ) (s : S) → (shuffled serve list s).value ≡ 0
unfolding shuffled
shuffled-value {S} serve list s =
    split (λ (o : Drawn S). o.value ≡ 0) (shuffle_from serve (length list - 1) list s).found (λ t. no_value serve (length list - 1) list s) (λ t. refl)

makes : (place : ℕ) (b : Reference) (c : Call) → requests c ≡ true → Makes place b c
unfolding requests key_at before_reseed reading_of reference_found reference_value reference_effect made_from carried
makes place b (event source pool content) h = absurd (true≢false (sym h))
makes place b (request clock buffer) h = record { found = refl; value = refl; effect = sym (request-alone b clock (length buffer)) }
makes place b (update clock seed) h = record { found = refl; value = refl; effect = sym (request-alone (seeded b seed) clock seed_size) }
makes place b (write clock seed) h = record { found = refl; value = refl; effect = sym (request-alone b clock seed_size) }
makes place b (draw clock n zero) h = absurd (true≢false (sym h))
makes place b (draw clock n (suc d)) h =
    let e = sym (draw-alone clock n d b) in
    record {
      found = ap (λ (o : Drawn GeneratorState). o.found) e;
      value = ap (λ (o : Drawn GeneratorState). o.value) e;
      effect = ap (λ (o : Drawn GeneratorState). o.effect) e;
    }
makes place b (shuffle clock list) h =
    let e = sym (shuffle-alone clock list b (ltb-true 1 (length list) h)) in
    record {
      found = ap (λ (o : Drawn GeneratorState). o.found) e;
      value = sym (shuffled-value (served try_size) list _);
      effect = ap (λ (o : Drawn GeneratorState). o.effect) e;
    }

-- ---- the key is that of the station's pool reseed

module _ (b : Reference) (s : Sound b) where
  -- an accepted call has room for its pool reseed
  reseed-room : (c : Call) → reference_number b c ≡ 0 → requests c ≡ true
      → (before_reseed b c).generator.count + cond (due_at (before_reseed b c) (reading_of c)) 1 0 ≤ max_counter
  unfolding reference_number update_number write_number requests before_reseed reading_of
  reseed-room (event source pool content) e h = absurd (true≢false (sym h))
  reseed-room (request clock buffer) e h = omega (arith, request-room false _ _ (length buffer) e)
  reseed-room (update clock seed) e h =
      let room = update-room false b.generator.count (due_at b clock) seed e in
      rw (state-due b (reseed b.generator seed) clock) (unfold with_state reseed in omega (arith, room))
  reseed-room (write clock seed) e h = omega (arith, write-room false b.generator.count (due_at b clock) seed e)
  reseed-room (draw clock n d) e h = omega (arith, not-spent _ _ (3 * d) (draw-passed false _ _ n d e).room)
  reseed-room (shuffle clock list) e h =
      omega (arith, not-spent _ _ (192 * (length list - 1)) (shuffle-passed false _ _ list e (ltb-true 1 (length list) h)).room)

  before-sound : (c : Call) → reference_number b c ≡ 0 → Sound (before_reseed b c)
  unfolding reference_number update_number before_reseed
  before-sound (event source pool content) e = s
  before-sound (request clock buffer) e = s
  before-sound (update clock seed) e =
      let room = update-room false b.generator.count (due_at b clock) seed e in
      unfold reseed in sound-state b (reseed b.generator seed) (omega arith) (omega arith) s
  before-sound (write clock seed) e = s
  before-sound (draw clock n d) e = s
  before-sound (shuffle clock list) e = s

  before-concrete : (c : Call) → at_reseed (concrete b) c ≡ concrete (before_reseed b c)
  unfolding at_reseed before_reseed
  before-concrete (event source pool content) = refl
  before-concrete (request clock buffer) = refl
  before-concrete (update clock seed) = unfold reseed_with_seed in reseed-with-seed-concrete b seed s
  before-concrete (write clock seed) = refl
  before-concrete (draw clock n d) = refl
  before-concrete (shuffle clock list) = refl

  due-before : (c : Call) → due_at (before_reseed b c) (reading_of c) ≡ due_at b (reading_of c)
  unfolding before_reseed reading_of
  due-before (event source pool content) = refl
  due-before (request clock buffer) = refl
  due-before (update clock seed) = state-due b (reseed b.generator seed) clock
  due-before (write clock seed) = refl
  due-before (draw clock n d) = refl
  due-before (shuffle clock list) = refl

  module _ (c : Call) (accepted : reference_number b c ≡ 0) (asks : requests c ≡ true) (reseeds : due_at b (reading_of c) ≡ true) where
    reseed-made : reference_reseed_if_due (before_reseed b c) (reading_of c) ≡ reference_reseed (before_reseed b c) (reading_of c)
    unfolding reference_reseed_if_due
    reseed-made = ap (λ (t : Bool). cond t (reference_reseed (before_reseed b c) (reading_of c)) (before_reseed b c)) (due-before c ∙ reseeds)

    key-is : key_at b c ≡ decode (pool_reseed (at_reseed (concrete b) c) (reading_of c)).generator
    unfolding key_at
    key-is =
        let after = reference_reseed_if_due (before_reseed b c) (reading_of c) in
        let sound = before-sound c accepted in
        sym (decode-concrete after (sound-reseed-if-due (before_reseed b c) (reading_of c) (reseed-room c accepted asks) sound))
        ∙ ap (λ (x : Fortuna). decode x.generator)
        (ap concrete reseed-made ∙ sym (pool-reseed-concrete (before_reseed b c) (reading_of c) sound)
        ∙ ap (λ (x : Fortuna). pool_reseed x (reading_of c)) (sym (before-concrete c)))

  module _ (e : Entry) (allowed : reference_entry_number b e ≡ 0) (asks : requests e.call ≡ true) (reseeds : due_at b (reading_of e.call) ≡ true) where
    step-takes : TakenFrom (made_from (key_at b e.call) e.call) (concrete_outcome (reference_step 0 b e))
    unfolding reference_step outcome effect_of and_then concrete_outcome concrete alone
    step-takes =
        let m = makes 0 b e.call asks in
        record {
          number = rw (allowed, m.found);
          value = rw allowed m.value;
          bytes = rw allowed (ap (λ (e : Effect GeneratorState). e.buffer) m.effect);
          next = rw allowed (ap (λ (e : Effect GeneratorState). encode e.next) m.effect);
        }

    pub takes : TakenFrom (made_from (decode (pool_reseed (at_reseed (concrete b) e.call) (reading_of e.call)).generator) e.call)
        (entry_step (concrete b) e)
    takes =
        let c = e.call in
        subst (λ (o : Outcome Fortuna). TakenFrom (made_from (decode (pool_reseed (at_reseed (concrete b) c) (reading_of c)).generator) c) o)
        (sym (step-agrees 0 b s e))
        (subst (λ (w : GeneratorState). TakenFrom (made_from w c) (concrete_outcome (reference_step 0 b e)))
        (key-is c (own-accepted b e allowed) asks reseeds) step-takes)
