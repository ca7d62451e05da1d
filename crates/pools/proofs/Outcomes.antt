-- From what a method comes to, to the outcome of its call.
-- Assumes nothing.
use Rattle.std.proofs.Common.{◌≡◌, ℕ, Bool, true, false, cond, eqb, ◌≢◌, List, length, sym, refl, ap, ◌∙◌, ne_eqb}
use Rattle.laws.proofs.Refusals.{accepted}
use Rattle.generator.specs.Steps.{decode}
use Rattle.pools.specs.State.{counter_of, due}
use Rattle.pools.specs.Refusals.{and_then, request_number, write_number, update_number}
use Rattle.pools.specs.Effects.{Effect, unchanged}
use Rattle.pools.specs.Calls.{Call, event, request, update, write, draw, shuffle, input_buffer, call_number, call_effect, call_found, Outcome, effect_of, outcome, step}
use Rattle.pools.specs.Collected.{standing}
use Rattle.pools.specs.declared.Fortuna.{Fortuna}
use Rattle.pools.specs.declared.refusals.Standing.{Standing}
use Rattle.pools.proofs.Chains.{then-nothing}

-- ---- a call without draws comes to no 33

abbrev pub NoDraws : Call → Type 0
NoDraws (event source pool content) = Unit {0}
NoDraws (request clock buffer) = Unit {0}
NoDraws (update clock seed) = Unit {0}
NoDraws (write clock seed) = Unit {0}
NoDraws (draw clock n d) = ⊥
NoDraws (shuffle clock list) = ⊥

all_found : (s : Fortuna) (call : Call) → NoDraws call → call_found s call ≡ true
unfolding call_found
all_found s (event source pool content) h = refl
all_found s (request clock buffer) h = refl
all_found s (update clock seed) h = refl
all_found s (write clock seed) h = refl
all_found s (draw clock n d) h = absurd h
all_found s (shuffle clock list) h = absurd h

-- ---- a refused call gives its number, and leaves everything as it was

pub outcome-refused : {S : Type 0} (n : ℕ) (found : Bool) (value : ℕ) (buffer : List ℕ) (s : S) (done : Effect S) → n ≢ 0
    → outcome n found value buffer s done ≡ record { number = n; value = 0; effect = unchanged buffer s }
unfolding outcome effect_of and_then
outcome-refused n found value buffer s done h = rw (ne_eqb n 0 h)

-- ---- a call of any kind on any state: n is its number, k what the code came to, d its test for a call that is done

module _ {S : Type 0} (n k : ℕ) (d : Bool) (numbered : k ≡ n) (tested : d ≡ eqb k 0) (found : Bool) (value : ℕ) (buffer : List ℕ) (s : S)
    (effect : Effect S) where
  abbrev this : Outcome S
  this = outcome n found value buffer s effect

  outcome-done : d ≡ true → effect ≡ this.effect
  unfolding outcome effect_of
  outcome-done t = rw (← numbered, ← tested, t)

  outcome-kept : d ≡ false → unchanged buffer s ≡ this.effect
  unfolding outcome effect_of
  outcome-kept t = rw (← numbered, ← tested, t)

  module _ (plain : found ≡ true) where
    number_is : k ≡ this.number
    unfolding outcome
    number_is = numbered ∙ sym (then-nothing n) ∙ ap (λ (t : Bool). and_then n (cond t 0 33)) (sym plain)

    -- with a lent buffer: done, with the emptied pools, the next state and the bytes that the effect has
    pub outcome-gives-done : (emptied : ℕ) (next : S) (bytes : List ℕ) → d ≡ true
        → (emptied ≡ effect.emptied) × (next ≡ effect.next) × (bytes ≡ effect.buffer)
        → ((k ≡ this.number) × (emptied ≡ this.effect.emptied) × (next ≡ this.effect.next)) × (bytes ≡ this.effect.buffer)
    outcome-gives-done emptied next bytes t (e, f, g) = (
      (
        number_is,
        e ∙ ap (λ (x : Effect S). x.emptied) (outcome-done t),
        f ∙ ap (λ (x : Effect S). x.next) (outcome-done t),
      ),
      g ∙ ap (λ (x : Effect S). x.buffer) (outcome-done t),
    )

    -- and refused: none, the same state and the same bytes
    pub outcome-gives-kept : d ≡ false
        → ((k ≡ this.number) × (0 ≡ this.effect.emptied) × (s ≡ this.effect.next)) × (buffer ≡ this.effect.buffer)
    unfolding unchanged
    outcome-gives-kept t = (
      (number_is, ap (λ (x : Effect S). x.emptied) (outcome-kept t), ap (λ (x : Effect S). x.next) (outcome-kept t)),
      ap (λ (x : Effect S). x.buffer) (outcome-kept t),
    )

-- ---- a call of the station

module _ (s : Fortuna) (call : Call) (k : ℕ) (d : Bool) (numbered : k ≡ call_number s call) (tested : d ≡ eqb k 0) where
  pub is-accepted : d ≡ true → call_number s call ≡ 0
  is-accepted t = accepted (call_number s call) k d numbered tested t

  pub done : d ≡ true → call_effect s call ≡ (step s call).effect
  unfolding step
  done = outcome-done _ k d numbered tested _ _ (input_buffer call) s (call_effect s call)

  pub kept : d ≡ false → unchanged (input_buffer call) s ≡ (step s call).effect
  unfolding step
  kept = outcome-kept _ k d numbered tested _ _ (input_buffer call) s (call_effect s call)

  module _ (plain : NoDraws call) where
    pub gives-done : (emptied : ℕ) (next : Fortuna) (bytes : List ℕ) → d ≡ true
        → (emptied ≡ (call_effect s call).emptied) × (next ≡ (call_effect s call).next) × (bytes ≡ (call_effect s call).buffer)
        → ((k ≡ (step s call).number) × (emptied ≡ (step s call).effect.emptied) × (next ≡ (step s call).effect.next))
        × (bytes ≡ (step s call).effect.buffer)
    unfolding step
    gives-done = outcome-gives-done _ k d numbered tested _ _ (input_buffer call) s (call_effect s call) (all_found s call plain)

    pub gives-kept : d ≡ false
        → ((k ≡ (step s call).number) × (0 ≡ (step s call).effect.emptied) × (s ≡ (step s call).effect.next))
        × (input_buffer call ≡ (step s call).effect.buffer)
    unfolding step
    gives-kept = outcome-gives-kept _ k d numbered tested _ _ (input_buffer call) s (call_effect s call) (all_found s call plain)

-- ---- the number of each call, from how the state stands

module _ (s : Fortuna) (clock : ℕ) (r : Standing) (k : ℕ) (stands : r ≡ standing s clock) where
  pub request-number :
      (out : List ℕ) → k ≡ request_number r.malformed (decode r.generator).count r.due (length out) → k ≡ call_number s (request clock out)
  unfolding call_number counter_of standing
  request-number out e = rw stands at e

  pub write-number :
      (seed : List ℕ) → k ≡ write_number r.malformed (decode r.generator).count r.due seed → k ≡ call_number s (write clock seed)
  unfolding call_number counter_of standing
  write-number seed e = rw stands at e

  pub update-number :
      (seed : List ℕ) → k ≡ update_number r.malformed (decode r.generator).count r.due seed → k ≡ call_number s (update clock seed)
  unfolding call_number counter_of standing
  update-number seed e = rw stands at e

  pub timed : r.due ≡ due s clock
  unfolding standing
  timed = ap (λ (x : Standing). x.due) stands
