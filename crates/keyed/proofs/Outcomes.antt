-- From what a method comes to, to the outcome of its call: k is the number that the code came to, d its test for a call that is done.
-- Assumes nothing.
use mathlib.Core.Path.{◌≡◌, refl}
use mathlib.Core.Bool.{Bool, true, false}
use mathlib.Core.List.{List}
use Prim.Native.Nat.{ℕ}
use lib.Dec.{eqb}
use Rattle.laws.proofs.Refusals.{accepted}
use Rattle.pools.proofs.Outcomes.{outcome-gives-done, outcome-gives-kept}
use Rattle.keyed.specs.declared.Keyed.{Keyed}
use Rattle.keyed.specs.Calls.{Call, input_buffer, call_number, call_effect, step}

module _ (s : Keyed) (c : Call) (k : ℕ) (d : Bool) (numbered : k ≡ call_number s c) (tested : d ≡ eqb k 0) where
  pub is-accepted : d ≡ true → call_number s c ≡ 0
  is-accepted t = accepted (call_number s c) k d numbered tested t

  pub gives-done : (emptied : ℕ) (next : Keyed) (bytes : List ℕ) → d ≡ true
      → (emptied ≡ (call_effect s c).emptied) × (next ≡ (call_effect s c).next) × (bytes ≡ (call_effect s c).buffer)
      → ((k ≡ (step s c).number) × (emptied ≡ (step s c).effect.emptied) × (next ≡ (step s c).effect.next)) × (bytes ≡ (step s c).effect.buffer)
  unfolding step
  gives-done = outcome-gives-done _ k d numbered tested true 0 (input_buffer c) s (call_effect s c) refl

  pub gives-kept : d ≡ false
      → ((k ≡ (step s c).number) × (0 ≡ (step s c).effect.emptied) × (s ≡ (step s c).effect.next)) × (input_buffer c ≡ (step s c).effect.buffer)
  unfolding step
  gives-kept = outcome-gives-kept _ k d numbered tested true 0 (input_buffer c) s (call_effect s c) refl
