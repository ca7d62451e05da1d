-- The counter blocks of a run of calls, of any states with a C: where each call's blocks rise from the C that it finds to the C that it leaves,
-- those of the run rise too, so that none stands at two places.
-- Assumes nothing.
use Rattle.std.proofs.Common.{ℕ, suc, ◌≤◌, Bool, true, false, cond, eqb, List, [], ◌∷◌, arith}
use Rattle.laws.specs.Lists.{joined}
use Rattle.generator.specs.Counter.{max_counter}
use Rattle.generator.specs.Statements.{NoRepeat}
use Rattle.generator.proofs.Rising.{Rising, top, rising-append, rising-no-repeat}
use Rattle.pools.specs.Effects.{Effect, unchanged}
use Rattle.pools.specs.Calls.{Outcome, effect_of, run_from}

module _ {S : Type 0} (count : S → ℕ) where
  -- an effect's blocks, from lo on
  abbrev pub RisesTo : ℕ → Effect S → Type 0
  RisesTo lo x = Rising (count x.next) lo x.trace

  -- where nothing is done there are none
  pub idle-rises : (buffer : List ℕ) (s : S) → RisesTo (count s) (unchanged buffer s)
  unfolding unchanged
  idle-rises buffer s = top (count s) (omega arith)

  pub outcome-rises :
      (n : ℕ) (buffer : List ℕ) (s : S) (done : Effect S) → RisesTo (count s) done → RisesTo (count s) (effect_of n buffer s done)
  unfolding effect_of
  outcome-rises n buffer s done r = go (eqb n 0)
    where
      go : (t : Bool) → RisesTo (count s) (cond t done (unchanged buffer s))
      go true = r
      go false = idle-rises buffer s

  -- a run whose states all have room for their C
  module _ {C : Type 0} (f : ℕ → S → C → Outcome S) (Fits : S → Type 0) (room : (s : S) → Fits s → count s ≤ max_counter)
      (keeps : (place : ℕ) (s : S) → Fits s → (c : C) → Fits (f place s c).effect.next)
      (rises : (place : ℕ) (s : S) (c : C) → RisesTo (count s) (f place s c).effect) where
    abbrev pub blocks_from : ℕ → S → List C → List (List ℕ)
    blocks_from place s calls = joined (λ (o : Outcome S). o.effect.trace) (run_from f place s calls)

    run-rises : (calls : List C) (place : ℕ) (s : S) → Fits s → (hi : ℕ) × (hi ≤ max_counter) × Rising hi (count s) (blocks_from place s calls)
    unfolding run_from joined
    run-rises [] place s h = (count s, room s h, top (count s) (omega arith))
    run-rises (c ∷ calls) place s h =
        let later = run-rises calls (suc place) (f place s c).effect.next (keeps place s h c) in
        (later.0, later.1, rising-append (rises place s c) later.2)

    pub run-no-repeat : (calls : List C) (place : ℕ) (s : S) → Fits s → NoRepeat (blocks_from place s calls)
    run-no-repeat calls place s h = let r = run-rises calls place s h in rising-no-repeat r.1 r.2
