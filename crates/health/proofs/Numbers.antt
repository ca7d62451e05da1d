-- The number of a call, and what an accepted call has passed.
-- Assumes nothing.
use mathlib.Core.Path.{◌≡◌, refl}
use mathlib.Core.Bool.{false, ◌||◌}
use mathlib.Core.List.{List}
use Rattle.std.specs.Prelude.{Result, Ok, Err}
use Prim.Native.Nat.{ℕ, ◌<◌}
use native.Mathlib.Omega.{arith}
use Rattle.std.proofs.lemmas.Bool.Decides.{nat_tests}
use Rattle.laws.specs.Refusals.{refuse}
use Rattle.health.specs.Samples.{test_from}
use Rattle.health.specs.Calls.{out_of_range, malformed, outcome_of, tested, number}
use Rattle.health.specs.Statements.{RefusalLaw, NumberTells}
use Rattle.health.specs.declared.HealthState.{HealthState}
use Rattle.health.specs.declared.Failure.{Failure}
use Rattle.health.specs.declared.refusals.Refusal.TheVariants.{CutoffRange, Malformed}

pub number-tells : NumberTells
number-tells (Ok tested) b h e = absurd (omega arith)
number-tells (Err a) (Ok tested) h e = absurd (omega arith)
number-tells (Err CutoffRange) (Err CutoffRange) h e = refl
number-tells (Err CutoffRange) (Err Malformed) h e = absurd (omega arith)
number-tells (Err Malformed) (Err CutoffRange) h e = absurd (omega arith)
number-tells (Err Malformed) (Err Malformed) h e = refl

-- samples that were tested have number 0
result-number : (w : Result HealthState Failure) → number (outcome_of w).answer ≡ 0
unfolding outcome_of
result-number (Ok t) = refl
result-number (Err f) = refl

module _ (r p : ℕ) (s : HealthState) (xs : List ℕ) where
  abbrev chain : ℕ
  chain = refuse (out_of_range r || out_of_range p) 34 (refuse (malformed r p s) 35 0)

  by-number : number (tested r p s xs).answer ≡ chain
  unfolding tested
  by-number = grind (arith, nat_tests, result-number (test_from r p 0 s xs))

  state-stays : 0 < number (tested r p s xs).answer → (tested r p s xs).next ≡ s
  unfolding tested
  state-stays h = grind (arith, nat_tests, result-number (test_from r p 0 s xs))

  -- what an accepted call has passed
  pub accepted : number (tested r p s xs).answer ≡ 0 → (out_of_range r ≡ false) × (out_of_range p ≡ false) × (malformed r p s ≡ false)
  accepted e = grind (arith, nat_tests, by-number)

  pub accepts : out_of_range r ≡ false → out_of_range p ≡ false → malformed r p s ≡ false → number (tested r p s xs).answer ≡ 0
  accepts a b m = grind (arith, nat_tests, by-number)

pub refusals : RefusalLaw
refusals r p s xs = record { by_number = by-number r p s xs; state-stays = state-stays r p s xs }
