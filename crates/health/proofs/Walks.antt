-- The walk over the samples, a sample at a time, and what a walk of any samples comes to.
-- Assumes nothing.
use mathlib.Core.Path.{◌≡◌, ◌∙◌}
use mathlib.Core.Bool.{true, false, cond, ◌||◌}
use mathlib.Core.List.{List}
use Rattle.std.specs.Prelude.{Ok, Err}
use Prim.Native.Nat.{ℕ, ◌+◌, ◌≤◌, ◌<◌}
use native.Mathlib.Numerals.{add-one}
use lib.ListN.{length, get_or, drop, drop_of_length-le}
use lib.Seq.{drop-cons}
use Rattle.health.specs.Samples.{repetition_fails, proportion_fails, fails, noted, failure, test_from}
use Rattle.health.specs.Calls.{out_of_range, malformed, outcome_of, tested}
use Rattle.health.specs.declared.HealthState.{HealthState}
use Rattle.health.specs.declared.refusals.Refusal.TheVariants.{CutoffRange, Malformed}

-- ---- the walk

module _ (r p : ℕ) (samples : List ℕ) (i : ℕ) (s : HealthState) (inside : i < length samples) where
  abbrev x : ℕ
  x = get_or samples i 0

  split-here : test_from r p i s (drop i samples)
      ≡ cond (fails r p s x) (Err (failure i (repetition_fails r s x) (proportion_fails p s x))) (test_from r p (i + 1) (noted s x) (drop (i + 1) samples))
  unfolding test_from
  split-here = rw (drop-cons samples i 0 inside, add-one i)

  pub stops_here : fails r p s x ≡ true → test_from r p i s (drop i samples) ≡ Err (failure i (repetition_fails r s x) (proportion_fails p s x))
  stops_here h = split-here ∙ rw h

  pub goes_on : fails r p s x ≡ false → test_from r p i s (drop i samples) ≡ test_from r p (i + 1) (noted s x) (drop (i + 1) samples)
  goes_on h = split-here ∙ rw h

pub walk_end : (r p : ℕ) (samples : List ℕ) (i : ℕ) (s : HealthState) → length samples ≤ i → test_from r p i s (drop i samples) ≡ Ok s
unfolding test_from
walk_end r p samples i s h = rw (drop_of_length-le samples {i = i} h)

-- ---- the call

module _ (r p : ℕ) (s : HealthState) (samples : List ℕ) where
  pub refused-range : (out_of_range r || out_of_range p) ≡ true → record { answer = Err CutoffRange; next = s } ≡ tested r p s samples
  unfolding tested
  refused-range h = rw h

  pub refused-state : (out_of_range r || out_of_range p) ≡ false → malformed r p s ≡ true
      → record { answer = Err Malformed; next = s } ≡ tested r p s samples
  unfolding tested
  refused-state h m = rw (h, m)

  pub not-refused : out_of_range r ≡ false → out_of_range p ≡ false → malformed r p s ≡ false
      → tested r p s samples ≡ outcome_of (test_from r p 0 s samples)
  unfolding tested
  not-refused h k m = rw (h, k, m)
