-- A second reading of SP 800-90B, 4.4.1 and 4.4.2: which sample fails, by the places of the samples alone and with no state, and the state after
-- samples of a fresh start.
-- Assumes nothing.
use Rattle.std.specs.Prelude.{◌≡◌, Bool, true, false, cond, ◌||◌, ◌↔◌, ◌⊎◌, List, eqb, length, take, get_or}
use Rattle.std.specs.Prelude.{ℕ, zero, suc, ◌+◌, ◌*◌, ◌/◌, ◌≤◌, ◌<◌}
use Rattle.std.proofs.Math.Seq.{slice}
use Rattle.laws.specs.Lists.{count_of}
use Rattle.health.specs.Samples.{window_size}
use Rattle.health.specs.Calls.{out_of_range, passed, failed, fresh, tested}
use Rattle.health.specs.Statements.{sample_at, noted_all, repetition_fails_at, proportion_fails_at}
use Rattle.health.specs.declared.HealthState.{HealthState}

-- ---- 4.4.1

-- there are n samples up to place k, that one included, and the last n of them are equal
abbrev pub LastEqual : ℕ → List ℕ → ℕ → Type 0
LastEqual n samples k = (n ≤ k + 1) × ((j : ℕ) → j ≤ k → k < j + n → sample_at samples j ≡ sample_at samples k)

-- how many equal samples, at most, end at a place
unfoldable pub run_ending_at : List ℕ → ℕ → ℕ
run_ending_at samples zero = 1
run_ending_at samples (suc k) = cond (eqb (sample_at samples (suc k)) (sample_at samples k)) (run_ending_at samples k + 1) 1

-- the last n samples are equal exactly if that many end there
abbrev pub RunLaw : Type 0
RunLaw = (samples : List ℕ) (k n : ℕ) → LastEqual n samples k ↔ (n ≤ run_ending_at samples k)

-- ---- 4.4.2

-- the place where the window of a place starts
abbrev pub window_start : ℕ → ℕ
window_start k = window_size * (k / window_size)

-- how often the first sample of the window has come there, up to place k, that one included
abbrev pub count_at : List ℕ → ℕ → ℕ
count_at samples k = count_of (sample_at samples (window_start k)) (slice (window_start k) (k + 1) samples)

-- of a window n that is full, some sample comes to the cutoff exactly if the window's first comes so often in all of it: looked at with each sample
-- or only where a window is full, the test first fails in the same window
abbrev pub WindowLaw : Type 0
WindowLaw =
    (cutoff : ℕ) (samples : List ℕ) (n : ℕ) → window_size * (n + 1) ≤ length samples →
    ((k : ℕ) × (k / window_size ≡ n) × (cutoff ≤ count_at samples k))
    ↔ (cutoff ≤ count_of (sample_at samples (window_size * n)) (slice (window_size * n) (window_size * (n + 1)) samples))

-- ---- which sample fails which test

-- from a fresh start: sample k fails the one where the last C are equal, the other where the window's first has come C times there
pub record FailsBy (samples : List ℕ) (k : ℕ) : Type 0 where
  pub repetition : (cutoff : ℕ) → (repetition_fails_at cutoff fresh samples k ≡ true) ↔ LastEqual cutoff samples k
  pub proportion : (cutoff : ℕ) → (proportion_fails_at cutoff fresh samples k ≡ true) ↔ (cutoff ≤ count_at samples k)

abbrev pub FailsByLaw : Type 0
FailsByLaw = (samples : List ℕ) (k : ℕ) → k < length samples → FailsBy samples k

-- ---- the state

-- of the first n samples, those of the window that is not full yet: none where n is a multiple of 512
abbrev pub open_window : List ℕ → ℕ → List ℕ
open_window samples n = slice (window_start n) n samples

-- the state after the first n samples
unfoldable pub state_after : List ℕ → ℕ → HealthState
state_after samples zero = fresh
state_after samples (suc k) = record {
  last = sample_at samples k;
  run = run_ending_at samples k;
  first = get_or (open_window samples (suc k)) 0 0;
  count = count_of (get_or (open_window samples (suc k)) 0 0) (open_window samples (suc k));
  seen = length (open_window samples (suc k));
}

-- it is the state that these samples leave, one noted after the other
abbrev pub StateLaw : Type 0
StateLaw = (samples : List ℕ) (n : ℕ) → n ≤ length samples → noted_all fresh (take n samples) ≡ state_after samples n

-- ---- the call on a fresh state

-- sample k fails neither test
abbrev pub FailsNeither : ℕ → ℕ → List ℕ → ℕ → Type 0
FailsNeither repetition proportion samples k = ¬ LastEqual repetition samples k × ¬ (proportion ≤ count_at samples k)

-- sample k is the first that fails, and these are the tests that it fails
pub record FailsFirst (repetition proportion : ℕ) (samples : List ℕ) (k : ℕ) (by_repetition by_proportion : Bool) : Type 0 where
  pub inside : k < length samples
  pub before : (j : ℕ) → j < k → FailsNeither repetition proportion samples j
  pub repetition-told : (by_repetition ≡ true) ↔ LastEqual repetition samples k
  pub proportion-told : (by_proportion ≡ true) ↔ (proportion ≤ count_at samples k)
  pub fails-one : (by_repetition || by_proportion) ≡ true

-- of any samples none fails, or one is the first that does; exactly in the first case the call passes, and leaves the state above; exactly in the
-- second it fails there, by these tests, and leaves a fresh one
pub record FirstFailureClosed (repetition proportion : ℕ) (samples : List ℕ) : Type 0 where
  pub either :
      ((k : ℕ) → k < length samples → FailsNeither repetition proportion samples k)
      ⊎ ((k : ℕ) × (by_repetition : Bool) × (by_proportion : Bool) × FailsFirst repetition proportion samples k by_repetition by_proportion)
  pub passes :
      (tested repetition proportion fresh samples ≡ record { answer = passed; next = state_after samples (length samples) })
      ↔ ((k : ℕ) → k < length samples → FailsNeither repetition proportion samples k)
  pub fails :
      (k : ℕ) (by_repetition by_proportion : Bool) →
      (tested repetition proportion fresh samples ≡ record { answer = failed k by_repetition by_proportion; next = fresh })
      ↔ FailsFirst repetition proportion samples k by_repetition by_proportion

abbrev pub FirstFailureClosedLaw : Type 0
FirstFailureClosedLaw =
    (repetition proportion : ℕ) (samples : List ℕ) → out_of_range repetition ≡ false → out_of_range proportion ≡ false →
    FirstFailureClosed repetition proportion samples
