-- What is proved of the tests: refusals, the states that calls leave, samples cut elsewhere, and which sample fails first.
-- Assumes nothing.
use Rattle.std.specs.Prelude.{◌≡◌, Bool, true, false, ◌||◌, ◌↔◌, ◌⊎◌, List, [], ◌∷◌, length, take, get_or}
use Rattle.std.specs.Prelude.{ℕ, ◌+◌, ◌<◌, Some, None, Ok, Err}
use Rattle.laws.specs.Lists.{joined}
use Rattle.laws.specs.Refusals.{refuse}
use Rattle.health.specs.Samples.{repetition_fails, proportion_fails, fails, noted}
use Rattle.health.specs.Calls.{Answer, passed, failed, out_of_range, malformed, fresh, tested, number}
use Rattle.health.specs.declared.HealthState.{HealthState}
use Rattle.health.specs.declared.Outcome.{Outcome}

-- ---- refusals

-- 34 first, then 35, whatever the samples are, also where there is none; and the state is as it was
pub record Refuses (repetition proportion : ℕ) (s : HealthState) (samples : List ℕ) : Type 0 where
  pub by_number :
      number (tested repetition proportion s samples).answer
      ≡ refuse (out_of_range repetition || out_of_range proportion) 34 (refuse (malformed repetition proportion s) 35 0)
  pub state-stays : 0 < number (tested repetition proportion s samples).answer → (tested repetition proportion s samples).next ≡ s

abbrev pub RefusalLaw : Type 0
RefusalLaw = (repetition proportion : ℕ) (s : HealthState) (samples : List ℕ) → Refuses repetition proportion s samples

-- a refusal's number tells the answer; 0 is the number of every other answer
abbrev pub NumberTells : Type 0
NumberTells = (a b : Answer) → 0 < number a → number a ≡ number b → a ≡ b

-- ---- states

-- with cutoffs in range a fresh state is accepted; where a call was accepted, the next one on the state that it left, with the same cutoffs, is too
pub record AcceptedAgain (repetition proportion : ℕ) : Type 0 where
  pub start :
      (samples : List ℕ) → out_of_range repetition ≡ false → out_of_range proportion ≡ false →
      number (tested repetition proportion fresh samples).answer ≡ 0
  pub left :
      (s : HealthState) (samples more : List ℕ) → number (tested repetition proportion s samples).answer ≡ 0 →
      number (tested repetition proportion (tested repetition proportion s samples).next more).answer ≡ 0

-- ---- cutting the samples elsewhere

-- n samples came before
unfoldable pub later : ℕ → Answer → Answer
later n (Ok None) = passed
later n (Ok (Some f)) = failed (n + f.place) f.repetition f.proportion
later n (Err refusal) = Err refusal

-- what a call came to on n samples, and the next call on the state that it left; nothing is read after a failing sample or a refusal
unfoldable pub onward_from : ℕ → Answer → HealthState → (HealthState → Outcome) → Outcome
onward_from n (Ok None) s rest = record { answer = later n (rest s).answer; next = (rest s).next }
onward_from n (Ok (Some f)) s rest = record { answer = Ok (Some f); next = s }
onward_from n (Err refusal) s rest = record { answer = Err refusal; next = s }

-- a call for each of the parts, one after the other; places are counted from the first part's first sample
unfoldable pub in_parts : ℕ → ℕ → HealthState → List (List ℕ) → Outcome
in_parts repetition proportion s [] = tested repetition proportion s []
in_parts repetition proportion s (part ∷ parts) =
    let o = tested repetition proportion s part in
    onward_from (length part) o.answer o.next (λ t. in_parts repetition proportion t parts)

-- however the samples are cut, the answer and the state left are those of one call on all of them
abbrev pub CuttingLaw : Type 0
CuttingLaw =
    (repetition proportion : ℕ) (s : HealthState) (parts : List (List ℕ)) →
    in_parts repetition proportion s parts ≡ tested repetition proportion s (joined (λ part. part) parts)

-- ---- which sample fails

-- the sample at a place, from 0
abbrev pub sample_at : List ℕ → ℕ → ℕ
sample_at samples k = get_or samples k 0

-- the state after samples that fail neither test
unfoldable pub noted_all : HealthState → List ℕ → HealthState
noted_all s [] = s
noted_all s (x ∷ xs) = noted_all (noted s x) xs

-- the sample at a place, after those before it: whether it fails each test
abbrev pub repetition_fails_at : ℕ → HealthState → List ℕ → ℕ → Bool
repetition_fails_at cutoff s samples k = repetition_fails cutoff (noted_all s (take k samples)) (sample_at samples k)

abbrev pub proportion_fails_at : ℕ → HealthState → List ℕ → ℕ → Bool
proportion_fails_at cutoff s samples k = proportion_fails cutoff (noted_all s (take k samples)) (sample_at samples k)

-- it fails one or both
abbrev pub fails_at : ℕ → ℕ → HealthState → List ℕ → ℕ → Bool
fails_at repetition proportion s samples k = fails repetition proportion (noted_all s (take k samples)) (sample_at samples k)

-- no sample fails
abbrev pub NoneFails : ℕ → ℕ → HealthState → List ℕ → Type 0
NoneFails repetition proportion s samples = (k : ℕ) → k < length samples → fails_at repetition proportion s samples k ≡ false

-- sample k is the first that fails
pub record IsFirst (repetition proportion : ℕ) (s : HealthState) (samples : List ℕ) (k : ℕ) : Type 0 where
  pub inside : k < length samples
  pub before : (j : ℕ) → j < k → fails_at repetition proportion s samples j ≡ false
  pub here : fails_at repetition proportion s samples k ≡ true

-- a call that is not refused: of its samples none fails, or one is the first that does. It passes exactly in the first case, and leaves the state
-- after all; it fails at place k exactly where sample k is the first, by the tests that this sample fails, and leaves a fresh state
pub record FirstFailure (repetition proportion : ℕ) (s : HealthState) (samples : List ℕ) : Type 0 where
  pub either : NoneFails repetition proportion s samples ⊎ ((k : ℕ) × IsFirst repetition proportion s samples k)
  pub passes :
      (tested repetition proportion s samples ≡ record { answer = passed; next = noted_all s samples })
      ↔ NoneFails repetition proportion s samples
  pub fails :
      (k : ℕ) (by_repetition by_proportion : Bool) →
      (tested repetition proportion s samples ≡ record { answer = failed k by_repetition by_proportion; next = fresh })
      ↔ (IsFirst repetition proportion s samples k
      × (by_repetition ≡ repetition_fails_at repetition s samples k)
      × (by_proportion ≡ proportion_fails_at proportion s samples k))

abbrev pub FirstFailureLaw : Type 0
FirstFailureLaw =
    (repetition proportion : ℕ) (s : HealthState) (samples : List ℕ) →
    number (tested repetition proportion s samples).answer ≡ 0 → FirstFailure repetition proportion s samples
