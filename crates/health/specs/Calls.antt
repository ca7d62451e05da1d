-- A call of the tests: what it refuses, and what it comes to.
-- Assumes nothing.
use Rattle.std.specs.Prelude.{Bool, false, cond, not, ◌&&◌, ◌||◌, List, [], ◌∷◌, ℕ, ◌<◌, eqb, ltb, leb, Option, Some, None, Result, Ok, Err}
use Rattle.std.proofs.Common.{lit<}
use Rattle.laws.specs.Refusals.{number_of}
use Rattle.health.specs.Samples.{window_size, failure, test_from}
use Rattle.health.specs.declared.HealthState.{HealthState}
use Rattle.health.specs.declared.Outcome.{Outcome}
use Rattle.health.specs.declared.Failure.{Failure}
use Rattle.health.specs.declared.refusals.Refusal.{Refusal}
use Rattle.health.specs.declared.refusals.Refusal.TheVariants.{CutoffRange, Malformed}

-- ---- refusals

-- 34: a cutoff below 2 or above 512
abbrev pub out_of_range : ℕ → Bool
out_of_range cutoff = ltb cutoff 2 || ltb window_size cutoff

-- one of these holds
abbrev pub any_of : List Bool → Bool
any_of [] = false
any_of (t ∷ ts) = t || any_of ts

-- 35: run length at or above its cutoff; count at or above its cutoff; count above the samples seen; 512 or more seen; some seen but count or
-- run length 0; none seen but the first sample not 0; run length 0 but the last sample not 0
unfoldable pub malformed : ℕ → ℕ → HealthState → Bool
malformed repetition proportion s =
    any_of
    (leb repetition s.run
    ∷ leb proportion s.count
    ∷ ltb s.seen s.count
    ∷ leb window_size s.seen
    ∷ (ltb 0 s.seen && (eqb s.count 0 || eqb s.run 0))
    ∷ (eqb s.seen 0 && not (eqb s.first 0))
    ∷ (eqb s.run 0 && not (eqb s.last 0))
    ∷ [])

-- the cutoffs are looked at first, then the state
abbrev pub checked : ℕ → ℕ → HealthState → Result Unit Refusal
checked repetition proportion s =
    cond (out_of_range repetition || out_of_range proportion) (Err CutoffRange)
    (cond (malformed repetition proportion s) (Err Malformed)
    (Ok tt))

-- ---- the call

-- no failure where every sample passed; the first that failed; a refusal
abbrev pub Answer : Type 0
Answer = Result (Option Failure) Refusal

abbrev pub passed : Answer
passed = Ok None

abbrev pub failed : ℕ → Bool → Bool → Answer
failed place by_repetition by_proportion = Ok (Some (failure place by_repetition by_proportion))

-- a fresh state is all 0
unfoldable pub fresh : HealthState
fresh = record { last = 0; run = 0; first = 0; count = 0; seen = 0 }

-- the first failing sample ends the run, and the state is fresh again
abbrev pub failed_at : ℕ → Bool → Bool → Outcome
failed_at place by_repetition by_proportion = record { answer = failed place by_repetition by_proportion; next = fresh }

-- where every sample passes, the state carries over
unfoldable pub outcome_of : Result HealthState Failure → Outcome
outcome_of (Ok next) = record { answer = passed; next = next }
outcome_of (Err f) = failed_at f.place f.repetition f.proportion

-- the cutoffs are looked at first, then the state; a refusal leaves the state as it was
unfoldable pub tested : ℕ → ℕ → HealthState → List ℕ → Outcome
tested repetition proportion s samples =
    cond (out_of_range repetition || out_of_range proportion) (record { answer = Err CutoffRange; next = s })
    (cond (malformed repetition proportion s) (record { answer = Err Malformed; next = s })
    (outcome_of (test_from repetition proportion 0 s samples)))

-- 02's number of a refusal, never 0
abbrev pub code : Refusal → ℕ
code CutoffRange = 34
code Malformed = 35

pub code-above-0 : (refusal : Refusal) → 0 < code refusal
code-above-0 CutoffRange = lit< tt
code-above-0 Malformed = lit< tt

-- 02's number of an answer, 0 where the samples were tested
abbrev pub number : Answer → ℕ
number = number_of code
