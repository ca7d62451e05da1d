-- One sample after the other: the repetition count test (SP 800-90B, 4.4.1) and the adaptive proportion test (4.4.2), whose A and B the state
-- keeps. Both are looked at for each sample.
-- Assumes nothing.
use Rattle.std.specs.Prelude.{Bool, cond, ◌||◌, List, [], ◌∷◌, ℕ, suc, ◌+◌, eqb, leb, Result, Ok, Err}
use Rattle.health.specs.declared.HealthState.{HealthState}
use Rattle.health.specs.declared.Failure.{Failure}

-- W, the samples of a window
abbrev pub window_size : ℕ
window_size = 512

-- ---- 4.4.1: A is the last sample, B how often it has come in a row

-- B after a sample: one more where it is A, else 1; of no sample yet, A and B are 0
unfoldable pub run_after : HealthState → ℕ → ℕ
run_after s x = cond (eqb x s.last) (s.run + 1) 1

-- it fails where B comes to the cutoff
unfoldable pub repetition_fails : ℕ → HealthState → ℕ → Bool
repetition_fails cutoff s x = leb cutoff (run_after s x)

-- ---- 4.4.2: A is the window's first sample, B how often it has come there

-- A after a sample: the sample itself where the window has none yet
unfoldable pub first_after : HealthState → ℕ → ℕ
first_after s x = cond (eqb s.seen 0) x s.first

-- B after a sample: 1 for the window's first, else one more where it is A
unfoldable pub count_after : HealthState → ℕ → ℕ
count_after s x = cond (eqb s.seen 0) 1 (cond (eqb x s.first) (s.count + 1) s.count)

-- it fails where B comes to the cutoff
unfoldable pub proportion_fails : ℕ → HealthState → ℕ → Bool
proportion_fails cutoff s x = leb cutoff (count_after s x)

-- ---- both

-- a sample fails one of them or both
abbrev pub fails : ℕ → ℕ → HealthState → ℕ → Bool
fails repetition proportion s x = repetition_fails repetition s x || proportion_fails proportion s x

-- the state after a sample that fails neither; a full window sets its three fields to 0
unfoldable pub noted : HealthState → ℕ → HealthState
noted s x =
    cond (eqb (s.seen + 1) window_size)
    (record { last = x; run = run_after s x; first = 0; count = 0; seen = 0 })
    (record { last = x; run = run_after s x; first = first_after s x; count = count_after s x; seen = s.seen + 1 })

-- a sample that fails, by its place, and whether it fails each test
abbrev pub failure : ℕ → Bool → Bool → Failure
failure place by_repetition by_proportion = record { place = place; repetition = by_repetition; proportion = by_proportion }

-- what the samples from a place on come to: the state left, or the first sample that fails
unfoldable pub test_from : ℕ → ℕ → ℕ → HealthState → List ℕ → Result HealthState Failure
test_from repetition proportion place s [] = Ok s
test_from repetition proportion place s (x ∷ xs) =
    cond (fails repetition proportion s x)
    (Err (failure place (repetition_fails repetition s x) (proportion_fails proportion s x)))
    (test_from repetition proportion (suc place) (noted s x) xs)
