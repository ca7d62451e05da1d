-- What a call of the health tests leaves with C.
-- Assumes nothing.
use Rattle.std.specs.Prelude.{◌≡◌, Bool, false, ℕ, Some, None, Ok, Err}
use Rattle.health.specs.Calls.{Answer, number}
use Rattle.health.specs.declared.HealthState.{HealthState}
use Rattle.health.specs.declared.Outcome.{Outcome}
use Rattle.fortuna_c.specs.declared.health_tests.FortunaHealthAnswer.{FortunaHealthAnswer}

-- the place of the sample that failed, 0 where none did
unfoldable pub place_of : Answer → ℕ
place_of (Ok None) = 0
place_of (Ok (Some failure)) = failure.place
place_of (Err refusal) = 0

-- whether it failed the repetition count test, and the adaptive proportion test
unfoldable pub repetition_of : Answer → Bool
repetition_of (Ok None) = false
repetition_of (Ok (Some failure)) = failure.repetition
repetition_of (Err refusal) = false

unfoldable pub proportion_of : Answer → Bool
proportion_of (Ok None) = false
proportion_of (Ok (Some failure)) = failure.proportion
proportion_of (Err refusal) = false

-- the four fields of an answer
abbrev pub Tells : Answer → FortunaHealthAnswer → Type 0
Tells a r = (r.number ≡ number a) × (r.repetition ≡ repetition_of a) × (r.proportion ≡ proportion_of a) × (r.place ≡ place_of a)

-- and the state that is left
abbrev pub LeavesTested : Outcome → FortunaHealthAnswer → HealthState → Type 0
LeavesTested o r s = Tells o.answer r × (s ≡ o.next)
