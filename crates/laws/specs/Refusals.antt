-- Refusals by number: a chain of tests in order, and what a refused call leaves.
-- Assumes nothing.
use Rattle.std.specs.Prelude.{Bool, cond, ℕ, eqb, Result, Ok, Err}

-- the number n where the test holds, else what the tests after it say; a chain ends in 0, accepted
abbrev pub refuse : Bool → ℕ → ℕ → ℕ
refuse t n rest = cond t n rest

-- the effect of a call whose number is n: `after` where it is accepted, `before` where it is refused
abbrev pub guarded : {A : Type 0} → ℕ → A → A → A
guarded n after before = cond (eqb n 0) after before

-- the number of an answer: 0 where the call was done, else the code of the reason to refuse it
abbrev pub number_of : {T R : Type 0} → (R → ℕ) → Result T R → ℕ
number_of code (Ok x) = 0
number_of code (Err refusal) = code refusal
