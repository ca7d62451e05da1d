-- What a log prints by the reference model alone: the calls of its lines are one list, and the model works out its run.
-- Assumes nothing.
use Rattle.std.specs.Prelude.{List, [], ◌∷◌, ◌++◌, map, ℕ, Option, Some, None}
use Rattle.pools.specs.Calls.{Call, Outcome}
use Rattle.quotas.specs.Entries.{Entry, without, taking}
use Rattle.reference.specs.Reference.{reference_run}
use Rattle.bench.specs.Lines.{line_call, no_frame, number_line, outcome_line}
use Rattle.bench.specs.Input.{lines}

-- each line's call
unfoldable pub line_calls : List ℕ → List (Option Call)
line_calls input = map line_call (lines input)

-- the calls that are made, in order
unfoldable pub made : List (Option Call) → List Call
made [] = []
made (None ∷ rest) = made rest
made (Some c ∷ rest) = c ∷ made rest

-- what lines print, by the outcomes of their calls in order; the third case does not come up, as each call has its outcome
unfoldable pub answers : {S : Type 0} → List (Option Call) → List (Outcome S) → List ℕ
answers [] outcomes = []
answers (None ∷ rest) outcomes = number_line no_frame ++ answers rest outcomes
answers (Some c ∷ rest) [] = []
answers (Some c ∷ rest) (o ∷ outcomes) = outcome_line c o ++ answers rest outcomes

-- a log's calls, none of which takes a list of quotas
unfoldable pub log_calls : List ℕ → List Entry
log_calls input = map (taking without) (made (line_calls input))

-- what a whole input prints, from the model's run
unfoldable pub model_transcript : List ℕ → List ℕ
model_transcript input = answers (line_calls input) (reference_run (log_calls input))
