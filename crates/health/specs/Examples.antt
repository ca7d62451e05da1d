-- Rows worked out by the definitions: the bounds of the two refusals and of each clause of 35, and where samples fail.
-- Assumes nothing.
use Rattle.std.specs.Prelude.{◌≡◌, true, false, List, [], ◌∷◌, ◌++◌, map, ℕ, replicate, take, Err}
use Rattle.laws.specs.Lists.{joined}
use Rattle.health.specs.Calls.{passed, failed, fresh, tested, number}
use Rattle.health.specs.Closed.{run_ending_at, window_start, count_at, state_after}
use Rattle.health.specs.declared.HealthState.{HealthState}
use Rattle.health.specs.declared.refusals.Refusal.TheVariants.{CutoffRange, Malformed}

-- last, run length; the window's first, count, samples seen
abbrev pub state : ℕ → ℕ → ℕ → ℕ → ℕ → HealthState
state last run first count seen = record { last = last; run = run; first = first; count = count; seen = seen }

-- the number of a call with no sample, of a state and of two cutoffs
abbrev pub number_of : HealthState → ℕ → ℕ → ℕ
number_of s repetition proportion = number (tested repetition proportion s []).answer

-- 34: each cutoff at 0, 1, 2, 512 and 513, with no sample
abbrev pub RangeRow : Type 0
RangeRow =
    (map (λ c. number_of fresh c 2) (0 ∷ 1 ∷ 2 ∷ 512 ∷ 513 ∷ []) ≡ 34 ∷ 34 ∷ 0 ∷ 0 ∷ 34 ∷ [])
    × (map (λ c. number_of fresh 2 c) (0 ∷ 1 ∷ 2 ∷ 512 ∷ 513 ∷ []) ≡ 34 ∷ 34 ∷ 0 ∷ 0 ∷ 34 ∷ [])

-- 34 is looked at before 35, for either cutoff, and both before any sample, with none and with two that would fail; a refusal leaves the state
abbrev pub OrderRow : Type 0
OrderRow =
    (map (λ c. number_of (state 0 0 0 0 512) c 2) (1 ∷ 2 ∷ []) ≡ 34 ∷ 35 ∷ [])
    × (map (λ c. number_of (state 0 0 0 0 512) 2 c) (513 ∷ 512 ∷ []) ≡ 34 ∷ 35 ∷ [])
    × (tested 1 2 (state 0 0 0 0 512) (7 ∷ 7 ∷ []) ≡ record { answer = Err CutoffRange; next = state 0 0 0 0 512 })
    × (tested 2 2 (state 0 0 0 0 512) (7 ∷ 7 ∷ []) ≡ record { answer = Err Malformed; next = state 0 0 0 0 512 })
    × (tested 2 513 (state 7 1 7 1 1) (7 ∷ 7 ∷ []) ≡ record { answer = Err CutoffRange; next = state 7 1 7 1 1 })

-- 35, with cutoffs 5 and 4, each clause beside a state that is accepted: run length 5 and 4; count 4 and 3; count 3 of 2 and of 3; 512 and 511 seen;
-- some seen with count 0, with run length 0, and with neither; none seen with first 7 and with first 0; run length 0 with last 7 and with last 0
abbrev pub ClausesRow : Type 0
ClausesRow =
    map (λ s. number_of s 5 4)
    (state 7 5 7 1 9 ∷ state 7 4 7 1 9 ∷ state 7 1 7 4 9 ∷ state 7 1 7 3 9 ∷ state 7 1 7 3 2 ∷ state 7 1 7 3 3
    ∷ state 7 1 7 1 512 ∷ state 7 1 7 1 511
    ∷ state 7 1 7 0 9 ∷ state 0 0 7 1 9 ∷ state 7 1 7 1 9 ∷ state 7 1 7 0 0 ∷ state 7 1 0 0 0 ∷ state 7 0 0 0 0 ∷ state 0 0 0 0 0 ∷ [])
    ≡ 35 ∷ 0 ∷ 35 ∷ 0 ∷ 35 ∷ 0 ∷ 35 ∷ 0 ∷ 35 ∷ 35 ∷ 0 ∷ 35 ∷ 0 ∷ 35 ∷ 0 ∷ []

-- the third equal sample in a row at cutoff 3, the third in the window at cutoff 3, both at one sample; the samples behind it are not read, the
-- state is fresh again, and it is no refusal
abbrev pub FailingRow : Type 0
FailingRow =
    (tested 3 512 fresh (5 ∷ 4 ∷ 4 ∷ 4 ∷ 4 ∷ []) ≡ record { answer = failed 3 true false; next = fresh })
    × (tested 512 3 fresh (7 ∷ 1 ∷ 7 ∷ 2 ∷ 7 ∷ 7 ∷ []) ≡ record { answer = failed 4 false true; next = fresh })
    × (tested 2 2 fresh (7 ∷ 7 ∷ []) ≡ record { answer = failed 1 true true; next = fresh })
    × (number (tested 2 2 fresh (7 ∷ 7 ∷ [])).answer ≡ 0)

-- one sample less passes, and the state carries over: the call on what is left fails at its first sample
abbrev pub CarriedRow : Type 0
CarriedRow =
    (tested 3 512 fresh (5 ∷ 4 ∷ 4 ∷ []) ≡ record { answer = passed; next = state 4 2 5 1 3 })
    × (tested 3 512 (state 4 2 5 1 3) (4 ∷ []) ≡ record { answer = failed 0 true false; next = fresh })
    × (tested 512 3 fresh (7 ∷ 1 ∷ 7 ∷ 2 ∷ []) ≡ record { answer = passed; next = state 2 1 7 2 4 })
    × (tested 512 3 (state 2 1 7 2 4) (7 ∷ []) ≡ record { answer = failed 0 false true; next = fresh })

-- samples of 0 count as any other: the first of all, the first of a window
abbrev pub ZerosRow : Type 0
ZerosRow =
    (tested 3 3 fresh (0 ∷ []) ≡ record { answer = passed; next = state 0 1 0 1 1 })
    × (tested 3 3 fresh (0 ∷ 0 ∷ []) ≡ record { answer = passed; next = state 0 2 0 2 2 })
    × (tested 3 512 fresh (0 ∷ 0 ∷ 0 ∷ []) ≡ record { answer = failed 2 true false; next = fresh })
    × (tested 3 3 (state 4 1 0 0 0) (0 ∷ 4 ∷ 0 ∷ []) ≡ record { answer = passed; next = state 0 1 0 2 3 })

-- the 512th sample closes the window, whose fields are 0 again, and the run goes on across it, so that it may be longer than the next window; where
-- that sample fails, it fails before
abbrev pub WindowRow : Type 0
WindowRow =
    (tested 9 9 (state 4 1 7 3 510) (4 ∷ []) ≡ record { answer = passed; next = state 4 2 7 3 511 })
    × (tested 9 9 (state 4 1 7 3 511) (4 ∷ []) ≡ record { answer = passed; next = state 4 2 0 0 0 })
    × (tested 3 9 (state 4 1 7 3 511) (4 ∷ 4 ∷ []) ≡ record { answer = failed 1 true false; next = fresh })
    × (tested 9 4 (state 4 1 7 3 511) (7 ∷ []) ≡ record { answer = failed 0 false true; next = fresh })
    × (tested 9 4 (state 4 1 7 3 511) (4 ∷ 7 ∷ 7 ∷ []) ≡ record { answer = passed; next = state 7 2 7 2 2 })
    × (tested 9 9 (state 4 1 7 3 511) (4 ∷ 4 ∷ []) ≡ record { answer = passed; next = state 4 3 4 1 1 })
    × (tested 9 9 (state 4 3 4 1 1) (4 ∷ []) ≡ record { answer = passed; next = state 4 4 4 2 2 })

-- the highest cutoffs: 511 equal samples pass, and the 512th fails both tests, in a call with them and in one of its own
abbrev pub HighestRow : Type 0
HighestRow =
    (tested 512 512 fresh (replicate 511 9) ≡ record { answer = passed; next = state 9 511 9 511 511 })
    × (tested 512 512 fresh (replicate 513 9) ≡ record { answer = failed 511 true true; next = fresh })
    × (tested 512 512 (state 9 511 9 511 511) (9 ∷ []) ≡ record { answer = failed 0 true true; next = fresh })

-- ---- the second reading

-- where windows start; runs and counts by places
abbrev pub PlacesRow : Type 0
PlacesRow =
    (map window_start (0 ∷ 511 ∷ 512 ∷ 1023 ∷ 1024 ∷ []) ≡ 0 ∷ 0 ∷ 512 ∷ 512 ∷ 1024 ∷ [])
    × (map (run_ending_at (5 ∷ 4 ∷ 4 ∷ 4 ∷ 9 ∷ [])) (0 ∷ 1 ∷ 2 ∷ 3 ∷ 4 ∷ []) ≡ 1 ∷ 1 ∷ 2 ∷ 3 ∷ 1 ∷ [])
    × (map (count_at (7 ∷ 1 ∷ 7 ∷ 2 ∷ 7 ∷ 9 ∷ [])) (0 ∷ 1 ∷ 2 ∷ 3 ∷ 4 ∷ 5 ∷ []) ≡ 1 ∷ 1 ∷ 2 ∷ 2 ∷ 3 ∷ 3 ∷ [])

-- 514 samples: 7, 255 times 1 2, then 4 at places 511, 512 and 513
abbrev pub edge : List ℕ
edge = (7 ∷ joined (λ (n : ℕ). 1 ∷ 2 ∷ []) (replicate 255 0)) ++ (4 ∷ 4 ∷ 4 ∷ [])

-- the run of 4 goes on from place 511, the last of the first window, and the count starts again at place 512: by places, by the state there, by
-- calls on 511, 512 and 513 of them, and by calls that fail one test, the other, both, and neither
abbrev pub EdgeRow : Type 0
EdgeRow =
    (map (run_ending_at edge) (510 ∷ 511 ∷ 512 ∷ 513 ∷ []) ≡ 1 ∷ 1 ∷ 2 ∷ 3 ∷ [])
    × (map (count_at edge) (510 ∷ 511 ∷ 512 ∷ 513 ∷ []) ≡ 1 ∷ 1 ∷ 1 ∷ 2 ∷ [])
    × (map (state_after edge) (0 ∷ 511 ∷ 512 ∷ 513 ∷ []) ≡ fresh ∷ state 2 1 7 1 511 ∷ state 4 1 0 0 0 ∷ state 4 2 4 1 1 ∷ [])
    × (map (λ n. (tested 3 3 fresh (take n edge)).next) (511 ∷ 512 ∷ 513 ∷ []) ≡ state 2 1 7 1 511 ∷ state 4 1 0 0 0 ∷ state 4 2 4 1 1 ∷ [])
    × (tested 3 3 fresh edge ≡ record { answer = failed 513 true false; next = fresh })
    × (tested 4 2 fresh edge ≡ record { answer = failed 513 false true; next = fresh })
    × (tested 3 2 fresh edge ≡ record { answer = failed 513 true true; next = fresh })
    × (tested 4 3 fresh edge ≡ record { answer = passed; next = state 4 3 4 2 2 })

pub record Examples : Type 0 where
  pub range : RangeRow
  pub order : OrderRow
  pub clauses : ClausesRow
  pub failing : FailingRow
  pub carried : CarriedRow
  pub zeros : ZerosRow
  pub window : WindowRow
  pub highest : HighestRow
  pub places : PlacesRow
  pub edges : EdgeRow
