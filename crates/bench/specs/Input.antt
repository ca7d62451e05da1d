-- An input cut into lines, what it prints, and the same where it comes in chunks of any size.
-- Assumes nothing.
use Rattle.std.specs.Prelude.{◌≡◌, Bool, false, cond, ◌||◌, List, [], ◌∷◌, ◌++◌, ℕ, zero, suc, ◌+◌, ◌≤◌, eqb, length, take, drop}
use Rattle.laws.specs.Lists.{overwrite}
use Rattle.pools.specs.State.{fresh}
use Rattle.pools.specs.declared.Fortuna.{Fortuna}
use Rattle.bench.specs.Frames.{max_wide_line}
use Rattle.bench.specs.Buffers.{zeros, appended, held_after}
use Rattle.bench.specs.Lines.{line_feed, line_of}
use Rattle.bench.specs.declared.input.Session.{Session}
use Rattle.bench.specs.declared.input.StepOutcome.{StepOutcome}

-- ---- lines

-- the line that the end of the input ends, if it has a character
unfoldable pub final_line : List ℕ → List (List ℕ)
final_line [] = []
final_line (c ∷ line) = (c ∷ line) ∷ []

-- the lines of an input whose first line began with `sofar`
unfoldable pub lines_following : List ℕ → List ℕ → List (List ℕ)
lines_following sofar [] = final_line sofar
lines_following sofar (c ∷ input) =
    cond (eqb c line_feed) (sofar ∷ lines_following [] input) (lines_following (sofar ++ (c ∷ [])) input)

-- the lines of an input: each is ended by a line feed, the last one by the end of the input too
unfoldable pub lines : List ℕ → List (List ℕ)
lines input = lines_following [] input

-- what lines print, each on the state that the last one left
unfoldable pub printed_from : Fortuna → List (List ℕ) → List ℕ
printed_from s [] = []
printed_from s (text ∷ rest) = (line_of s text).printed ++ printed_from (line_of s text).next rest

-- what a whole input prints, from the fresh state
unfoldable pub transcript : List ℕ → List ℕ
transcript input = printed_from fresh (lines input)

-- ---- chunks

-- the characters before the first line feed, or all
unfoldable pub first_line : List ℕ → List ℕ
first_line [] = []
first_line (c ∷ rest) = cond (eqb c line_feed) [] (c ∷ first_line rest)

-- whether there is a line feed
unfoldable pub has_line_feed : List ℕ → Bool
has_line_feed [] = false
has_line_feed (c ∷ rest) = eqb c line_feed || has_line_feed rest

-- how many characters the first line takes, its line feed included
unfoldable pub used_by : List ℕ → ℕ
used_by rest = length (first_line rest) + cond (has_line_feed rest) 1 0

-- room for a line that is too long to be a frame of any kind
abbrev pub line_buffer : ℕ
line_buffer = max_wide_line + 1

-- the line so far
unfoldable pub held_line : Session → List ℕ
held_line x = take x.held x.text

-- with more characters of the line; what does not fit is left out
unfoldable pub extended : Session → List ℕ → Session
extended x more =
    record { state = x.state; text = appended x.text x.held more; held = held_after x.text x.held more }

-- with the line carried out, and none begun
unfoldable pub ended : Session → Session
ended x = record { state = (line_of x.state (held_line x)).next; text = x.text; held = 0 }

-- a step over what is left of a chunk: it takes the first line, and carries the line so far out if a line feed ends it
unfoldable pub step_session : Session → List ℕ → Session
step_session x rest =
    let y = extended x (first_line rest) in
    cond (has_line_feed rest) (ended y) y

-- what the step prints
unfoldable pub step_printed : Session → List ℕ → List ℕ
step_printed x rest =
    let y = extended x (first_line rest) in
    cond (has_line_feed rest) (line_of y.state (held_line y)).printed []

-- what the end of the input prints
unfoldable pub finish_printed : Session → List ℕ
finish_printed x = printed_from x.state (final_line (held_line x))

-- the steps over a chunk, until nothing is left of it, at most n: the session that they leave, and what they print
unfoldable pub chunk_session : ℕ → Session → List ℕ → Session
chunk_session zero x rest = x
chunk_session (suc n) x rest =
    cond (eqb (length rest) 0) x (chunk_session n (step_session x rest) (drop (used_by rest) rest))

unfoldable pub chunk_printed : ℕ → Session → List ℕ → List ℕ
chunk_printed zero x rest = []
chunk_printed (suc n) x rest =
    cond (eqb (length rest) 0) [] (step_printed x rest ++ chunk_printed n (step_session x rest) (drop (used_by rest) rest))

-- what chunks print, one after the other, and then the end of the input. A step uses a character or more, so that a chunk is used up
-- within as many steps as it has characters
unfoldable pub chunks_printed : Session → List (List ℕ) → List ℕ
chunks_printed x [] = finish_printed x
chunks_printed x (chunk ∷ chunks) =
    chunk_printed (length chunk) x chunk ++ chunks_printed (chunk_session (length chunk) x chunk) chunks

-- before the first chunk: the fresh state, and no line begun
unfoldable pub start : Session
start = record { state = fresh; text = zeros line_buffer; held = 0 }

-- ---- what the code promises

-- a function makes a step: it leaves the next session, and returns how many characters it used, and how many it wrote at the front of the
-- output, where they fit
pub record Steps (x : Session) (rest : List ℕ) (r : StepOutcome) (y : Session) (before after : List ℕ) : Type 0 where
  pub next : y ≡ step_session x rest
  pub used : r.used ≡ used_by rest
  pub written : r.written ≡ length (step_printed x rest)
  pub fits : length (step_printed x rest) ≤ length before
  pub shown : after ≡ overwrite before (step_printed x rest)

-- a function prints the end of the input, and returns how many characters it wrote
pub record Finishes (x : Session) (r : ℕ) (before after : List ℕ) : Type 0 where
  pub written : r ≡ length (finish_printed x)
  pub fits : length (finish_printed x) ≤ length before
  pub shown : after ≡ overwrite before (finish_printed x)
