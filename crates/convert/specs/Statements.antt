-- What is proved of conversions, beside the code.
-- Assumes nothing.
use Rattle.std.specs.Prelude.{◌≡◌, Bool, true, false, List, [], ◌∷◌, ◌++◌, map, ◌↔◌, ◌⊎◌, ℕ, ◌+◌, ◌-◌, ◌*◌, ◌≤◌, ◌<◌, length, take, get_or, Option, Some, None, Result}
use Rattle.laws.specs.Lists.{joined}
use Rattle.laws.specs.Refusals.{number_of}
use Rattle.bench.specs.Frames.{max_wide_line, frame_of_text}
use Rattle.bench.specs.Lines.{line_feed, line_call}
use Rattle.bench.specs.Input.{lines, has_line_feed, transcript}
use Rattle.bench.specs.declared.frame.Frame.{Frame}
use Rattle.bench.specs.declared.frame.Frame.TheVariants.{Event, WideEvent}
use Rattle.convert.specs.Texts.{max_narrow_source, is_wanted, text_number, converted}
use Rattle.convert.specs.Logs.{Line, line_with, end_of, whole_line, log_lines, converted_line, written_of, refusal_of, all_written, conversion}
use Rattle.convert.specs.Pieces.{in_pieces}
use Rattle.convert.specs.Promises.{number, refused_code, refused_line}
use Rattle.convert.specs.declared.outcome.Refused.{Refused}
use Rattle.convert.specs.declared.refusal.Refusal.{Refusal}

-- an answer's number tells the answer
abbrev pub NumberInjective : Type 0
NumberInjective = (a b : Result Unit Refusal) → number a ≡ number b → a ≡ b

-- and a conversion's number and line tell its answer
abbrev pub AnswerTold : Type 0
AnswerTold = (a b : Result Unit Refused) → number_of refused_code a ≡ number_of refused_code b → refused_line a ≡ refused_line b → a ≡ b

-- ---- a line

pub record LineLaw (text : List ℕ) : Type 0 where
  -- frame 01 becomes 05 of the same source and pool
  pub wider :
      (source pool : ℕ) → frame_of_text text ≡ Some (Event source pool) →
      (text_number true text ≡ 0) × (frame_of_text (converted true text) ≡ Some (WideEvent source pool))
  -- frame 05 becomes 01 of the same source and pool, if its source is at most 255
  pub narrower :
      (source pool : ℕ) → frame_of_text text ≡ Some (WideEvent source pool) → source ≤ max_narrow_source →
      (text_number false text ≡ 0) × (frame_of_text (converted false text) ≡ Some (Event source pool))
  -- a frame of the wanted kind stays as it is
  pub unchanged :
      (wide : Bool) → is_wanted wide (frame_of_text text) ≡ true → (text_number wide text ≡ 0) × (converted wide text ≡ text)
  -- what is not refused becomes a frame of the wanted kind, and makes the call that it made
  pub wanted : (wide : Bool) → text_number wide text ≡ 0 → is_wanted wide (frame_of_text (converted wide text)) ≡ true
  pub same_call : (wide : Bool) → text_number wide text ≡ 0 → line_call (converted wide text) ≡ line_call text
  -- an 01 to 05 to 01 trip restores the line, and so does one from 05 to 01 to 05, if its source is at most 255
  pub trip :
      (source pool : ℕ) → frame_of_text text ≡ Some (Event source pool) →
      (text_number false (converted true text) ≡ 0) × (converted false (converted true text) ≡ text)
  pub trip_back :
      (source pool : ℕ) → frame_of_text text ≡ Some (WideEvent source pool) → source ≤ max_narrow_source →
      (text_number true (converted false text) ≡ 0) × (converted true (converted false text) ≡ text)

abbrev pub LineLaws : Type 0
LineLaws = (text : List ℕ) → LineLaw text

-- an event whose source frame 01 can't carry, where 01 is wanted
abbrev pub TooLarge : Bool → Option Frame → Type 0
TooLarge wide f = (wide ≡ false) × (source : ℕ) × (pool : ℕ) × (f ≡ Some (WideEvent source pool)) × (max_narrow_source < source)

-- 16 before 43 before 46: which line is refused by which number, into so much room
pub record OrderLaw (wide : Bool) (room : ℕ) (l : Line) : Type 0 where
  pub stray : (refusal_of wide room l ≡ 16) ↔ (frame_of_text l.text ≡ None)
  pub large_source : (refusal_of wide room l ≡ 43) ↔ TooLarge wide (frame_of_text l.text)
  pub no_room :
      (refusal_of wide room l ≡ 46)
      ↔ ((text_number wide l.text ≡ 0) × (room < length (converted wide l.text) + length (end_of l.ended)))
  pub else :
      (refusal_of wide room l ≡ 16 → ⊥) → (refusal_of wide room l ≡ 43 → ⊥) → (refusal_of wide room l ≡ 46 → ⊥) →
      refusal_of wide room l ≡ 0

abbrev pub OrderLaws : Type 0
OrderLaws = (wide : Bool) (room : ℕ) (l : Line) → OrderLaw wide room l

-- ---- a log

-- its lines are the bench's, and with their ends they are the log
pub record LogLines (log : List ℕ) : Type 0 where
  pub texts : map (λ l. l.text) (log_lines log) ≡ lines log
  pub whole : joined whole_line (log_lines log) ≡ log

abbrev pub LogLinesLaw : Type 0
LogLinesLaw = (log : List ℕ) → LogLines log

-- what the first k lines become
abbrev pub first_written : Bool → ℕ → List ℕ → List ℕ
first_written wide k log = joined (written_of wide) (take k (log_lines log))

-- past the last line of a log
abbrev pub absent_line : Line
absent_line = line_with [] false

-- what a log's line at place k, from 0, is refused by, with the room that the lines before it leave
abbrev pub refusal_at : Bool → ℕ → List ℕ → ℕ → ℕ
refusal_at wide room log k = refusal_of wide (room - length (first_written wide k log)) (get_or (log_lines log) k absent_line)

-- every line is accepted and written
pub record Finished (wide : Bool) (room : ℕ) (log : List ℕ) : Type 0 where
  pub passed : (j : ℕ) → j < length (log_lines log) → refusal_at wide room log j ≡ 0
  pub line : (conversion wide room log).line ≡ 0
  pub written : (conversion wide room log).written ≡ joined (written_of wide) (log_lines log)

-- the first refused line stands at place k: those before it are accepted and written, and nothing more is; it is line k + 1
pub record Stopped (wide : Bool) (room : ℕ) (log : List ℕ) : Type 0 where
  pub k : ℕ
  pub inside : k < length (log_lines log)
  pub passed : (j : ℕ) → j < k → refusal_at wide room log j ≡ 0
  pub refused : refusal_at wide room log k ≡ (conversion wide room log).number
  pub line : (conversion wide room log).line ≡ k + 1
  pub written : (conversion wide room log).written ≡ first_written wide k log

pub record FirstRefused (wide : Bool) (room : ℕ) (log : List ℕ) : Type 0 where
  pub fits : length (conversion wide room log).written ≤ room
  pub all : (conversion wide room log).number ≡ 0 → Finished wide room log
  pub stopped : ((conversion wide room log).number ≡ 0 → ⊥) → Stopped wide room log

abbrev pub FirstRefusedLaw : Type 0
FirstRefusedLaw = (wide : Bool) (room : ℕ) (log : List ℕ) → FirstRefused wide room log

-- the lines of a whole conversion are the log's lines converted, each with its own end
abbrev pub SameEnds : Type 0
SameEnds =
    (wide : Bool) (room : ℕ) (log : List ℕ) → (conversion wide room log).number ≡ 0 →
    log_lines (conversion wide room log).written ≡ map (converted_line wide) (log_lines log)

-- running a log and its whole conversion gives equal answers
abbrev pub SameAnswers : Type 0
SameAnswers =
    (wide : Bool) (room : ℕ) (log : List ℕ) → (conversion wide room log).number ≡ 0 →
    transcript (conversion wide room log).written ≡ transcript log

-- every line of a log is a frame of the wanted kind
abbrev pub AllWanted : Bool → List ℕ → Type 0
AllWanted wide log = (k : ℕ) → k < length (lines log) → is_wanted wide (frame_of_text (get_or (lines log) k [])) ≡ true

-- only lines of the wanted kind are written, also before a refused line
abbrev pub OnlyWanted : Type 0
OnlyWanted = (wide : Bool) (room : ℕ) (log : List ℕ) → AllWanted wide (conversion wide room log).written

-- a log of the wanted kind passes unchanged
abbrev pub Unchanged : Type 0
Unchanged =
    (wide : Bool) (room : ℕ) (log : List ℕ) → AllWanted wide log → length log ≤ room →
    conversion wide room log ≡ all_written log

-- a log of frames, none of them 05: an 01 to 05 to 01 trip restores it, where there is enough room
abbrev pub Trip : Type 0
Trip =
    (there back : ℕ) (log : List ℕ) → AllWanted false log → 4 * length log ≤ 3 * there → length log ≤ back →
    ((conversion true there log).number ≡ 0) × (conversion false back (conversion true there log).written ≡ all_written log)

-- room that is always enough: to 01 the log's own length, and to 05 four thirds of it
pub record EnoughRoom (room : ℕ) (log : List ℕ) : Type 0 where
  pub narrow : length log ≤ room → (conversion false room log).number ≡ 46 → ⊥
  pub wide : 4 * length log ≤ 3 * room → (conversion true room log).number ≡ 46 → ⊥

abbrev pub EnoughRoomLaw : Type 0
EnoughRoomLaw = (room : ℕ) (log : List ℕ) → EnoughRoom room log

-- every piece but the last is empty or ends with a line feed
abbrev pub CutAfterLines : List (List ℕ) → Type 0
CutAfterLines pieces =
    (k : ℕ) → k + 1 < length pieces → (get_or pieces k [] ≡ []) ⊎ ((before : List ℕ) × (get_or pieces k [] ≡ before ++ (line_feed ∷ [])))

-- a log may be cut after its lines into pieces of any sizes: converted one by one, where each has enough room, they come to what the whole log comes
-- to in any room that takes what is written
abbrev pub PiecesLaw : Type 0
PiecesLaw =
    (wide : Bool) (room whole : ℕ) (pieces : List (List ℕ)) → CutAfterLines pieces →
    let c = in_pieces wide room 0 pieces in
    (c.number ≡ 46 → ⊥) → length c.written ≤ whole → conversion wide whole (joined (λ piece. piece) pieces) ≡ c

-- a piece that begins with more characters than any frame has and no line feed comes to 16 at its line 1, whatever follows: so the last piece may
-- be cut there
abbrev pub LongLineLaw : Type 0
LongLineLaw =
    (wide : Bool) (room : ℕ) (text rest : List ℕ) → has_line_feed text ≡ false → max_wide_line < length text →
    conversion wide room (text ++ rest) ≡ record { written = []; number = 16; line = 1 }
