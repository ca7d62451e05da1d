-- What the code promises of a log, and of one line.
-- Assumes nothing.
use Rattle.std.specs.Prelude.{◌≡◌, Bool, cond, List, [], ◌++◌, ℕ, ◌+◌, ◌<◌, ◌≤◌, eqb, ltb, length, take, drop, Result, Ok, Err}
use Rattle.std.proofs.Common.{lit<}
use Rattle.laws.specs.Lists.{overwrite}
use Rattle.laws.specs.Refusals.{refuse, number_of}
use Rattle.bench.specs.Input.{first_line, has_line_feed, used_by}
use Rattle.convert.specs.Logs.{Line, line_with, end_of, written_of, refusal_of, Conversion}
use Rattle.convert.specs.declared.outcome.Refused.{Refused}
use Rattle.convert.specs.declared.outcome.Outcome.{Outcome}
use Rattle.convert.specs.declared.refusal.Refusal.{Refusal}
use Rattle.convert.specs.declared.refusal.Refusal.TheVariants.{NoFrame, LargeSource, NoRoom}

-- 02's number of a refusal
abbrev pub code : Refusal → ℕ
code NoFrame = 16
code LargeSource = 43
code NoRoom = 46

pub code-above-0 : (refusal : Refusal) → 0 < code refusal
code-above-0 NoFrame = lit< tt
code-above-0 LargeSource = lit< tt
code-above-0 NoRoom = lit< tt

-- of an answer, 0 where a line was converted
abbrev pub number : {T : Type 0} → Result T Refusal → ℕ
number answer = number_of code answer

-- how many bytes were written of a line, none where it was refused
abbrev pub written_bytes : Result ℕ Refusal → ℕ
written_bytes (Ok n) = n
written_bytes (Err refusal) = 0

-- the number of a refused line's refusal
abbrev pub refused_code : Refused → ℕ
refused_code refused = code refused.refusal

pub refused_code-above-0 : (refused : Refused) → 0 < refused_code refused
refused_code-above-0 refused = code-above-0 refused.refusal

-- which line was refused, 0 where every line was converted
abbrev pub refused_line : Result Unit Refused → ℕ
refused_line (Ok done) = 0
refused_line (Err refused) = refused.line

-- what a conversion came to: its number, which line was refused, how many bytes were written, and the buffer with them at its front, where they fit
pub record Gives (c : Conversion) (r : Outcome) (before after : List ℕ) : Type 0 where
  pub number_is : number_of refused_code r.answer ≡ c.number
  pub line-is : refused_line r.answer ≡ c.line
  pub written_is : r.written ≡ length c.written
  pub fits : length c.written ≤ length before
  pub buffer-is : after ≡ overwrite before c.written

-- ---- of one line

-- a number, and the bytes that stand at the buffer's front
pub record GivesLine (n : ℕ) (bytes : List ℕ) (r : Result ℕ Refusal) (before after : List ℕ) : Type 0 where
  pub number_is : number r ≡ n
  pub written_is : written_bytes r ≡ length bytes
  pub buffer-is : after ≡ overwrite before bytes

-- what one line writes into so much room
unfoldable pub line_writes : Bool → ℕ → Line → List ℕ
line_writes wide room l = cond (eqb (refusal_of wide room l) 0) (written_of wide l) []

-- a function converts a line into a buffer
abbrev pub ConvertsLine : Bool → Line → Result ℕ Refusal → List ℕ → List ℕ → Type 0
ConvertsLine wide l r before after =
    GivesLine (refusal_of wide (length before) l) (line_writes wide (length before) l) r before after

-- the line at the front of what is left of a log
abbrev pub first_of : List ℕ → Line
first_of rest = line_with (first_line rest) (has_line_feed rest)

-- what is left of a log, and it is not empty, begins with a part: that line and its end; `behind` is left then
pub record FirstPart (rest part text : List ℕ) (ended : Bool) (behind : List ℕ) : Type 0 where
  pub line-is : line_with text ended ≡ first_of rest
  pub used-is : length part ≡ used_by rest
  pub cut : rest ≡ part ++ behind
  pub some : 0 < length rest

-- ---- of a text

-- a function stores a text if there is room for all of it
abbrev pub StoresText : List ℕ → Result ℕ Refusal → List ℕ → List ℕ → Type 0
StoresText text r before after =
    GivesLine (refuse (ltb (length before) (length text)) 46 0) (cond (ltb (length before) (length text)) [] text) r before after

-- two parts stand at the buffer's front
abbrev pub PartsStored : List ℕ → List ℕ → List ℕ → List ℕ → Type 0
PartsStored front rest before after = after ≡ front ++ (rest ++ drop (length front + length rest) before)

-- a line's end stands at a place
abbrev pub EndStored : Bool → ℕ → List ℕ → List ℕ → Type 0
EndStored ended at before after = after ≡ take at before ++ (end_of ended ++ drop (at + length (end_of ended)) before)
