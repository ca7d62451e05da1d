-- A whole log, line by line, into a buffer with so much room. 'Number' is 16, 43 or 46, and 0 where nothing is refused; 'line' is a line's place, from 1.
-- Assumes nothing.
use Rattle.std.specs.Prelude.{Bool, true, false, cond, List, [], ◌∷◌, ◌++◌, ℕ, suc, ◌-◌, eqb, ltb, length}
use Rattle.laws.specs.Refusals.{refuse}
use Rattle.pools.specs.Refusals.{and_then}
use Rattle.bench.specs.Lines.{line_feed}
use Rattle.convert.specs.Texts.{text_number, converted}

-- ---- lines and their ends

-- a line, and whether a line feed ends it or only the end of the log
pub record Line : Type 0 where
  pub text : List ℕ
  pub ended : Bool

-- by its parts
abbrev pub line_with : List ℕ → Bool → Line
line_with text ended = record { text = text; ended = ended }

-- what ends a line
unfoldable pub end_of : Bool → List ℕ
end_of ended = cond ended (line_feed ∷ []) []

-- a line with its end
unfoldable pub whole_line : Line → List ℕ
whole_line l = l.text ++ end_of l.ended

-- the line that the end of the log ends, if it has a character
unfoldable pub unended_line : List ℕ → List Line
unended_line [] = []
unended_line (c ∷ text) = line_with (c ∷ text) false ∷ []

-- the lines of a log whose first line began with `sofar`
unfoldable pub lines_from : List ℕ → List ℕ → List Line
lines_from sofar [] = unended_line sofar
lines_from sofar (c ∷ log) =
    cond (eqb c line_feed) (line_with sofar true ∷ lines_from [] log) (lines_from (sofar ++ (c ∷ [])) log)

-- the lines of a log
unfoldable pub log_lines : List ℕ → List Line
log_lines log = lines_from [] log

-- ---- the work

-- a line as one of the wanted kind; its end is unchanged
unfoldable pub converted_line : Bool → Line → Line
converted_line wide l = line_with (converted wide l.text) l.ended

-- what is written of a line
unfoldable pub written_of : Bool → Line → List ℕ
written_of wide l = whole_line (converted_line wide l)

-- 16, then 43, then 46: no room left for the converted line and its end
unfoldable pub refusal_of : Bool → ℕ → Line → ℕ
refusal_of wide room l = and_then (text_number wide l.text) (refuse (ltb room (length (written_of wide l))) 46 0)

-- what was written; 0, or the number that refused a line; and which line that is, or 0 where none was refused
pub record Conversion : Type 0 where
  pub written : List ℕ
  pub number : ℕ
  pub line : ℕ

-- everything was written, and it is this
abbrev pub all_written : List ℕ → Conversion
all_written written = record { written = written; number = 0; line = 0 }

-- the same with more bytes written before
unfoldable pub with_bytes : List ℕ → Conversion → Conversion
with_bytes bytes c = record { written = bytes ++ c.written; number = c.number; line = c.line }

-- lines, of which the first is line k, until one is refused: that one is not written, and those after it are not looked at
unfoldable pub converted_lines : Bool → ℕ → ℕ → List Line → Conversion
converted_lines wide room k [] = all_written []
converted_lines wide room k (l ∷ ls) =
    cond (eqb (refusal_of wide room l) 0)
    (with_bytes (written_of wide l) (converted_lines wide (room - length (written_of wide l)) (suc k) ls))
    (record { written = []; number = refusal_of wide room l; line = k })

-- a log into so much room
unfoldable pub conversion : Bool → ℕ → List ℕ → Conversion
conversion wide room log = converted_lines wide room 1 (log_lines log)
