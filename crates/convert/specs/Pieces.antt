-- A log that comes in pieces, each converted into a buffer of its own.
-- Assumes nothing.
use Rattle.std.specs.Prelude.{Bool, cond, List, [], ◌∷◌, ℕ, ◌+◌, eqb, length}
use Rattle.convert.specs.Logs.{log_lines, Conversion, all_written, with_bytes, conversion}

-- the same where so many lines stood before: they count for the refused line, and where none was refused 0 stays
unfoldable pub with_lines : ℕ → Conversion → Conversion
with_lines before c = record { written = c.written; number = c.number; line = cond (eqb c.number 0) 0 (before + c.line) }

-- one piece after the other, each into so much room, until a line is refused; what is written of them stands one after the other
unfoldable pub in_pieces : Bool → ℕ → ℕ → List (List ℕ) → Conversion
in_pieces wide room before [] = all_written []
in_pieces wide room before (piece ∷ pieces) =
    let c = with_lines before (conversion wide room piece) in
    cond (eqb c.number 0) (with_bytes c.written (in_pieces wide room (before + length (log_lines piece)) pieces)) c
