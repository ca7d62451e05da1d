-- The rows, by computation.
-- Assumes nothing.
use mathlib.Core.Path.{refl}
use mathlib.Core.Logic.{inr}
use Prim.Native.Nat.{zero, suc}
use native.Mathlib.Omega.{arith}
use Rattle.pools.specs.Refusals.{and_then}
use Rattle.bench.specs.Examples.{ascii}
use Rattle.bench.proofs.Examples.{reading, framing}
use Rattle.convert.specs.Texts.{max_narrow_source, is_wanted, action_of, widened, narrowed, carried_out, action_number, text_number, converted}
use Rattle.convert.specs.Logs.{end_of, whole_line, unended_line, lines_from, log_lines, converted_line, written_of, refusal_of, with_bytes, converted_lines, conversion}
use Rattle.convert.specs.Pieces.{with_lines, in_pieces}
use Rattle.convert.specs.Examples.{each_frame, CutRow, Examples}

-- a line converted
converting : Unit {0}
unfolding each_frame max_narrow_source is_wanted action_of widened narrowed carried_out action_number text_number converted
converting = tt

-- a log, and one in pieces
working : Unit {0}
unfolding end_of whole_line unended_line lines_from log_lines converted_line written_of refusal_of with_bytes converted_lines conversion and_then
working = tt

piecing : Unit {0}
unfolding with_lines in_pieces
piecing = tt

cut-row : CutRow
unfolding ascii
cut-row zero h = inr (ascii "010703A1", refl)
cut-row (suc k) h = absurd (omega (arith, h))

pub examples : Examples
unfolding reading framing converting working piecing
examples =
    record {
      frames = (refl, refl, refl, refl);
      sources = (refl, refl, refl, refl);
      no_frames = (refl, refl);
      long = (refl, refl, refl, refl);
      wanted_frames = (refl, refl);
      refused_texts = (refl, refl);
      numbers = refl;
      answers = (refl, refl);
      edges = refl;
      first_refused = refl;
      room = (refl, refl);
      order = refl;
      enough = (refl, refl);
      pieces = (refl, refl, refl, refl);
      three_pieces = refl;
      piece_room = refl;
      lines_before = (refl, refl);
      cut = cut-row;
    }
