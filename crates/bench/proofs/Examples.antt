-- The rows, by computation.
-- Assumes nothing.
use mathlib.Core.Path.{refl}
use Rattle.reference.proofs.Computing.{answering, adding}
use Rattle.bench.specs.Hexadecimal.{is_decimal, is_capital, is_digit, digit_value, digit_character, decode_hex, encode_hex, all_digits, is_hex, decimal}
use Rattle.bench.specs.Frames.{header_length, big_endian16, big_endian32, event_frame, request_frame, update_frame, write_frame, wide_event_frame}
use Rattle.bench.specs.Frames.{frame_of, is_wide, max_line, frame_of_text}
use Rattle.bench.specs.Buffers.{zeros}
use Rattle.bench.specs.Lines.{call_of, line_call, number_line, spaced, output_line, answer_line, outcome_line, executed, line_of}
use Rattle.bench.specs.Input.{final_line, lines_following, lines, printed_from, transcript}
use Rattle.bench.specs.Examples.{ascii, example_input, Examples}

-- a text's lines, and a line's frame
unfoldable pub reading : Unit {0}
unfolding ascii example_input lines lines_following final_line is_decimal is_capital is_digit digit_value decode_hex all_digits is_hex is_wide max_line frame_of_text
reading = tt

unfoldable pub framing : Unit {0}
unfolding header_length big_endian16 big_endian32 event_frame request_frame update_frame write_frame wide_event_frame frame_of zeros call_of line_call
framing = tt

-- the line that a call prints
printing : Unit {0}
unfolding decimal digit_character encode_hex number_line spaced output_line answer_line outcome_line executed line_of printed_from transcript
printing = tt

pub examples : Examples
unfolding answering adding reading framing printing
examples =
    record {
      example_frames = refl;
      example = refl;
      lines_cut = refl;
      no_frames = refl;
      missing = refl;
      left_over = refl;
      order = refl;
      long = refl;
      wide_long = refl;
      calls = refl;
      event_lines = refl;
      output_lines = refl;
    }
