-- Which frame a line is.
-- Assumes nothing.
use Rattle.std.specs.Prelude.{Bool, cond, ◌&&◌, List, [], ◌∷◌, ℕ, ◌+◌, ◌*◌, eqb, leb, length, get_or, Option, Some, None}
use Rattle.bench.specs.Hexadecimal.{is_hex, decode_hex}
use Rattle.bench.specs.declared.frame.Frame.{Frame}
use Rattle.bench.specs.declared.frame.Frame.TheVariants.{Event, Request, Update, Write, WideEvent}

-- the most characters of a line, its line feed not counted: of one that begins with 05, and of any other
abbrev pub max_wide_line : ℕ
max_wide_line = 258

abbrev pub max_other_line : ℕ
max_other_line = 256

-- the first two characters are 0 and 5
unfoldable pub is_wide : List ℕ → Bool
is_wide text = eqb (get_or text 0 0) 48 && eqb (get_or text 1 0) 53

-- the most characters that a line may have: its first two decide
unfoldable pub max_line : List ℕ → ℕ
max_line text = cond (is_wide text) max_wide_line max_other_line

-- the number in two bytes from a place on, most significant first
unfoldable pub big_endian16 : List ℕ → ℕ → ℕ
big_endian16 bytes at = get_or bytes at 0 * 256 + get_or bytes (at + 1) 0

-- the number in four bytes from a place on, most significant first
unfoldable pub big_endian32 : List ℕ → ℕ → ℕ
big_endian32 bytes at = big_endian16 bytes at * 65536 + big_endian16 bytes (at + 2)

-- 01: source byte, pool byte, data (the rest)
unfoldable pub event_frame : List ℕ → Option Frame
event_frame bytes = cond (leb 3 (length bytes)) (Some (Event (get_or bytes 1 0) (get_or bytes 2 0))) None

-- 02: clock, n, nothing more
unfoldable pub request_frame : List ℕ → Option Frame
request_frame bytes = cond (eqb (length bytes) 7) (Some (Request (big_endian32 bytes 1) (big_endian16 bytes 5))) None

-- 03: clock, seed (the rest)
unfoldable pub update_frame : List ℕ → Option Frame
update_frame bytes = cond (leb 5 (length bytes)) (Some (Update (big_endian32 bytes 1))) None

-- 04: clock, nothing more
unfoldable pub write_frame : List ℕ → Option Frame
write_frame bytes = cond (eqb (length bytes) 5) (Some (Write (big_endian32 bytes 1))) None

-- 05: source (2 bytes), pool byte, data (the rest)
unfoldable pub wide_event_frame : List ℕ → Option Frame
wide_event_frame bytes = cond (leb 4 (length bytes)) (Some (WideEvent (big_endian16 bytes 1) (get_or bytes 3 0))) None

-- the frame that bytes make, by the first of them
unfoldable pub frame_of : List ℕ → Option Frame
frame_of [] = None
frame_of (kind ∷ fields) =
    cond (eqb kind 1) (event_frame (kind ∷ fields))
    (cond (eqb kind 2) (request_frame (kind ∷ fields))
    (cond (eqb kind 3) (update_frame (kind ∷ fields))
    (cond (eqb kind 4) (write_frame (kind ∷ fields))
    (cond (eqb kind 5) (wide_event_frame (kind ∷ fields))
    None))))

-- a line that may be a frame: no more characters than its first two allow, and hexadecimal
abbrev pub is_readable : List ℕ → Bool
is_readable text = leb (length text) (max_line text) && is_hex text

-- the frame that a line of text is
unfoldable pub frame_of_text : List ℕ → Option Frame
frame_of_text text = cond (is_readable text) (frame_of (decode_hex text)) None

-- how many bytes stand before a frame's data
unfoldable pub header_length : Frame → ℕ
header_length (Event source pool) = 3
header_length (Request clock count) = 7
header_length (Update clock) = 5
header_length (Write clock) = 5
header_length (WideEvent source pool) = 4
