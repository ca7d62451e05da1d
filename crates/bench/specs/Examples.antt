-- Rows worked out by the definitions: 01's example from its input to its output, and the edges of what a line, a frame and an answer are.
-- Assumes nothing.
use Rattle.std.specs.Prelude.{◌≡◌, List, [], ◌∷◌, ◌++◌, map, ℕ, replicate, Some, None}
use Prim.Native.Char.{code}
use Prim.Native.String as Text
use Rattle.pools.specs.Calls.{event, request, update, write}
use Rattle.bench.specs.Frames.{frame_of_text}
use Rattle.bench.specs.Lines.{line_call, answer_line}
use Rattle.bench.specs.Input.{lines, transcript}
use Rattle.bench.specs.declared.frame.Frame.TheVariants.{Event, Request, Update, Write, WideEvent}

-- the ASCII numbers of a text
unfoldable pub ascii : Text.String → List ℕ
ascii Text.[] = []
ascii (Text.◌∷◌ c text) = code c ∷ ascii text

-- ---- 01's example

unfoldable pub example_input : List ℕ
example_input = ascii "010703A1B2\n0107200A\n010703\n02000000000010\n0400000000\n0300000000\n0G\n"

-- the frames of its lines
abbrev pub ExampleFramesRow : Type 0
ExampleFramesRow =
    map frame_of_text (lines example_input)
    ≡ Some (Event 7 3) ∷ Some (Event 7 32) ∷ Some (Event 7 3) ∷ Some (Request 0 16) ∷ Some (Write 0) ∷ Some (Update 0) ∷ None ∷ []

-- what it prints, whole
abbrev pub ExampleRow : Type 0
ExampleRow = transcript example_input ≡ ascii "00\n12\n13\n23\n23\n15\n16\n"

-- ---- lines

-- an empty input; a line feed alone; with and without the last line feed; two of them; an empty line first
abbrev pub LinesRow : Type 0
LinesRow =
    map lines ([] ∷ ascii "\n" ∷ ascii "A\n" ∷ ascii "A" ∷ ascii "A\n\n" ∷ ascii "\nA" ∷ [])
    ≡ [] ∷ ([] ∷ []) ∷ (ascii "A" ∷ []) ∷ (ascii "A" ∷ []) ∷ (ascii "A" ∷ [] ∷ []) ∷ ([] ∷ ascii "A" ∷ []) ∷ []

-- ---- frames

-- an empty line, another first byte, odd digits, lower case, another character, a space; the characters beside 0, 9, A and F
abbrev pub NoFrameRow : Type 0
NoFrameRow =
    map frame_of_text
    ([] ∷ ascii "00" ∷ ascii "06000703A1" ∷ ascii "010703A" ∷ ascii "010703a1" ∷ ascii "0107 3" ∷ ascii "010703 "
    ∷ ascii "010703/1" ∷ ascii "010703:1" ∷ ascii "010703@1" ∷ ascii "010703G1" ∷ [])
    ≡ replicate 11 None

-- each kind with a field missing
abbrev pub MissingRow : Type 0
MissingRow =
    map frame_of_text (ascii "0107" ∷ ascii "020000000000" ∷ ascii "03000000" ∷ ascii "04000000" ∷ ascii "050384" ∷ []) ≡ replicate 5 None

-- bytes left over after 02 and 04
abbrev pub LeftOverRow : Type 0
LeftOverRow = map frame_of_text (ascii "0200000000001000" ∷ ascii "040000000000" ∷ []) ≡ replicate 2 None

-- numbers have the most significant byte first
abbrev pub OrderRow : Type 0
OrderRow =
    map frame_of_text (ascii "0201020304FFFE" ∷ ascii "04FFFFFFFE" ∷ ascii "05038403" ∷ [])
    ≡ Some (Request 0x0102_0304 0xfffe) ∷ Some (Write 0xffff_fffe) ∷ Some (WideEvent 0x0384 3) ∷ []

-- 256 characters, 257 and 258, with another frame than 05
abbrev pub LongRow : Type 0
LongRow =
    map (λ (n : ℕ). frame_of_text (ascii "010703" ++ replicate n 0x30)) (250 ∷ 251 ∷ 252 ∷ [])
    ++ map (λ (n : ℕ). frame_of_text (ascii "0300000009" ++ replicate n 0x30)) (246 ∷ 248 ∷ [])
    ≡ Some (Event 7 3) ∷ None ∷ None ∷ Some (Update 9) ∷ None ∷ []

-- with frame 05: 256 characters, 257, 258, 259 and 260
abbrev pub WideLongRow : Type 0
WideLongRow =
    map (λ (n : ℕ). frame_of_text (ascii "05038403" ++ replicate n 0x30)) (248 ∷ 249 ∷ 250 ∷ 251 ∷ 252 ∷ [])
    ≡ Some (WideEvent 900 3) ∷ None ∷ Some (WideEvent 900 3) ∷ None ∷ None ∷ []

-- ---- calls

-- the data are what stands after the header, of frames 01 and 05 alike; requests and writes lend zeros; what is no frame makes no call
abbrev pub CallsRow : Type 0
CallsRow =
    map line_call
    (ascii "010703A1B2" ∷ ascii "010703" ∷ ascii "02000000050003" ∷ ascii "02000000050000"
    ∷ ascii "0300000006FF00" ∷ ascii "0400000007" ∷ ascii "05000703A1B2" ∷ ascii "05FFFF1FA1" ∷ ascii "0G" ∷ [])
    ≡ Some (event 7 3 (0xa1 ∷ 0xb2 ∷ []))
    ∷ Some (event 7 3 [])
    ∷ Some (request 5 (0 ∷ 0 ∷ 0 ∷ []))
    ∷ Some (request 5 [])
    ∷ Some (update 6 (0xff ∷ 0 ∷ []))
    ∷ Some (write 7 (replicate 64 0))
    ∷ Some (event 7 3 (0xa1 ∷ 0xb2 ∷ []))
    ∷ Some (event 65535 31 (0xa1 ∷ []))
    ∷ None
    ∷ []

-- ---- what is printed

-- an event, done and refused: the number alone
abbrev pub EventLinesRow : Type 0
EventLinesRow = answer_line (event 7 3 (1 ∷ [])) 0 0 [] ++ answer_line (event 7 3 []) 13 0 [] ≡ ascii "00\n13\n"

-- the other calls: a refusal is its number alone, whatever the buffer holds; after 00 the count, and the bytes if there are any
abbrev pub OutputLinesRow : Type 0
OutputLinesRow =
    answer_line (request 0 (1 ∷ [])) 23 0 (1 ∷ [])
    ++ answer_line (request 0 []) 0 3 []
    ++ answer_line (request 0 (0 ∷ 0 ∷ 0 ∷ [])) 0 32 (0 ∷ 0x9a ∷ 0xbf ∷ [])
    ++ answer_line (update 0 (0 ∷ [])) 0 0 (0x10 ∷ [])
    ++ answer_line (write 0 (0 ∷ [])) 0 10 (0xf0 ∷ [])
    ≡ ascii "23\n00 03\n00 32 009ABF\n00 00 10\n00 10 F0\n"

-- the rows together
pub record Examples : Type 0 where
  pub example_frames : ExampleFramesRow
  pub example : ExampleRow
  pub lines_cut : LinesRow
  pub no_frames : NoFrameRow
  pub missing : MissingRow
  pub left_over : LeftOverRow
  pub order : OrderRow
  pub long : LongRow
  pub wide_long : WideLongRow
  pub calls : CallsRow
  pub event_lines : EventLinesRow
  pub output_lines : OutputLinesRow
