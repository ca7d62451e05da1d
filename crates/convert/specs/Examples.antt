-- Rows worked out by the definitions: each frame both ways, the bounds of 16, 43 and 46, the edges of a log, and pieces.
-- Assumes nothing.
use Rattle.std.specs.Prelude.{◌≡◌, true, false, List, [], ◌∷◌, ◌++◌, map, ℕ, replicate, Option, Some, None, Result, Ok, Err}
use Rattle.laws.specs.Refusals.{number_of}
use Rattle.bench.specs.Examples.{ascii}
use Rattle.bench.specs.declared.frame.Frame.{Frame}
use Rattle.bench.specs.declared.frame.Frame.TheVariants.{Event, Request, Update, Write, WideEvent}
use Rattle.convert.specs.Texts.{is_wanted, text_number, converted}
use Rattle.convert.specs.Logs.{Conversion, all_written, conversion}
use Rattle.convert.specs.Pieces.{with_lines, in_pieces}
use Rattle.convert.specs.Promises.{number, refused_code, refused_line}
use Rattle.convert.specs.declared.outcome.Refused.{Refused}
use Rattle.convert.specs.Statements.{CutAfterLines}
use Rattle.convert.specs.declared.refusal.Refusal.{Refusal}
use Rattle.convert.specs.declared.refusal.Refusal.TheVariants.{NoFrame, LargeSource, NoRoom}

-- ---- lines

-- a line of each frame
unfoldable pub each_frame : List (List ℕ)
each_frame = ascii "010703A1B2" ∷ ascii "02000000050010" ∷ ascii "0300000005FF" ∷ ascii "0400000005" ∷ ascii "05000703A1B2" ∷ []

-- where 05 is wanted only 01 changes, and where 01 is wanted only 05
abbrev pub FramesRow : Type 0
FramesRow =
    (map (converted true) each_frame
    ≡ ascii "05000703A1B2" ∷ ascii "02000000050010" ∷ ascii "0300000005FF" ∷ ascii "0400000005" ∷ ascii "05000703A1B2" ∷ [])
    × (map (converted false) each_frame
    ≡ ascii "010703A1B2" ∷ ascii "02000000050010" ∷ ascii "0300000005FF" ∷ ascii "0400000005" ∷ ascii "010703A1B2" ∷ [])
    × (map (text_number true) each_frame ≡ 0 ∷ 0 ∷ 0 ∷ 0 ∷ 0 ∷ [])
    × (map (text_number false) each_frame ≡ 0 ∷ 0 ∷ 0 ∷ 0 ∷ 0 ∷ [])

-- sources 0, 16 and 255 to 05, and 0, 16, 254 and 255 to 01; 256 and 65,535 are refused where 01 is wanted, and taken where 05 is; pools above 31
-- and no data make frames too
abbrev pub SourcesRow : Type 0
SourcesRow =
    (map (converted true) (ascii "010003A1" ∷ ascii "011020" ∷ ascii "01FFFF05" ∷ [])
    ≡ ascii "05000003A1" ∷ ascii "05001020" ∷ ascii "0500FFFF05" ∷ [])
    × (map (converted false) (ascii "05000003A1" ∷ ascii "05001020" ∷ ascii "0500FEFF05" ∷ ascii "0500FFFF05" ∷ [])
    ≡ ascii "010003A1" ∷ ascii "011020" ∷ ascii "01FEFF05" ∷ ascii "01FFFF05" ∷ [])
    × (map (text_number false) (ascii "05000003A1" ∷ ascii "0500FE03A1" ∷ ascii "0500FF03A1" ∷ ascii "05010003A1" ∷ ascii "05FFFF03A1" ∷ [])
    ≡ 0 ∷ 0 ∷ 0 ∷ 43 ∷ 43 ∷ [])
    × (map (text_number true) (ascii "05010003A1" ∷ ascii "05FFFF03A1" ∷ []) ≡ 0 ∷ 0 ∷ [])

-- no frame, whichever is wanted: nothing, another first byte, small letters, an odd number of digits, a carriage return, a field missing; the last
-- two have a source of 256, and come to 16 before 43
abbrev pub NoFrameRow : Type 0
NoFrameRow =
    let texts = [] ∷ ascii "06000703A1" ∷ ascii "010703a1" ∷ ascii "010703A" ∷ (ascii "010703A1" ++ (13 ∷ [])) ∷ ascii "0107" ∷ ascii "050007"
    ∷ ascii "050100" ∷ ascii "05010003A" ∷ [] in
    (map (text_number true) texts ≡ replicate 9 16) × (map (text_number false) texts ≡ replicate 9 16)

-- the longest lines: 01 with 256 characters becomes 05 with 258, and back; 01 with 257 and 258 is no frame, nor is 05 with 257, 259 and 260
abbrev pub LongRow : Type 0
LongRow =
    (converted true (ascii "0107" ++ replicate 252 48) ≡ ascii "050007" ++ replicate 252 48)
    × (converted false (ascii "050007" ++ replicate 252 48) ≡ ascii "0107" ++ replicate 252 48)
    × (map (λ (n : ℕ). text_number true (ascii "0107" ++ replicate n 48)) (252 ∷ 253 ∷ 254 ∷ []) ≡ 0 ∷ 16 ∷ 16 ∷ [])
    × (map (λ (n : ℕ). text_number false (ascii "050007" ++ replicate n 48)) (250 ∷ 251 ∷ 252 ∷ 253 ∷ 254 ∷ [])
    ≡ 0 ∷ 16 ∷ 0 ∷ 16 ∷ 16 ∷ [])

-- which frames are of the wanted kind
abbrev pub WantedRow : Type 0
WantedRow =
    let frames : List (Option Frame) = Some (Event 7 3) ∷ Some (Request 5 16) ∷ Some (Update 5) ∷ Some (Write 5) ∷ Some (WideEvent 7 3) ∷ None ∷ [] in
    (map (is_wanted true) frames ≡ false ∷ true ∷ true ∷ true ∷ true ∷ false ∷ [])
    × (map (is_wanted false) frames ≡ true ∷ true ∷ true ∷ true ∷ false ∷ false ∷ [])

-- the text of a line that is refused stays, though nothing reads it
abbrev pub RefusedTextRow : Type 0
RefusedTextRow =
    (map (converted true) (ascii "0G" ∷ []) ≡ ascii "0G" ∷ [])
    × (map (converted false) (ascii "0G" ∷ ascii "05010003A1" ∷ []) ≡ ascii "0G" ∷ ascii "05010003A1" ∷ [])

-- the numbers of the answers
abbrev pub NumbersRow : Type 0
NumbersRow =
    let answers : List (Result Unit Refusal) = Ok tt ∷ Err NoFrame ∷ Err LargeSource ∷ Err NoRoom ∷ [] in
    map number answers ≡ 0 ∷ 16 ∷ 43 ∷ 46 ∷ []

-- the numbers of a conversion's answers, and the lines
abbrev pub AnswersRow : Type 0
AnswersRow =
    let refused : ℕ → Refusal → Result Unit Refused = λ line refusal. Err (record { line = line; refusal = refusal }) in
    let answers : List (Result Unit Refused) = Ok tt ∷ refused 3 NoFrame ∷ refused 1 LargeSource ∷ refused 2 NoRoom ∷ [] in
    (map (number_of refused_code) answers ≡ 0 ∷ 16 ∷ 43 ∷ 46 ∷ []) × (map refused_line answers ≡ 0 ∷ 3 ∷ 1 ∷ 2 ∷ [])

-- ---- logs

-- what a log comes to
abbrev pub came_to : List ℕ → ℕ → ℕ → Conversion
came_to written number line = record { written = written; number = number; line = line }

-- an empty log; a line feed alone; a last line with and without a line feed; a carriage return before it; an empty line between
abbrev pub EdgesRow : Type 0
EdgesRow =
    map (conversion true 100)
    ([] ∷ ascii "\n" ∷ ascii "010703A1\n" ∷ ascii "010703A1" ∷ ascii "010703A1\r\n" ∷ ascii "010703A1\n\n010703A1\n" ∷ [])
    ≡ came_to [] 0 0 ∷ came_to [] 16 1 ∷ came_to (ascii "05000703A1\n") 0 0 ∷ came_to (ascii "05000703A1") 0 0 ∷ came_to [] 16 1
    ∷ came_to (ascii "05000703A1\n") 16 2 ∷ []

-- the first refused line ends the work: the lines before it are written, and those after it are not looked at
abbrev pub FirstRefusedRow : Type 0
FirstRefusedRow =
    map (conversion false 100)
    (ascii "05000703A1\n05010003A1\n0G\n" ∷ ascii "05000703A1\n0G\n05010003A1\n" ∷ ascii "0400000000\n05000703A1\n010703A1\n05010003A1" ∷ [])
    ≡ came_to (ascii "010703A1\n") 43 2 ∷ came_to (ascii "010703A1\n") 16 2 ∷ came_to (ascii "0400000000\n010703A1\n010703A1\n") 43 4 ∷ []

-- two lines, the second without a line feed and with it, into room for both, for all but one byte, for the first alone and for less
abbrev pub RoomRow : Type 0
RoomRow =
    (map (λ (room : ℕ). conversion true room (ascii "010703A1\n010703A1")) (21 ∷ 20 ∷ 11 ∷ 10 ∷ 0 ∷ [])
    ≡ came_to (ascii "05000703A1\n05000703A1") 0 0 ∷ came_to (ascii "05000703A1\n") 46 2 ∷ came_to (ascii "05000703A1\n") 46 2
    ∷ came_to [] 46 1 ∷ came_to [] 46 1
    ∷ [])
    × (map (λ (room : ℕ). conversion true room (ascii "010703A1\n010703A1\n")) (22 ∷ 21 ∷ [])
    ≡ came_to (ascii "05000703A1\n05000703A1\n") 0 0 ∷ came_to (ascii "05000703A1\n") 46 2 ∷ [])

-- in no room: 16 before 46, 43 before 46, and 46; an empty log needs none
abbrev pub OrderRow : Type 0
OrderRow =
    map (conversion false 0) ([] ∷ ascii "0G\n" ∷ ascii "05010003A1\n" ∷ ascii "0500FF03A1\n" ∷ ascii "0400000000" ∷ [])
    ≡ came_to [] 0 0 ∷ came_to [] 16 1 ∷ came_to [] 43 1 ∷ came_to [] 46 1 ∷ came_to [] 46 1 ∷ []

-- one shortest event: to 05 four thirds of its 6 characters are enough, and to 01 these 6; a byte less is too little
abbrev pub EnoughRow : Type 0
EnoughRow =
    (map (λ (room : ℕ). conversion true room (ascii "010703")) (8 ∷ 7 ∷ []) ≡ came_to (ascii "05000703") 0 0 ∷ came_to [] 46 1 ∷ [])
    × (map (λ (room : ℕ). conversion false room (ascii "010703")) (6 ∷ 5 ∷ []) ≡ came_to (ascii "010703") 0 0 ∷ came_to [] 46 1 ∷ [])

-- ---- pieces

-- a refused line counts those of all pieces before it, and ends the work; each piece has the room anew; an empty one between
abbrev pub PiecesRow : Type 0
PiecesRow =
    (in_pieces true 22 0 (ascii "010703A1\n010703A1\n" ∷ ascii "010703A1\n0G\n" ∷ ascii "010703A1\n" ∷ [])
    ≡ came_to (ascii "05000703A1\n05000703A1\n05000703A1\n") 16 4)
    × (in_pieces true 11 0 (ascii "010703A1\n" ∷ [] ∷ ascii "010703A1\n" ∷ ascii "010703A1" ∷ [])
    ≡ came_to (ascii "05000703A1\n05000703A1\n05000703A1") 0 0)
    × (in_pieces true 0 0 [] ≡ came_to [] 0 0) × (in_pieces true 0 0 ([] ∷ []) ≡ came_to [] 0 0)

-- three pieces to 01, with 43 in the last; with a byte less of room 46 in the second
abbrev pub ThreePiecesRow : Type 0
ThreePiecesRow =
    map
    (λ (room : ℕ).
    in_pieces false room 0
    (ascii "05000703A1\n" ∷ ascii "05000703A1\n010703A1\n" ∷ ascii "010703A1\n05010003A1\n0G" ∷ []))
    (18 ∷ 17 ∷ [])
    ≡ came_to (ascii "010703A1\n010703A1\n010703A1\n010703A1\n") 43 5 ∷ came_to (ascii "010703A1\n010703A1\n") 46 3 ∷ []

-- room for each piece, for all but a byte of the second, for a line, for less
abbrev pub PieceRoomRow : Type 0
PieceRoomRow =
    map
    (λ (room : ℕ). in_pieces true room 0 (ascii "010703A1\n" ∷ ascii "010703A1\n010703A1" ∷ ascii "0G" ∷ []))
    (21 ∷ 20 ∷ 11 ∷ 10 ∷ [])
    ≡ came_to (ascii "05000703A1\n05000703A1\n05000703A1") 16 4
    ∷ came_to (ascii "05000703A1\n05000703A1\n") 46 3
    ∷ came_to (ascii "05000703A1\n05000703A1\n") 46 3
    ∷ came_to [] 46 1
    ∷ []

-- lines before count for a refused line alone
abbrev pub LinesBeforeRow : Type 0
LinesBeforeRow =
    (with_lines 3 (all_written (48 ∷ [])) ≡ all_written (48 ∷ [])) × (with_lines 3 (came_to (48 ∷ []) 16 2) ≡ came_to (48 ∷ []) 16 5)

-- a log cut after its first line, the second without a line feed
abbrev pub CutRow : Type 0
CutRow = CutAfterLines (ascii "010703A1\n" ∷ ascii "010703A1" ∷ [])

-- the rows together
pub record Examples : Type 0 where
  pub frames : FramesRow
  pub sources : SourcesRow
  pub no_frames : NoFrameRow
  pub long : LongRow
  pub wanted_frames : WantedRow
  pub refused_texts : RefusedTextRow
  pub numbers : NumbersRow
  pub answers : AnswersRow
  pub edges : EdgesRow
  pub first_refused : FirstRefusedRow
  pub room : RoomRow
  pub order : OrderRow
  pub enough : EnoughRow
  pub pieces : PiecesRow
  pub three_pieces : ThreePiecesRow
  pub piece_room : PieceRoomRow
  pub lines_before : LinesBeforeRow
  pub cut : CutRow
