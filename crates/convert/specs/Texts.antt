-- One line of a log as a frame of the wanted kind (02 (xii)). Only the front of the text changes: 01 becomes 05 with a source byte 00 before the
-- other, and 05 with that byte 00 becomes 01 without it. `wide` is true where 05 is wanted, and false where 01 is.
-- Assumes nothing.
use Rattle.std.specs.Prelude.{Bool, true, false, cond, not, List, ◌∷◌, ℕ, ltb, drop, Option, Some, None, Result, Ok, Err}
use Rattle.bench.specs.Frames.{frame_of_text}
use Rattle.bench.specs.declared.frame.Frame.{Frame}
use Rattle.bench.specs.declared.frame.Frame.TheVariants.{Event, Request, Update, Write, WideEvent}
use Rattle.convert.specs.declared.action.Action.{Action}
use Rattle.convert.specs.declared.action.Action.TheVariants.{Keep, Widen, Narrow}
use Rattle.convert.specs.declared.refusal.Refusal.{Refusal}
use Rattle.convert.specs.declared.refusal.Refusal.TheVariants.{NoFrame, LargeSource, NoRoom}

-- the largest source of frame 01
unfoldable pub max_narrow_source : ℕ
max_narrow_source = 255

-- a frame of the wanted kind: any frame but an event of the other kind
unfoldable pub is_wanted : Bool → Option Frame → Bool
is_wanted wide (Some (Event source pool)) = not wide
is_wanted wide (Some (Request clock count)) = true
is_wanted wide (Some (Update clock)) = true
is_wanted wide (Some (Write clock)) = true
is_wanted wide (Some (WideEvent source pool)) = wide
is_wanted wide None = false

-- what is to be done with a line, by the frame that it is, or why it is refused
unfoldable pub action_of : Bool → Option Frame → Result Action Refusal
action_of wide (Some (Event source pool)) = Ok (cond wide Widen Keep)
action_of wide (Some (Request clock count)) = Ok Keep
action_of wide (Some (Update clock)) = Ok Keep
action_of wide (Some (Write clock)) = Ok Keep
action_of wide (Some (WideEvent source pool)) = cond wide (Ok Keep) (cond (ltb max_narrow_source source) (Err LargeSource) (Ok Narrow))
action_of wide None = Err NoFrame

-- 01.. as 0500..
unfoldable pub widened : List ℕ → List ℕ
widened text = 48 ∷ 53 ∷ 48 ∷ 48 ∷ drop 2 text

-- 05.... as 01.., without the first two of the source's digits
unfoldable pub narrowed : List ℕ → List ℕ
narrowed text = 48 ∷ 49 ∷ drop 4 text

-- the text after an action
unfoldable pub carried_out : Result Action Refusal → List ℕ → List ℕ
carried_out (Ok Keep) text = text
carried_out (Ok Widen) text = widened text
carried_out (Ok Narrow) text = narrowed text
carried_out (Err refusal) text = text

-- 0, or the number that refuses a text: 16, no frame; 43, a source above 255 where 01 is wanted. No text is refused by 46
-- Kept: (a) `number` of Promises with its own cases: the edits defined_16_for_43 and defined_numbers_exchanged change these alone.
unfoldable pub action_number : Result Action Refusal → ℕ
action_number (Ok action) = 0
action_number (Err NoFrame) = 16
action_number (Err LargeSource) = 43
action_number (Err NoRoom) = 46

-- the number of a text, whatever the room
unfoldable pub text_number : Bool → List ℕ → ℕ
text_number wide text = action_number (action_of wide (frame_of_text text))

-- the text of the wanted kind; of one that is refused it is the old one, which nothing reads
unfoldable pub converted : Bool → List ℕ → List ℕ
converted wide text = carried_out (action_of wide (frame_of_text text)) text
