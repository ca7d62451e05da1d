-- The reader (02 (xiii)): what stands at a place of a string, counted from 0, and a string read on from there.
-- Assumes nothing.
use Rattle.std.specs.Prelude.{Bool, cond, ◌&&◌, List, [], ◌∷◌, ℕ, zero, suc, ◌+◌, ◌-◌, ◌*◌, eqb, ltb, leb, length, get_or, take, drop}
use Rattle.std.specs.Prelude.{◌<◌, Option, Some, None, Result, Ok, Err}
use Rattle.std.proofs.Common.{lit<}
use Rattle.laws.specs.Refusals.{number_of}
use Rattle.pools.specs.Events.{max_data, header_length, gain}
use Rattle.history.specs.Strings.{Event}
use Rattle.history.specs.declared.found.Entry.{Entry}
use Rattle.history.specs.declared.found.NoEvent.{NoEvent}

-- ---- what stands at a place

-- the source that would stand there, in two bytes, least significant first, and the length of its data
unfoldable pub source_at : List ℕ → ℕ → ℕ
source_at string place = get_or string place 0 + 256 * get_or string (place + 1) 0

unfoldable pub length_at : List ℕ → ℕ → ℕ
length_at string place = get_or string (place + 2) 0

-- a whole event starts there: 1 to 32 bytes of data, and all of it lies within the string
unfoldable pub whole_at : List ℕ → ℕ → Bool
whole_at string place =
    let n = length_at string place in
    ltb 0 n && leb n max_data && leb (place + gain n) (length string)

-- how many bytes of data it has, 0 where none starts there
unfoldable pub size_at : List ℕ → ℕ → ℕ
size_at string place = cond (whole_at string place) (length_at string place) 0

-- its data, no byte where none starts there
unfoldable pub data_at : List ℕ → ℕ → List ℕ
data_at string place = take (size_at string place) (drop (place + header_length) string)

-- an event: its source, where its data start, and the next place; the end of the string; or no event, with the place
abbrev pub Answer : Type 0
Answer = Result (Option Entry) NoEvent

abbrev pub entry : ℕ → ℕ → ℕ → Answer
entry source from next = Ok (Some (record { source = source; from = from; next = next }))

abbrev pub the_end : Answer
the_end = Ok None

abbrev pub no_event : ℕ → Answer
no_event place = Err (record { place = place })

unfoldable pub entry_at : List ℕ → ℕ → Answer
entry_at string place =
    cond (eqb place (length string)) the_end
    (cond (whole_at string place)
    (entry (source_at string place) (place + header_length) (place + gain (length_at string place)))
    (no_event place))

-- 02's number of no event, which is not 0; and that of an answer
abbrev pub code : NoEvent → ℕ
code refusal = 44

pub code-above-0 : (refusal : NoEvent) → 0 < code refusal
code-above-0 refusal = lit< tt

abbrev pub number : Answer → ℕ
number = number_of code

-- the event that was found in a string: its source, and the bytes from `from` up to `next`
unfoldable pub found_event : List ℕ → ℕ → ℕ → ℕ → Event
found_event string source from next = record { source = source; content = take (next - from) (drop from string) }

-- ---- reading on

-- the events found one after the other, the number that ended the reading, 0 at the end of the string, and the place where it ended
pub record History : Type 0 where
  pub events : List Event
  pub number : ℕ
  pub place : ℕ

-- what stands at a place, and what is read from the next one on
unfoldable pub then_read : List ℕ → Answer → (ℕ → History) → History
then_read string (Ok (Some e)) rest =
    record { events = found_event string e.source e.from e.next ∷ (rest e.next).events; number = (rest e.next).number; place = (rest e.next).place }
then_read string (Ok None) rest = record { events = []; number = 0; place = length string }
then_read string (Err refusal) rest = record { events = []; number = 44; place = refusal.place }

-- at most n steps, and 44 where they are not enough
unfoldable pub history_from : ℕ → List ℕ → ℕ → History
history_from zero string place = record { events = []; number = 44; place = place }
history_from (suc n) string place = then_read string (entry_at string place) (history_from n string)

-- a whole string, read from 0; an event takes 4 bytes or more, so the string ends before the steps do (`stops` of HistoryLaw)
unfoldable pub history : List ℕ → History
history string = history_from (length string + 1) string 0
