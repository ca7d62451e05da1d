-- What is proved of a pool's byte string and its reader, for every string.
-- Assumes nothing.
use Rattle.std.specs.Prelude.{◌≡◌, ◌↔◌, ◌⊎◌, List, [], ◌++◌, ℕ, ◌+◌, ◌<◌, length, get_or, drop}
use Rattle.pools.specs.Events.{header_length}
use Rattle.history.specs.Strings.{Event, bytes_of, string_of, Allowed, AllAllowed}
use Rattle.history.specs.Reader.{entry, the_end, no_event, Answer, entry_at, number, found_event, data_at, history}

-- a string of bytes
abbrev pub Bytes : List ℕ → Type 0
Bytes string = (i : ℕ) → get_or string i 0 < 256

-- a byte string comes from one list of events only, order included, whatever their sources and data are
abbrev pub UniqueEvents : Type 0
UniqueEvents = (es fs : List Event) → string_of es ≡ string_of fs → es ≡ fs

-- 44 is the number of no other answer
abbrev pub RefusalLaw : Type 0
RefusalLaw = (a : Answer) → (number a ≡ 44) ↔ ((place : ℕ) × (a ≡ no_event place))

-- ---- at a place

-- the event's bytes stand in the string from the place on
pub record Stands (e : Event) (string : List ℕ) (place : ℕ) : Type 0 where
  pub front : List ℕ
  pub rest : List ℕ
  pub whole : string ≡ front ++ (bytes_of e ++ rest)
  pub starts : length front ≡ place

pub record EntryLaw (string : List ℕ) (place : ℕ) : Type 0 where
  -- an allowed event that stands there is found, with its data and the next place
  pub found :
      (e : Event) → Allowed e → Stands e string place →
      (entry_at string place ≡ entry e.source (place + header_length) (place + length (bytes_of e)))
      × (found_event string e.source (place + header_length) (place + length (bytes_of e)) ≡ e) × (data_at string place ≡ e.content)
  -- what is found is an allowed event that stands there
  pub stands :
      (source from next : ℕ) → entry_at string place ≡ entry source from next →
      let e = found_event string source from next in
      Allowed e × Stands e string place × (from ≡ place + header_length) × (next ≡ place + length (bytes_of e))
  -- the end is found exactly at the string's length
  pub end : (entry_at string place ≡ the_end) ↔ (place ≡ length string)
  -- 44, with the place: exactly where no allowed event stands there whole and it is not the end, so past the end too
  pub refused :
      (p : ℕ) →
      (entry_at string place ≡ no_event p)
      ↔ ((p ≡ place) × (place ≡ length string → ⊥) × ((e : Event) → Allowed e → Stands e string place → ⊥))
  -- no data where no allowed event stands
  pub nothing : ((e : Event) → Allowed e → Stands e string place → ⊥) → data_at string place ≡ []

abbrev pub EntryLaws : Type 0
EntryLaws = (string : List ℕ) (place : ℕ) → Bytes string → EntryLaw string place

-- ---- read from 0

-- the string of a list of allowed events is read as that list, to its end
abbrev pub ReadBack : Type 0
ReadBack =
    (es : List Event) → AllAllowed es → history (string_of es) ≡ record { events = es; number = 0; place = length (string_of es) }

pub record HistoryLaw (string : List ℕ) : Type 0 where
  -- exactly the strings that no list of allowed events gives come to 44
  pub refused : ((history string).number ≡ 44) ↔ ((es : List Event) → AllAllowed es → string_of es ≡ string → ⊥)
  -- and a string comes to the end exactly if the events read from it give it back
  pub ended : ((history string).number ≡ 0) ↔ (string_of (history string).events ≡ string)
  -- no other number comes, and the reader says the same at the place where the reading ended
  pub stops :
      (((history string).number ≡ 0) × (entry_at string (history string).place ≡ the_end))
      ⊎ (((history string).number ≡ 44) × (entry_at string (history string).place ≡ no_event (history string).place))
  -- up to there stand the events that were read, which are allowed
  pub allowed : AllAllowed (history string).events
  pub front : string ≡ string_of (history string).events ++ drop (history string).place string
  pub reached : length (string_of (history string).events) ≡ (history string).place

abbrev pub HistoryLaws : Type 0
HistoryLaws = (string : List ℕ) → Bytes string → HistoryLaw string
