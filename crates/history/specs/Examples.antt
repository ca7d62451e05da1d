-- Rows worked out by the definitions: the edges of what a whole event is, of the end, and of the schedule.
-- Assumes nothing.
use Rattle.std.specs.Prelude.{◌≡◌, true, false, List, [], ◌∷◌, ◌++◌, map, ℕ, ◌-◌, ◌^◌, eqb, take, replicate}
use Rattle.pools.specs.Calls.{event, request, update, write, draw, shuffle}
use Rattle.reference.specs.Provenance.{PoolUse}
use Rattle.history.specs.Strings.{Event, string_of}
use Rattle.history.specs.Reader.{entry, the_end, no_event, entry_at, data_at, number, history}
use Rattle.quotas.specs.Entries.{without, Entry, taking}
use Rattle.history.specs.Runs.{booked_event, booked_for, waiting_in, made, entered_at, uses_of, strings_at, string_in, worked_out}
use Rattle.history.specs.RunStatements.{events_into}

-- 01's event and one of source 900: 07 00 02 A1 B2, 84 03 01 05
abbrev pub two_events : List Event
two_events = record { source = 7; content = 161 ∷ 178 ∷ [] } ∷ record { source = 900; content = 5 ∷ [] } ∷ []

abbrev pub two_string : List ℕ
two_string = 7 ∷ 0 ∷ 2 ∷ 161 ∷ 178 ∷ 132 ∷ 3 ∷ 1 ∷ 5 ∷ []

-- the two events give this string, in the other order another one; no event gives the empty string
abbrev pub StringsRow : Type 0
StringsRow =
    (string_of two_events ≡ two_string)
    × (string_of (record { source = 900; content = 5 ∷ [] } ∷ record { source = 7; content = 161 ∷ 178 ∷ [] } ∷ [])
    ≡ 132 ∷ 3 ∷ 1 ∷ 5 ∷ 7 ∷ 0 ∷ 2 ∷ 161 ∷ 178 ∷ []) × (string_of [] ≡ [])

-- at each place: the two events at 0 and 5, the end at 9, 44 in between and past the end
abbrev pub PlacesRow : Type 0
PlacesRow =
    map (entry_at two_string) (0 ∷ 1 ∷ 2 ∷ 3 ∷ 4 ∷ 5 ∷ 6 ∷ 7 ∷ 8 ∷ 9 ∷ 10 ∷ [])
    ≡ entry 7 3 5 ∷ no_event 1 ∷ no_event 2 ∷ no_event 3 ∷ no_event 4
    ∷ entry 900 8 9 ∷ no_event 6 ∷ no_event 7 ∷ no_event 8 ∷ the_end ∷ no_event 10 ∷ []

-- their data, and none elsewhere
abbrev pub DataRow : Type 0
DataRow =
    map (data_at two_string) (0 ∷ 1 ∷ 2 ∷ 3 ∷ 4 ∷ 5 ∷ 6 ∷ 7 ∷ 8 ∷ 9 ∷ 10 ∷ [])
    ≡ (161 ∷ 178 ∷ []) ∷ [] ∷ [] ∷ [] ∷ [] ∷ (5 ∷ []) ∷ [] ∷ [] ∷ [] ∷ [] ∷ [] ∷ []

-- all 32 bytes; no data where the length is 0 or 33, or the last of 32 bytes is missing
abbrev pub DataSizesRow : Type 0
DataSizesRow =
    map (λ string. data_at string 0)
    ((7 ∷ 0 ∷ 32 ∷ replicate 33 9) ∷ (7 ∷ 0 ∷ 0 ∷ 9 ∷ []) ∷ (7 ∷ 0 ∷ 33 ∷ replicate 33 9)
    ∷ (7 ∷ 0 ∷ 32 ∷ replicate 31 9) ∷ [])
    ≡ replicate 32 9 ∷ [] ∷ [] ∷ [] ∷ []

-- an event starts at any place whose bytes are those of one: also inside another event's data
abbrev pub InsideRow : Type 0
InsideRow = map (entry_at (7 ∷ 0 ∷ 4 ∷ 1 ∷ 2 ∷ 1 ∷ 9 ∷ [])) (0 ∷ 3 ∷ 7 ∷ []) ≡ entry 7 3 7 ∷ entry 513 6 7 ∷ the_end ∷ []

-- the empty string; no byte, 1 byte, 32, 33 and 255 bytes of data; 32 with the last one missing
abbrev pub SizesRow : Type 0
SizesRow =
    map (λ string. entry_at string 0)
    (([]) ∷ (7 ∷ 0 ∷ 0 ∷ []) ∷ (7 ∷ 0 ∷ 0 ∷ 9 ∷ []) ∷ (7 ∷ 0 ∷ 1 ∷ 9 ∷ [])
    ∷ (7 ∷ 0 ∷ 32 ∷ replicate 32 9) ∷ (7 ∷ 0 ∷ 33 ∷ replicate 33 9) ∷ (7 ∷ 0 ∷ 255 ∷ replicate 255 9)
    ∷ (7 ∷ 0 ∷ 32 ∷ replicate 31 9) ∷ [])
    ≡ the_end ∷ no_event 0 ∷ no_event 0 ∷ entry 7 3 4 ∷ entry 7 3 35 ∷ no_event 0 ∷ no_event 0 ∷ no_event 0 ∷ []

-- an event with its last bytes cut off is none; a byte more belongs to what comes next
abbrev pub CutsRow : Type 0
CutsRow =
    map (λ n. entry_at (take n two_string) 0) (1 ∷ 2 ∷ 3 ∷ 4 ∷ 5 ∷ 6 ∷ [])
    ≡ no_event 0 ∷ no_event 0 ∷ no_event 0 ∷ no_event 0 ∷ entry 7 3 5 ∷ entry 7 3 5 ∷ []

-- sources 0, 255, 256 and 65,535
abbrev pub SourcesRow : Type 0
SourcesRow =
    map (λ string. entry_at string 0)
    ((0 ∷ 0 ∷ 1 ∷ 9 ∷ []) ∷ (255 ∷ 0 ∷ 1 ∷ 9 ∷ []) ∷ (0 ∷ 1 ∷ 1 ∷ 9 ∷ []) ∷ (255 ∷ 255 ∷ 1 ∷ 9 ∷ []) ∷ [])
    ≡ entry 0 3 4 ∷ entry 255 3 4 ∷ entry 256 3 4 ∷ entry 65535 3 4 ∷ []

-- past the end, up to the last place that there is: 44
abbrev pub PastRow : Type 0
PastRow = map (entry_at two_string) (11 ∷ 2 ^ 63 ∷ (2 ^ 64 - 1) ∷ []) ≡ no_event 11 ∷ no_event (2 ^ 63) ∷ no_event (2 ^ 64 - 1) ∷ []

abbrev pub NumbersRow : Type 0
NumbersRow = map number (entry 7 3 5 ∷ the_end ∷ no_event 9 ∷ []) ≡ 0 ∷ 0 ∷ 44 ∷ []

-- both events, in their order; and nothing of the empty string
abbrev pub HistoryRow : Type 0
HistoryRow =
    (history two_string ≡ record { events = two_events; number = 0; place = 9 }) × (history [] ≡ record { events = []; number = 0; place = 0 })

-- a string that breaks off, or goes on with what is no event, is read up to there
abbrev pub BrokenRow : Type 0
BrokenRow =
    (history (take 8 two_string) ≡ record { events = take 1 two_events; number = 44; place = 5 })
    × (history (two_string ++ (1 ∷ [])) ≡ record { events = two_events; number = 44; place = 9 })
    × (history (two_string ++ (7 ∷ 0 ∷ 33 ∷ replicate 33 9)) ≡ record { events = two_events; number = 44; place = 9 })
    × (history (1 ∷ []) ≡ record { events = []; number = 44; place = 0 })

-- ---- runs

abbrev pub seven : Event
seven = record { source = 7; content = 9 ∷ [] }

-- an event of pool 3 is booked for reseed 8 while at most 7 reseeds were made, and for 16 while 8 to 15 were; of pool 0 for the next, of
-- pool 31 for 2^31; asked of another pool it gives nothing
abbrev pub BookingsRow : Type 0
BookingsRow =
    (map (λ r. booked_event (λ k. eqb k 8) 3 r (event 7 3 (9 ∷ []))) (0 ∷ 7 ∷ 8 ∷ 15 ∷ [])
    ≡ (seven ∷ []) ∷ (seven ∷ []) ∷ [] ∷ [] ∷ [])
    × (map (λ r. booked_event (λ k. eqb k 16) 3 r (event 7 3 (9 ∷ []))) (0 ∷ 7 ∷ 8 ∷ 15 ∷ [])
    ≡ [] ∷ [] ∷ (seven ∷ []) ∷ (seven ∷ []) ∷ [])
    × (booked_event (λ k. eqb k 6) 0 5 (event 7 0 (9 ∷ [])) ≡ seven ∷ [])
    × (booked_event (λ k. eqb k (2 ^ 31)) 31 5 (event 7 31 (9 ∷ [])) ≡ seven ∷ [])
    × (booked_event (λ k. true) 2 0 (event 7 3 (9 ∷ [])) ≡ [])

-- no other call is an event
abbrev pub OthersRow : Type 0
OthersRow =
    map (booked_event (λ k. true) 0 0) (request 0 [] ∷ update 0 [] ∷ write 0 [] ∷ draw 0 1 1 ∷ shuffle 0 [] ∷ [])
    ≡ [] ∷ [] ∷ [] ∷ [] ∷ [] ∷ []

-- the uses of one reseed, in their order and with their pieces
abbrev pub use_at : ℕ → ℕ → PoolUse
use_at n i = record { reseed_number = n; pool = i; pieces = record { place = n; bytes = i ∷ [] } ∷ [] }

abbrev pub UsesRow : Type 0
UsesRow = uses_of 2 (use_at 1 0 ∷ use_at 2 0 ∷ use_at 2 1 ∷ use_at 3 0 ∷ []) ≡ use_at 2 0 ∷ use_at 2 1 ∷ []

-- reseed 4 uses the pools 0, 1 and 2: the first held both events, the second nothing, the third one of them
abbrev pub WorkedRow : Type 0
WorkedRow =
    (worked_out 4 (two_string ∷ [] ∷ take 5 two_string ∷ [])
    ≡ record { pool = 0; events = two_events } ∷ record { pool = 1; events = [] } ∷ record { pool = 2; events = take 1 two_events } ∷ [])
    × (worked_out 3 (two_string ∷ []) ≡ record { pool = 0; events = two_events } ∷ []) × (worked_out 4 [] ≡ [])

-- a string that breaks off is read up to there, and a string more than there are pools is left out
abbrev pub StrayRow : Type 0
StrayRow =
    (worked_out 3 (take 8 two_string ∷ []) ≡ record { pool = 0; events = take 1 two_events } ∷ [])
    × (worked_out 3 (two_string ∷ two_string ∷ []) ≡ record { pool = 0; events = two_events } ∷ [])

-- events of 32 bytes, and of one
abbrev pub long : ℕ → Event
long source = record { source = source; content = replicate 32 9 }

abbrev pub short : ℕ → Event
short source = record { source = source; content = 5 ∷ [] }

-- a run that makes two reseeds, the second one 101 ms after the first; the event without data is refused
abbrev pub two_reseeds : List Entry
two_reseeds =
    map (taking without)
    (event 7 0 (replicate 32 9) ∷ event 900 1 (5 ∷ []) ∷ event 7 0 [] ∷ event 8 0 (replicate 32 9) ∷ request 0 []
    ∷ event 9 31 (5 ∷ []) ∷ event 10 0 (replicate 32 9) ∷ event 901 1 (5 ∷ []) ∷ event 11 0 (replicate 32 9) ∷ request 101 []
    ∷ event 7 0 (161 ∷ 178 ∷ []) ∷ event 900 0 (5 ∷ []) ∷ [])

-- which of its reseeds were made
abbrev pub MadeRow : Type 0
MadeRow = map (made two_reseeds) (0 ∷ 1 ∷ 2 ∷ 3 ∷ []) ≡ false ∷ true ∷ true ∷ false ∷ []

-- the first took pool 0, the second the pools 0 and 1, with the event of pool 1 that came before the first
abbrev pub EnteredRow : Type 0
EnteredRow =
    map (entered_at two_reseeds) (0 ∷ 1 ∷ 2 ∷ 3 ∷ [])
    ≡ [] ∷ (record { pool = 0; events = long 7 ∷ long 8 ∷ [] } ∷ [])
    ∷ (record { pool = 0; events = long 10 ∷ long 11 ∷ [] } ∷ record { pool = 1; events = short 900 ∷ short 901 ∷ [] } ∷ [])
    ∷ [] ∷ []

-- the strings of its first six calls: those used at each reseed, and those that the pools hold
abbrev pub HeldRow : Type 0
HeldRow =
    (map (strings_at (take 6 two_reseeds)) (0 ∷ 1 ∷ 2 ∷ []) ≡ [] ∷ (string_of (long 7 ∷ long 8 ∷ []) ∷ []) ∷ [] ∷ [])
    × (map (string_in (take 6 two_reseeds)) (0 ∷ 1 ∷ 2 ∷ 31 ∷ [])
    ≡ [] ∷ (132 ∷ 3 ∷ 1 ∷ 5 ∷ []) ∷ [] ∷ (9 ∷ 0 ∷ 1 ∷ 5 ∷ []) ∷ [])

-- the event of pool 31 is booked for reseed 2^31, and waits; those of pool 0 wait from the last reseed on
abbrev pub WaitingRow : Type 0
WaitingRow =
    (map (waiting_in two_reseeds) (0 ∷ 1 ∷ 2 ∷ 31 ∷ []) ≡ two_events ∷ [] ∷ [] ∷ (short 9 ∷ []) ∷ [])
    × (map (λ n. booked_for two_reseeds n 31) (0 ∷ 2 ∷ 2147483648 ∷ 4294967296 ∷ []) ≡ [] ∷ [] ∷ (short 9 ∷ []) ∷ [] ∷ [])

-- a list of events as calls
abbrev pub IntoRow : Type 0
IntoRow = events_into 3 two_events ≡ taking without (event 7 3 (161 ∷ 178 ∷ [])) ∷ taking without (event 900 3 (5 ∷ [])) ∷ []

pub record Examples : Type 0 where
  pub strings : StringsRow
  pub places : PlacesRow
  pub content : DataRow
  pub data_sizes : DataSizesRow
  pub inside : InsideRow
  pub sizes : SizesRow
  pub cuts : CutsRow
  pub sources : SourcesRow
  pub past : PastRow
  pub numbers : NumbersRow
  pub whole : HistoryRow
  pub broken : BrokenRow
  pub bookings : BookingsRow
  pub others : OthersRow
  pub uses : UsesRow
  pub worked : WorkedRow
  pub stray : StrayRow
  pub made : MadeRow
  pub entered : EnteredRow
  pub held : HeldRow
  pub waiting : WaitingRow
  pub into : IntoRow
