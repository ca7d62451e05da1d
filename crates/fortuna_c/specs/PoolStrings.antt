-- What the reader of a pool's string leaves with C.
-- Assumes nothing.
use Rattle.std.specs.Prelude.{◌≡◌, true, false, [], ◌∷◌, map, ℕ, Some, None, Ok, Err}
use Rattle.history.specs.Reader.{Answer, entry, the_end, no_event, number}
use Rattle.fortuna_c.specs.declared.pool_strings.FortunaEntry.{FortunaEntry}

-- an answer, with the place that was asked for; without an event the source is 0, and that place stands for the data's and for the next
unfoldable pub entry_of : ℕ → Answer → FortunaEntry
entry_of asked (Ok (Some e)) =
    record { number = number (Ok (Some e)); source = e.source; found = true; place = asked; from = e.from; next = e.next }
entry_of asked (Ok None) = record { number = number (Ok None); source = 0; found = false; place = asked; from = asked; next = asked }
entry_of asked (Err n) =
    record { number = number (Err n); source = 0; found = false; place = n.place; from = n.place; next = n.place }

-- an event at place 5, the end there, and no event there
abbrev pub EntriesRow : Type 0
EntriesRow =
    map (entry_of 5) (entry 900 8 9 ∷ the_end ∷ no_event 5 ∷ [])
    ≡ record { number = 0; source = 900; found = true; place = 5; from = 8; next = 9 }
    ∷ record { number = 0; source = 0; found = false; place = 5; from = 5; next = 5 }
    ∷ record { number = 44; source = 0; found = false; place = 5; from = 5; next = 5 } ∷ []
