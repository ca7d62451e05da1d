-- The reference model's reading of a list of quotas for the calls of the keyed scheduler: record by record, with no place looked for.
-- Assumes nothing.
use Rattle.std.specs.Prelude.{List, map, cond, ℕ, ◌+◌, eqb, length}
use Rattle.laws.specs.Refusals.{refuse}
use Rattle.pools.specs.Calls.{Outcome}
use Rattle.quotas.specs.declared.Quota.{Quota}
use Rattle.quotas.specs.Entries.{Quotas, without, within, left_with, lists_with}
use Rattle.reference.specs.ReferenceLists.{faulty, event_by_records, settled_record}
use Rattle.keyed.specs.Calls.{Call, event, request, update, write}
use Rattle.keyed.specs.Entries.{Entry}

-- the number that a list gives a call
unfoldable pub by_records : Quotas → Call → ℕ
by_records without c = 0
by_records (within rs) (event source content) = event_by_records rs source (length content)
by_records (within rs) (request buffer) = refuse (faulty rs) 37 0
by_records (within rs) (update seed) = refuse (faulty rs) 37 0
by_records (within rs) (write seed) = refuse (faulty rs) 37 0

-- what an accepted call adds to a record of the source x: an event of x 3 and its data's length
unfoldable pub adds_to : Call → ℕ → ℕ
adds_to (event source content) x = cond (eqb x source) (3 + length content) 0
adds_to (request buffer) x = 0
adds_to (update seed) x = 0
adds_to (write seed) x = 0

-- a record after a call: nothing is spent after an emptying, its event's bytes included; else what an accepted call adds
unfoldable pub record_after : {S : Type 0} → Call → Outcome S → Quota → Quota
record_after c o r = settled_record o (adds_to c r.source) r

-- the list that a call returns
unfoldable pub list_after : {S : Type 0} → Entry → Outcome S → Quotas
list_after e o = left_with (map (record_after e.call o)) e.quotas

-- the lists that the calls return, by their outcomes
unfoldable pub lists_after : {S : Type 0} → List Entry → List (Outcome S) → List Quotas
lists_after calls os = lists_with list_after calls os
