-- The reference model's reading of a list of quotas (02 (x)): record by record, with no place looked for.
-- Assumes nothing.
use Rattle.std.specs.Prelude.{Bool, false, cond, ◌||◌, List, [], ◌∷◌, map, ℕ, ◌+◌, eqb, ltb, length}
use Rattle.laws.specs.Refusals.{refuse}
use Rattle.pools.specs.Calls.{Call, event, request, update, write, draw, shuffle, Outcome}
use Rattle.quotas.specs.declared.Quota.{Quota}
use Rattle.quotas.specs.Entries.{Quotas, without, within, left_with, Entry, lists_with}

-- whether a record passes a test
unfoldable pub some : (Quota → Bool) → List Quota → Bool
some t [] = false
some t (r ∷ rs) = t r || some t rs

-- the records of a source
unfoldable pub records_of : ℕ → List Quota → List Quota
records_of x [] = []
records_of x (r ∷ rs) = cond (eqb r.source x) (r ∷ records_of x rs) (records_of x rs)

-- a list over 64, a source that has more than one record, spent above allowance
unfoldable pub faulty : List Quota → Bool
faulty rs =
    ltb 64 (length rs) || some (λ r. ltb 1 (length (records_of r.source rs))) rs || some (λ r. ltb r.allowance r.spent) rs

-- an event of a source with n bytes of data: 37; 38, it has no record; 39, spent + 3 + n above the allowance of one that it has
unfoldable pub event_by_records : List Quota → ℕ → ℕ → ℕ
event_by_records rs x n =
    let own = records_of x rs in
    refuse (faulty rs) 37 (refuse (eqb (length own) 0) 38 (refuse (some (λ r. ltb r.allowance (r.spent + 3 + n)) own) 39 0))

-- the number that a list gives a call
unfoldable pub by_records : Quotas → Call → ℕ
by_records without c = 0
by_records (within rs) (event source pool content) = event_by_records rs source (length content)
by_records (within rs) (request clock buffer) = refuse (faulty rs) 37 0
by_records (within rs) (update clock seed) = refuse (faulty rs) 37 0
by_records (within rs) (write clock seed) = refuse (faulty rs) 37 0
by_records (within rs) (draw clock n d) = refuse (faulty rs) 37 0
by_records (within rs) (shuffle clock list) = refuse (faulty rs) 37 0

-- what an accepted call adds to a record of the source x: an event of x 3 and its data's length
unfoldable pub adds_to : Call → ℕ → ℕ
adds_to (event source pool content) x = cond (eqb x source) (3 + length content) 0
adds_to (request clock buffer) x = 0
adds_to (update clock seed) x = 0
adds_to (write clock seed) x = 0
adds_to (draw clock n d) x = 0
adds_to (shuffle clock list) x = 0

-- a record after a call of any kind that adds so much to it where it is accepted: nothing is spent after pools were emptied
abbrev pub settled_record : {S : Type 0} → Outcome S → ℕ → Quota → Quota
settled_record o adds r =
    record {
      source = r.source;
      allowance = r.allowance;
      spent = cond (ltb 0 o.effect.emptied) 0 (r.spent + cond (eqb o.number 0) adds 0);
    }

-- a record after a call: nothing is spent after a pool reseed, 33 included; else what an accepted call adds
unfoldable pub record_after : {S : Type 0} → Call → Outcome S → Quota → Quota
record_after c o r = settled_record o (adds_to c r.source) r

-- the list that a call returns
unfoldable pub list_after : {S : Type 0} → Entry → Outcome S → Quotas
list_after e o = left_with (map (record_after e.call o)) e.quotas

-- the lists that the calls return, by their outcomes
unfoldable pub lists_after : {S : Type 0} → List Entry → List (Outcome S) → List Quotas
lists_after calls os = lists_with list_after calls os
