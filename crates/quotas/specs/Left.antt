-- What a list changes of a call, and what a call leaves of its list (02 (x)), in every state and with every list.
-- Assumes nothing.
use Rattle.std.specs.Prelude.{◌≡◌, false, cond, ◌≢◌, List, [], ◌∷◌, ℕ, ◌+◌, ◌<◌, eqb, length, get_or}
use Rattle.laws.specs.Lists.{count_of}
use Rattle.pools.specs.declared.Fortuna.{Fortuna}
use Rattle.pools.specs.Calls.{Call, event, request, update, write, draw, shuffle, input_buffer, input_number, step}
use Rattle.pools.specs.Promises.{call_numbers}
use Rattle.quotas.specs.declared.Quota.{Quota}
use Rattle.quotas.specs.Records.{no_record, malformed_quotas}
use Rattle.quotas.specs.Entries.{Quotas, without, within, taking, list_number, entry_number, entry_step, quotas_left}

-- a call without a list is as before
abbrev pub AsBefore : Type 0
AsBefore = (s : Fortuna) (c : Call) → entry_step s (taking without c) ≡ step s c

pub record ByList (s : Fortuna) (q : Quotas) (c : Call) : Type 0 where
  -- where the list gives no number, the call is as without one
  pub passed : list_number q c ≡ 0 → entry_step s (taking q c) ≡ step s c
  -- where it gives one and the input none, that number refuses the call: it empties no pool, enciphers nothing, and leaves buffer and state
  pub refused :
      input_number c ≡ 0 → list_number q c ≢ 0 →
      entry_step s (taking q c)
      ≡ record { number = list_number q c; value = 0; effect = record { emptied = 0; buffer = input_buffer c; next = s; trace = [] } }

-- ---- numbers

-- the numbers that a call's check gives: 0, and those that refuse it, in the order of the check
unfoldable pub entry_numbers : Quotas → Call → List ℕ
entry_numbers without c = call_numbers c
entry_numbers (within rs) (event source pool content) = 0 ∷ 11 ∷ 12 ∷ 13 ∷ 37 ∷ 38 ∷ 39 ∷ 21 ∷ 22 ∷ []
entry_numbers (within rs) (request clock buffer) = 0 ∷ 14 ∷ 37 ∷ 21 ∷ 23 ∷ 24 ∷ []
entry_numbers (within rs) (update clock seed) = 0 ∷ 15 ∷ 36 ∷ 37 ∷ 21 ∷ 24 ∷ []
entry_numbers (within rs) (write clock seed) = 0 ∷ 15 ∷ 37 ∷ 21 ∷ 23 ∷ 24 ∷ []
entry_numbers (within rs) (draw clock n d) = 0 ∷ 31 ∷ 32 ∷ 37 ∷ 21 ∷ 23 ∷ 24 ∷ []
entry_numbers (within rs) (shuffle clock list) = 0 ∷ 31 ∷ 37 ∷ 21 ∷ 23 ∷ 24 ∷ []

-- no call is refused by another number
abbrev pub EntryNumbersLaw : Type 0
EntryNumbersLaw = (s : Fortuna) (q : Quotas) (c : Call) → count_of (entry_number s (taking q c)) (entry_numbers q c) ≡ 1

-- ---- the list that a call returns

-- the list that the call c returns, which took rs on the state s
unfoldable pub left_by : Fortuna → List Quota → Call → List Quota
left_by s rs c = quotas_left c rs (entry_step s (taking (within rs) c))

-- the record at a place
abbrev pub record_at : List Quota → ℕ → Quota
record_at rs i = get_or rs i no_record

pub record LeftLaw (s : Fortuna) (rs : List Quota) : Type 0 where
  -- a call that is refused before it does anything changes no record; 33 comes after tries, and is no such number
  pub refused : (c : Call) → entry_number s (taking (within rs) c) ≢ 0 → left_by s rs c ≡ rs
  -- a call that made a pool reseed leaves all spent 0, 33 included; sources and allowances stay
  pub reseeded :
      (c : Call) → 0 < (entry_step s (taking (within rs) c)).effect.emptied →
      (length (left_by s rs c) ≡ length rs)
      × ((i : ℕ) → i < length rs → record_at (left_by s rs c) i
      ≡ record { source = (record_at rs i).source; allowance = (record_at rs i).allowance; spent = 0 })
  -- 33 without a pool reseed changes no record
  pub none-drawn :
      (c : Call) → (entry_step s (taking (within rs) c)).number ≡ 33 → (entry_step s (taking (within rs) c)).effect.emptied ≡ 0 →
      left_by s rs c ≡ rs
  -- a call that is no event changes no record unless it makes a pool reseed
  pub others :
      (c : Call) → ((source pool : ℕ) (content : List ℕ) → c ≢ event source pool content) →
      (entry_step s (taking (within rs) c)).effect.emptied ≡ 0 → left_by s rs c ≡ rs
  -- an accepted event adds 3 and its data's length to what its source has spent, and changes no other record
  pub event :
      (source pool : ℕ) (content : List ℕ) → entry_number s (taking (within rs) (event source pool content)) ≡ 0 →
      (length (left_by s rs (event source pool content)) ≡ length rs)
      × ((i : ℕ) → i < length rs → record_at (left_by s rs (event source pool content)) i
      ≡ record {
        source = (record_at rs i).source;
        allowance = (record_at rs i).allowance;
        spent = (record_at rs i).spent + cond (eqb (record_at rs i).source source) (3 + length content) 0;
      })
  -- a list that 37 does not refuse is returned as such a list
  pub formed : (c : Call) → malformed_quotas rs ≡ false → malformed_quotas (left_by s rs c) ≡ false
