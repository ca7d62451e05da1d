-- The readings that 01 marks [P], as rows of one table: what calls do, beside what 01 says.
-- Assumes nothing.
use Rattle.std.specs.Prelude.{◌≡◌, true, false, List, [], ◌∷◌, ◌++◌, map, ℕ, ◌+◌, ◌-◌, ◌^◌, take, replicate}
use Rattle.laws.specs.Lists.{tabulate}
use Rattle.hash.specs.ShaD.{empty_pool}
use Rattle.hash.specs.declared.hasher.Hasher.{Hasher}
use Rattle.generator.specs.Steps.{initial, encode}
use Rattle.pools.specs.declared.Fortuna.{Fortuna}
use Rattle.pools.specs.State.{fresh, pool_at, counter_of}
use Rattle.pools.specs.Effects.{random_data}
use Rattle.pools.specs.Calls.{Call, event, request, update, Outcome, step, run}
use Rattle.quotas.specs.Entries.{without, taking}
use Rattle.reference.specs.Reference.{scheduled, reference_step}

-- a pool that holds n bytes in whole blocks
unfoldable pub whole_blocks : ℕ → Hasher
whole_blocks n = record { chain = replicate 8 0; tail = replicate 64 0; length = n }

-- a seeded state with the counter c, after n pool reseeds, the last at `mark`, where pool 0 holds 64 bytes
unfoldable pub reseeded_state : ℕ → ℕ → ℕ → Fortuna
reseeded_state c n mark =
    record {
      generator = encode (record { key = replicate 32 1; count = c });
      pools = whole_blocks 64 ∷ replicate 31 empty_pool;
      last_reseed = mark;
      reseed_count = n;
      reseeded = true;
      key_requests = 0;
    }

-- a seeded state with the counter c, and nothing in the pools
unfoldable pub seeded_state : ℕ → Fortuna
seeded_state c =
    record {
      generator = encode (record { key = replicate 32 1; count = c });
      pools = replicate 32 empty_pool;
      last_reseed = 0;
      reseed_count = 0;
      reseeded = false;
      key_requests = 0;
    }

-- the pools that a request of no bytes empties
unfoldable pub emptied_at : Fortuna → ℕ → ℕ
emptied_at s clock = (step s (request clock [])).effect.emptied

-- source 7, bytes A1 B2: the pool gains 07 00 02 A1 B2
abbrev pub GainRow : Type 0
GainRow =
    let p : Hasher = pool_at (step fresh (event 7 3 (0xa1 ∷ 0xb2 ∷ []))).effect.next 3 in
    (p.length ∷ take 6 p.tail) ≡ 5 ∷ 0x07 ∷ 0x00 ∷ 0x02 ∷ 0xa1 ∷ 0xb2 ∷ 0 ∷ []

-- pools emptied at reseed 2, 3, 4, 6, at 2^31 and at 2^32
abbrev pub EmptiedRow : Type 0
EmptiedRow =
    map (λ (n : ℕ). emptied_at (reseeded_state 1 (n - 1) 0) 200) (2 ∷ 3 ∷ 4 ∷ 6 ∷ (2 ^ 31) ∷ (2 ^ 32) ∷ [])
    ≡ 2 ∷ 1 ∷ 3 ∷ 2 ∷ 32 ∷ 32 ∷ []

-- flag set, pool 0 at 64 bytes: mark 4294967290, readings 94 (100 elapsed) and 95; mark 10, readings 5, 110 and 111
abbrev pub DueRow : Type 0
DueRow =
    emptied_at (reseeded_state 1 1 4294967290) 94
    ∷ emptied_at (reseeded_state 1 1 4294967290) 95
    ∷ emptied_at (reseeded_state 1 1 10) 5
    ∷ emptied_at (reseeded_state 1 1 10) 110
    ∷ emptied_at (reseeded_state 1 1 10) 111
    ∷ []
    ≡ 0 ∷ 2 ∷ 2 ∷ 0 ∷ 2 ∷ []

-- two events of pool 0, of 30 and n bytes of data, then a request of no bytes: its number, and the pools that it empties
unfoldable pub filled : ℕ → List Call
filled n = event 1 0 (replicate 30 5) ∷ event 900 0 (replicate n 6) ∷ request 0 [] ∷ []

-- no reseed made yet: pool 0 at 63 bytes is not due (and the state unseeded), at 64 it is, at reseed 1
abbrev pub FirstReseedRow : Type 0
FirstReseedRow =
    map
    (λ (n : ℕ). map (λ (o : Outcome Fortuna). o.number) (run (filled n)) ++ map (λ (o : Outcome Fortuna). o.effect.emptied) (run (filled n)))
    (27 ∷ 28 ∷ [])
    ≡ (0 ∷ 0 ∷ 23 ∷ 0 ∷ 0 ∷ 0 ∷ []) ∷ (0 ∷ 0 ∷ 0 ∷ 0 ∷ 0 ∷ 1 ∷ []) ∷ []

-- counter growth without a reseed, for n = 0, 1, 16, 17, 1,048,576
abbrev pub GrowthRow : Type 0
GrowthRow =
    map (λ (n : ℕ). counter_of (random_data (seeded_state 1) 0 n).next) (0 ∷ 1 ∷ 16 ∷ 17 ∷ 1048576 ∷ [])
    ≡ map (λ (g : ℕ). 1 + g) (2 ∷ 3 ∷ 3 ∷ 4 ∷ 65538 ∷ [])

-- fresh state, update with 64 bytes that are not all equal: C ends at 7
abbrev pub UpdateRow : Type 0
UpdateRow = counter_of (step fresh (update 0 (tabulate (λ (i : ℕ). i) 64))).effect.next ≡ 7

-- seeded, nothing due, n = 0: C = 2^128 - 3 accepted, C = 2^128 - 2 refused
abbrev pub SpentRow : Type 0
SpentRow = map (λ (c : ℕ). (step (seeded_state c) (request 0 [])).number) ((2 ^ 128 - 3) ∷ (2 ^ 128 - 2) ∷ []) ≡ 0 ∷ 24 ∷ []

-- the reseeds that the events of the model after one event of pool 2 are booked for, where R is r
unfoldable pub booked_after : ℕ → List ℕ
booked_after r =
    map scheduled
    (reference_step 0 (record { generator = initial; last_reseed = 0; reseeds = r; events = []; key_requests = 0 })
    (taking without (event 7 2 (0xa1 ∷ [])))).effect.next.events

-- pool 2, an event after reseed 5 enters at 8, after reseed 8 at 12
abbrev pub ScheduleRow : Type 0
ScheduleRow = map booked_after (5 ∷ 8 ∷ []) ≡ (8 ∷ []) ∷ (12 ∷ []) ∷ []

-- the rows together
pub record Readings : Type 0 where
  pub gain : GainRow
  pub emptied : EmptiedRow
  pub due : DueRow
  pub first_reseed : FirstReseedRow
  pub growth : GrowthRow
  pub updated : UpdateRow
  pub spent : SpentRow
  pub schedule : ScheduleRow
