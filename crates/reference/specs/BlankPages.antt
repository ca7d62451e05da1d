-- Blank flash (02 (vii)) with and without a list of quotas: which calls 36 refuses, in every state, and what they leave; what a page holds
-- decides nothing about a write. 36 is a number of the input, so that a list changes nothing of it.
-- Assumes nothing.
use Rattle.std.specs.Prelude.{◌≡◌, ◌≢◌, ◌↔◌, List, [], ℕ, length, replicate}
use Rattle.pools.specs.declared.Fortuna.{Fortuna}
use Rattle.pools.specs.State.{counter_of, malformed, due}
use Rattle.pools.specs.Refusals.{and_then, seed_input, update_state}
use Rattle.pools.specs.Calls.{update, write}
use Rattle.pools.specs.Blank.{blank_update}
use Rattle.quotas.specs.Entries.{Quotas, Entry, taking, list_number, entry_number, entry_step}

pub record BlankPages : Type 0 where
  -- 36 refuses the updates of 64 equal bytes and no other call, also where the list or the state is malformed or the counter spent
  pub refused : (s : Fortuna) (e : Entry) → ((entry_step s e).number ≡ 36) ↔ ((clock : ℕ) × (b : ℕ) × (e.call ≡ blank_update clock b))
  -- it empties no pool, enciphers nothing, and leaves page and state
  pub untouched :
      (s : Fortuna) (q : Quotas) (clock b : ℕ) →
      (entry_step s (taking q (blank_update clock b))).effect ≡ record { emptied = 0; buffer = replicate 64 b; next = s; trace = [] }
  -- any other update is refused by its size, then by the list, then by the state
  pub others :
      (s : Fortuna) (q : Quotas) (clock : ℕ) (seed : List ℕ) → ((b : ℕ) → seed ≢ replicate 64 b)
      → entry_number s (taking q (update clock seed))
      ≡ and_then (seed_input seed) (and_then (list_number q (update clock seed)) (update_state (malformed s) (counter_of s) (due s clock)))
  -- a write is answered alike over any two pages of one size, and an accepted one gives the same
  pub writes :
      (s : Fortuna) (q : Quotas) (clock : ℕ) (held other : List ℕ) → length held ≡ length other
      → ((entry_step s (taking q (write clock held))).number ≡ (entry_step s (taking q (write clock other))).number)
      × ((entry_step s (taking q (write clock held))).number ≡ 0
      → (entry_step s (taking q (write clock held))).effect ≡ (entry_step s (taking q (write clock other))).effect)
