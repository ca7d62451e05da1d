-- Blank flash (02 (vii)): which calls 36 refuses, in every state, and what they leave; what a page holds decides nothing about a write.
-- Assumes nothing.
use Rattle.std.specs.Prelude.{◌≡◌, ℕ, ◌≢◌, ◌↔◌, List, [], length, replicate}
use Rattle.pools.specs.declared.Fortuna.{Fortuna}
use Rattle.pools.specs.State.{counter_of, malformed, due}
use Rattle.pools.specs.Refusals.{and_then, seed_input, update_state}
use Rattle.pools.specs.Calls.{Call, update, write, call_number, step}

-- an update whose 64 bytes are all b
abbrev pub blank_update : ℕ → ℕ → Call
blank_update clock b = update clock (replicate 64 b)

pub record BlankLaw : Type 0 where
  -- 36 refuses these and no other call, also where the state is malformed or the counter spent
  pub refused : (s : Fortuna) (c : Call) → ((step s c).number ≡ 36) ↔ ((clock : ℕ) × (b : ℕ) × (c ≡ blank_update clock b))
  -- it empties no pool, enciphers nothing, and leaves page and state
  pub untouched :
      (s : Fortuna) (clock b : ℕ) →
      (step s (blank_update clock b)).effect ≡ record { emptied = 0; buffer = replicate 64 b; next = s; trace = [] }
  -- any other update is refused as before: by its size, then by the state
  pub others :
      (s : Fortuna) (clock : ℕ) (seed : List ℕ) → ((b : ℕ) → seed ≢ replicate 64 b)
      → call_number s (update clock seed) ≡ and_then (seed_input seed) (update_state (malformed s) (counter_of s) (due s clock))
  -- a write is answered alike over any two pages of one size, and an accepted one gives the same
  pub writes :
      (s : Fortuna) (clock : ℕ) (held other : List ℕ) → length held ≡ length other
      → ((step s (write clock held)).number ≡ (step s (write clock other)).number)
      × ((step s (write clock held)).number ≡ 0 → (step s (write clock held)).effect ≡ (step s (write clock other)).effect)
