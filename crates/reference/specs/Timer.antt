-- Demand 3, the timer, over the station's run and spelled out: when a call makes a pool reseed, and that nothing else moves the mark.
-- Assumes nothing.
use Rattle.std.specs.Prelude.{◌≡◌, Bool, true, false, cond, ◌↔◌, ◌⊎◌, List, [], ◌∷◌, ℕ, ◌+◌, ◌%◌, ◌^◌, ◌≤◌, ◌<◌, ltb, length}
use Rattle.pools.specs.declared.Fortuna.{Fortuna}
use Rattle.pools.specs.Schedule.{elapsed}
use Rattle.pools.specs.State.{pool_at, due}
use Rattle.pools.specs.Calls.{Call, event, request, update, write, draw, shuffle, reading_of, Outcome}
use Rattle.quotas.specs.Entries.{Entry, entry_number, entry_step}
use Rattle.reference.specs.Runs.{run, state_after}

-- the pool reseeds made in a run: the calls that emptied a pool
unfoldable pub pool_reseeds : List (Outcome Fortuna) → ℕ
pool_reseeds [] = 0
pool_reseeds (o ∷ os) = cond (ltb 0 o.effect.emptied) 1 0 + pool_reseeds os

unfoldable pub reseeds_after : List Entry → ℕ
reseeds_after calls = pool_reseeds (run calls)

-- whether a call makes a request, or several
unfoldable pub requests : Call → Bool
requests (event source pool content) = false
requests (request clock buffer) = true
requests (update clock seed) = true
requests (write clock seed) = true
requests (draw clock n d) = ltb 0 d
requests (shuffle clock list) = ltb 1 (length list)

-- the clock shows `reading` e milliseconds after it showed `mark`
abbrev pub Later : ℕ → ℕ → ℕ → Type 0
Later mark e reading = (e < 2 ^ 32) × ((mark + e) % 2 ^ 32 ≡ reading % 2 ^ 32)

-- elapsed is that e
abbrev pub ElapsedLaw : Type 0
ElapsedLaw = (reading mark : ℕ) → Later mark (elapsed reading mark) reading

-- what tells a pool reseed, in every state and with every list: a call empties pools exactly where it is not refused, makes a request
-- and the state has a pool reseed due
abbrev pub ReseedTold : Type 0
ReseedTold =
    (s : Fortuna) (c : Entry) →
    (0 < (entry_step s c).effect.emptied) ↔ ((entry_number s c ≡ 0) × (requests c.call ≡ true) × (due s (reading_of c.call) ≡ true))

-- the call c after these
pub record TimerStep (calls : List Entry) (c : Entry) : Type 0 where
  -- it empties pools exactly if it is not refused (33 comes after its tries), makes a request, pool 0 holds 64 bytes or more, and no
  -- reseed was made yet or more than 100 ms went by since the last
  pub reseeds :
      (0 < (entry_step (state_after calls) c).effect.emptied)
      ↔ ((((entry_step (state_after calls) c).number ≡ 0) ⊎ ((entry_step (state_after calls) c).number ≡ 33)) × (requests c.call ≡ true)
      × (64 ≤ (pool_at (state_after calls) 0).length)
      × ((reseeds_after calls ≡ 0) ⊎ ((e : ℕ) × Later (state_after calls).last_reseed e (reading_of c.call) × (100 < e))))
  -- the mark moves exactly then, to the reading
  pub mark :
      (entry_step (state_after calls) c).effect.next.last_reseed
      ≡ cond (ltb 0 (entry_step (state_after calls) c).effect.emptied) (reading_of c.call) (state_after calls).last_reseed
