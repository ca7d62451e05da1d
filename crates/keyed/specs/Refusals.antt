-- The refusals of an event, two chains over plain values: input numbers, then state numbers. The other calls are refused as those of the
-- present scheduler with nothing due.
-- Assumes nothing.
use Rattle.std.specs.Prelude.{Bool, true, ◌&&◌, ◌||◌, ℕ, ◌-◌, ◌^◌, eqb, ltb}
use Rattle.laws.specs.Refusals.{refuse}
use Rattle.pools.specs.Events.{max_source, max_data}
use Rattle.pools.specs.Refusals as Pools
use Rattle.keyed.specs.Scheduler.{empties}

-- the largest step number
unfoldable pub max_step : ℕ
max_step = 2 ^ 64 - 1

-- 45: t is 2^64 - 1; then 24 where the step empties a pool, with u = 1 and b = 0
unfoldable pub step_number : ℕ → ℕ → ℕ
step_number c t = refuse (eqb t max_step) 45 (refuse (empties t && Pools.spent c true 0) 24 0)

-- an event of n bytes of data: 11, 13; it names no pool
unfoldable pub event_input : ℕ → ℕ → ℕ
event_input source n = refuse (ltb max_source source) 11 (refuse (eqb n 0 || ltb max_data n) 13 0)

-- at step t, where the pool that the step picks holds `size` bytes: 21, 22, then the step's
unfoldable pub event_state : Bool → ℕ → ℕ → ℕ → ℕ → ℕ
event_state malformed size n c t = Pools.and_then (Pools.event_state malformed size n) (step_number c t)

-- the input's number, then the state's
unfoldable pub event_number : Bool → ℕ → ℕ → ℕ → ℕ → ℕ → ℕ
event_number malformed size source n c t = Pools.and_then (event_input source n) (event_state malformed size n c t)
