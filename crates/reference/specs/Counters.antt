-- Demand 3, counters: no counter block is enciphered twice in a run. The trace has every Block step: output, key blocks, seed calls.
-- Assumes nothing.
use Rattle.std.specs.Prelude.{◌≡◌, Bool, true, false, cond, ◌&&◌, List, [], ◌∷◌, ℕ, ◌+◌, eqb, length}
use Rattle.laws.specs.Lists.{joined}
use Rattle.pools.specs.declared.Fortuna.{Fortuna}
use Rattle.pools.specs.Calls.{Call, event, request, update, write, draw, shuffle, Outcome}
use Rattle.pools.specs.State.{counter_of}
use Rattle.quotas.specs.Entries.{Entry}
use Rattle.reference.specs.Runs.{run, state_after}
use Rattle.reference.specs.Timer.{reseeds_after}

-- the counter blocks of a run, in the order of its Block steps
unfoldable pub counter_blocks : List Entry → List (List ℕ)
counter_blocks calls = joined (λ (o : Outcome Fortuna). o.effect.trace) (run calls)

-- the accepted updates of a run, each of which reseeds the generator with its seed
unfoldable pub is_update : Call → Bool
is_update (event source pool content) = false
is_update (request clock buffer) = false
is_update (update clock seed) = true
is_update (write clock seed) = false
is_update (draw clock n d) = false
is_update (shuffle clock list) = false

unfoldable pub seeds_in : {S : Type 0} → List Entry → List (Outcome S) → ℕ
seeds_in [] os = 0
seeds_in (c ∷ cs) [] = 0
seeds_in (c ∷ cs) (o ∷ os) = cond (is_update c.call && eqb o.number 0) 1 0 + seeds_in cs os

-- the trace is whole: C, which starts at 0, counts each of its blocks, each pool reseed and each seed
abbrev pub Counted : List Entry → Type 0
Counted calls = counter_of (state_after calls) ≡ length (counter_blocks calls) + (reseeds_after calls + seeds_in calls (run calls))
