-- What an accepted event has passed beside the checks that it shares with the present scheduler.
-- Assumes nothing.
use mathlib.Core.Path.{◌≡◌, refl, sym, ap, ◌∙◌}
use mathlib.Core.Bool.{Bool, true, false, not, ◌&&◌, ◌||◌, and-true, and-false}
use mathlib.Core.Logic.{◌≢◌}
use Prim.Native.Nat.{ℕ, ◌+◌, ◌≤◌}
use native.Mathlib.Omega.{arith}
use lib.Dec.{eqb, ltb}
use borrow.Author.Tests.{eqb-false, ne_eqb}
use Rattle.laws.specs.Refusals.{refuse}
use Rattle.laws.proofs.Refusals.{passed}
use Rattle.generator.specs.Counter.{max_counter}
use Rattle.generator.specs.Steps.{GeneratorState}
use Rattle.generator.specs.Refusals as Generator
use Rattle.pools.specs.Refusals as Pools
use Rattle.pools.specs.Events.{pool_count}
use Rattle.pools.proofs.Chains.{then-then, then-first, then-second, both-passed}
use Rattle.pools.proofs.Acceptance.{not-spent}
use Rattle.pools.specs.State.{unseeded_counted}
use Rattle.pools.proofs.WellFormed.{no_key}
use Rattle.keyed.specs.State.{timer_moved, malformed_fields}
use Rattle.keyed.specs.Scheduler.{empties}
use Rattle.keyed.specs.Refusals.{max_step, step_number, event_input, event_state, event_number}

-- an event names no pool, and pool 0 stands for it in the checks that both schedulers share
input-is : (source n : ℕ) → event_input source n ≡ Pools.event_input source 0 n
unfolding event_input Pools.event_input pool_count
input-is source n = refl

pub event-chains : (m : Bool) (size source n c t : ℕ)
    → event_number m size source n c t ≡ Pools.and_then (Pools.event_number m size source 0 n) (step_number c t)
unfolding event_number event_state Pools.event_number
event-chains m size source n c t =
    rw (input-is source n) (then-then (Pools.event_input source 0 n) (Pools.event_state m size n) (step_number c t))

pub event-parts : (m : Bool) (size source n c t : ℕ) → event_number m size source n c t ≡ 0
    → (Pools.event_number m size source 0 n ≡ 0) × (step_number c t ≡ 0)
event-parts m size source n c t e =
    both-passed (Pools.event_number m size source 0 n) (step_number c t) (sym (event-chains m size source n c t) ∙ e)

module _ (c t : ℕ) (e : step_number c t ≡ 0) where
  parts : (eqb t max_step ≡ false) × (refuse (empties t && Pools.spent c true 0) 24 0 ≡ 0)
  unfolding step_number
  parts = passed (eqb t max_step) 45 (refuse (empties t && Pools.spent c true 0) 24 0) (omega arith) e

  -- a step is left
  pub step_left : t ≡ max_step → ⊥
  step_left = eqb-false t max_step parts.0

  -- and room for its reseed
  pub step-spent : empties t ≡ true → Pools.spent c true 0 ≡ false
  step-spent u = sym (rw u refl) ∙ (passed (empties t && Pools.spent c true 0) 24 0 (omega arith) parts.1).0

  pub step_room : empties t ≡ true → c + 1 ≤ max_counter
  step_room u = let r = not-spent c true 0 (step-spent u) in omega arith

-- ---- what the code tests

-- a reseed takes 1
pub spent_once : (w : GeneratorState) → Pools.spent w.count true 0 ≡ Generator.spent w 1
unfolding Pools.spent Generator.spent
spent_once w = ap (ltb max_counter) (omega arith)

-- an event whose input and pool pass is answered by its step, another by these
pub by_step :
    (m : Bool) (size source n c t : ℕ) → Pools.event_number m size source 0 n ≡ 0 → event_number m size source n c t ≡ step_number c t
by_step m size source n c t e = event-chains m size source n c t ∙ then-second _ (step_number c t) e

pub by_event :
    (m : Bool) (size source n c t : ℕ) → Pools.event_number m size source 0 n ≢ 0 →
    event_number m size source n c t ≡ Pools.event_number m size source 0 n
by_event m size source n c t h = event-chains m size source n c t ∙ then-first _ (step_number c t) h

-- the clause on the requests
pub counted_none : (c : ℕ) → unseeded_counted c 0 ≡ false
unfolding unseeded_counted
counted_none c = and-false (eqb c 0)

pub counted-some : (c n : ℕ) → (n ≡ 0 → ⊥) → unseeded_counted c n ≡ eqb c 0
unfolding unseeded_counted
counted-some c n h = rw (ne_eqb n 0 h) (and-true (eqb c 0))

-- the clauses on the fields, and no key
pub fields_open :
    (w : GeneratorState) (reseeded : Bool) (last count requests : ℕ) →
    malformed_fields w reseeded last count requests
    ≡ (Generator.malformed w || (reseeded || not (eqb last 0 && eqb count 0)) || (eqb w.count 0 && not (eqb requests 0)))
unfolding malformed_fields timer_moved unseeded_counted
fields_open w reseeded last count requests = refl

pub ruleset fields = (fields_open, no_key)
