use Prim.Native.Nat.{ℕ}
use Rattle.std.proofs.Common.{arith, refl, ap}
use Rattle.pools.specs.Effects.{with_pool}
use Rattle.pools.proofs.EventCalls.{gain-place}
use Rattle.metered.proofs.Eventing.{stored-gain}
use Rattle.metered.proofs.events.add_event.Goals as goal

pub bounds-state-gain : goal.bounds-state-gain
bounds-state-gain c = omega (arith, gain-place _ _ c.gain_of-gain.ensures.0.2)

pub returns : goal.returns
unfolding with_pool
returns c =
    let a = c.args in
    let gain = c.gain_of-gain.result in
    let below = gain-place _ _ c.gain_of-gain.ensures.0.2 in
    stored-gain a.state a.list.now a.source a.pool a.«data».now gain _ c.gain_of-gain.new.list c.gain_of-gain.ensures
    (refl, refl, ap (λ (place : ℕ). with_pool a.state place gain.pool) (omega (arith, below)))
