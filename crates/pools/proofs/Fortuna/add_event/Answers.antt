use Rattle.std.proofs.Common.{sym}
use Rattle.pools.specs.Effects.{with_pool}
use Rattle.pools.proofs.EventCalls.{gain-place}
use Rattle.pools.proofs.Fortuna.add_event.Goals as goal

pub bounds-self-gain : goal.bounds-self-gain
bounds-self-gain c = gain-place _ _ c.gain_of-gain.ensures.2

pub returns : goal.returns
unfolding with_pool
returns c =
    let given = c.gain_of-gain.ensures in
    (given.0, sym given.1, given.3)
