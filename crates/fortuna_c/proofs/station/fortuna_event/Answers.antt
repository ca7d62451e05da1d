use Rattle.pools.proofs.EventCalls.{gain-place}
use Rattle.fortuna_c.proofs.station.fortuna_event.Goals as goal

pub put_pool-requires : goal.put_pool-requires
put_pool-requires c = gain-place c.args.pool _ c.gain_of-gain.ensures.2
