use Rattle.pools.proofs.EventCalls.{gain-place}
use Rattle.fortuna_c.proofs.metered_calls.fortuna_metered_event.Goals as goal

pub put_pool-requires : goal.put_pool-requires
put_pool-requires c = gain-place c.args.pool _ c.gain_of-gain.ensures.0.2
