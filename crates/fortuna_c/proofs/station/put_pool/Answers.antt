use Rattle.std.proofs.Common.{refl}
use Rattle.pools.specs.Effects.{with_pool}
use Rattle.fortuna_c.proofs.station.put_pool.Goals as goal

pub returns : goal.returns
unfolding with_pool
returns c = refl
