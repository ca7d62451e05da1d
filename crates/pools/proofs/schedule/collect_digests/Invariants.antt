use Rattle.std.proofs.Common.{◌++◌, drop}
use Rattle.pools.proofs.Collecting.{Taken}
use Rattle.pools.proofs.schedule.collect_digests.Given as goal

-- the pools that the loop goes over, and those behind them
abbrev pub invariant-loop-i : goal.invariant-loop-i
invariant-loop-i l = Taken l.fn.pools l.number l.i (l.pool-items ++ drop l.count l.fn.pools) l.seed
