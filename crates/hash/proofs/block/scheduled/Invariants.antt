use Rattle.std.proofs.Common.{◌*◌}
use Rattle.hash.proofs.Schedule.{Scheduled}
use Rattle.hash.proofs.block.scheduled.Given as goal

abbrev pub invariant-loop-i : goal.invariant-loop-i
invariant-loop-i l = Scheduled l.block l.w (4 * l.i)
