use Rattle.std.proofs.Common.{length}
use Rattle.pools.proofs.Bits.{Found}
use Rattle.pools.proofs.well_formed.is_zero_from.Given as goal

abbrev pub invariant-loop-byte : goal.invariant-loop-byte
invariant-loop-byte l = Found l.bits l.at l.tail (length l.yielded)
