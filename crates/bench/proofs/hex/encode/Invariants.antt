use Rattle.bench.proofs.Hexadecimal.{Encoded}
use Rattle.bench.proofs.hex.encode.Given as goal

abbrev pub invariant-loop-i : goal.invariant-loop-i
invariant-loop-i l = Encoded l.bytes l.initial.out l.out l.i
