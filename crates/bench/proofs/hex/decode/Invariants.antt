use Rattle.bench.proofs.Hexadecimal.{Decoded}
use Rattle.bench.proofs.hex.decode.Given as goal

abbrev pub invariant-loop-i : goal.invariant-loop-i
invariant-loop-i l = Decoded l.text l.initial.out l.out l.i
