use Rattle.cipher.proofs.ScheduleLaws.{Expanded}
use Rattle.cipher.proofs.key.expand_key.Given as goal

abbrev pub invariant-loop-i : goal.invariant-loop-i
invariant-loop-i l = Expanded l.fn.key l.words l.i
