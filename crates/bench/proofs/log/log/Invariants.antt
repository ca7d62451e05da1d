use Rattle.std.specs.Slice.Iter.{split_inclusive_rest}
use Rattle.bench.proofs.Logs.{Logged}
use Rattle.bench.proofs.log.log.Given as goal

abbrev pub invariant-loop-part : goal.invariant-loop-part
invariant-loop-part l = Logged l.input l.initial.out l.out l.state (split_inclusive_rest l.part-iterator) l.stored
