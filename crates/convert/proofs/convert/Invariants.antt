use Rattle.std.specs.Slice.Iter.{split_inclusive_rest}
use Rattle.convert.proofs.Walks.{Walked}
use Rattle.convert.proofs.convert.Given as goal

abbrev pub invariant-loop-part : goal.invariant-loop-part
invariant-loop-part l = Walked l.wide l.log l.initial.out l.out (split_inclusive_rest l.part-iterator) l.line l.written
