use Rattle.std.proofs.Common.{◌≡◌, ◌*◌}
use Rattle.hash.specs.Prepared.{prepared_rounds}
use Rattle.hash.proofs.block.all_rounds.Given as goal

abbrev pub invariant-loop-i : goal.invariant-loop-i
invariant-loop-i l = l.s ≡ prepared_rounds l.p 0 (8 * l.i) l.initial.s
