use Rattle.std.proofs.Common.{◌≡◌, take, drop, ◌++◌, ◌≤◌, length}
use Rattle.convert.proofs.line.copy_in.Given as goal

-- the first i characters are copied, and there is room for all that will be
abbrev pub invariant-loop-i : goal.invariant-loop-i
invariant-loop-i l = (l.out ≡ take l.i l.c-items ++ drop l.i l.initial.out) × (length l.c-items ≤ length l.initial.out)
