use mathlib.Core.Path.{◌≡◌}
use Prim.Native.Nat.{◌+◌}
use lib.ListN.{length, drop}
use Rattle.bench.specs.Input.{first_line}
use Rattle.bench.proofs.input.line_length.Given as goal

abbrev pub invariant-loop-i : goal.invariant-loop-i
invariant-loop-i l = length (first_line l.chunk) ≡ l.i + length (first_line (drop l.i l.chunk))
