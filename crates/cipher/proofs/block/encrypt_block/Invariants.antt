use Prim.Native.Nat.{◌-◌}
use mathlib.Core.Path.{◌≡◌}
use Rattle.cipher.specs.Aes.{rounds}
use Rattle.cipher.proofs.block.encrypt_block.Given as goal

abbrev pub invariant-loop-n : goal.invariant-loop-n
invariant-loop-n l = l.state ≡ rounds l.schedule (l.n - 1) l.initial.state
