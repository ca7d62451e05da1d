use Prim.Native.Nat.{◌*◌}
use mathlib.Core.Path.{◌≡◌}
use Rattle.word_cipher.specs.Cipher.{word_rounds}
use Rattle.word_cipher.proofs.block.encrypt_by.Given as goal

abbrev pub invariant-loop-turn : goal.invariant-loop-turn
invariant-loop-turn l = l.u ≡ word_rounds l.t l.w (2 * l.turn) l.initial.u
