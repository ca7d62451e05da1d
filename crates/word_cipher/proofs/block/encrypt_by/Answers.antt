use mathlib.Core.Path.{◌≡◌, refl}
use native.Mathlib.Omega.{arith}
use Rattle.word_cipher.specs.Cipher.{word_rounds, word_cipher}
use Rattle.word_cipher.proofs.Rounds.{two-in-a-turn}
use Rattle.word_cipher.proofs.block.encrypt_by.Goals as goal

pub loop-turn-init : goal.loop-turn-init
unfolding word_rounds
loop-turn-init c = refl

pub loop-turn-preserved : goal.loop-turn-preserved
loop-turn-preserved c =
    let l = c.loop-turn in
    two-in-a-turn _ _ _ _ _ _ l.turn l.invariant c.round-middle.ensures c.round-u.ensures

pub returns : goal.returns
unfolding word_cipher word_rounds
returns c =
    let l = c.loop-turn in
    let last : l.turn ≡ 6 = omega arith in
    let e = rw last at l.invariant in
    cc
