use mathlib.Core.Path.{◌≡◌}
use native.Mathlib.Omega.{arith}
use lib.ListN.{length}
use Rattle.bench.proofs.Hexadecimal.{encoded-none, encoded-more, encoded-all}
use Rattle.bench.proofs.hex.encode.Goals as goal

pub loop-i-init : goal.loop-i-init
loop-i-init c = encoded-none _ _

pub loop-i-preserved : goal.loop-i-preserved
loop-i-preserved c =
    encoded-more _ _ _ _ _ _ c.loop-i.invariant c.digit_character.ensures c.digit_character-in-loop-i.ensures (omega arith) (omega (arith, c.requires))

pub returns : goal.returns
returns c =
    let e : c.loop-i.i ≡ length c.args.bytes.now = omega arith in
    encoded-all _ _ _ _ c.loop-i.invariant e
