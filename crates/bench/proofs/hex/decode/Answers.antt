use mathlib.Core.Path.{◌≡◌}
use Prim.Native.Nat.{◌/◌, ◌<◌}
use native.Mathlib.Nat.{add-zero}
use native.Mathlib.Omega.{arith}
use lib.ListN.{length}
use Rattle.bench.proofs.Hexadecimal.{pair-digit, decoded-none, decoded-more, decoded-all}
use Rattle.bench.proofs.hex.decode.Goals as goal

pub loop-i-init : goal.loop-i-init
loop-i-init c = decoded-none _ _

pub loop-i-preserved : goal.loop-i-preserved
loop-i-preserved c =
    let text = c.args.text.now in
    let pairs = c.as_chunks.result.0.now in
    let i = c.loop-i.i in
    let inside : i < length text / 2 = omega (arith, c.loop-i-test.true, c.as_chunks.ensures.front_len) in
    let digit = pair-digit pairs (length text / 2) text i in
    let high = rw add-zero at (digit 0 c.as_chunks.ensures.front inside (omega arith)) in
    let low = digit 1 c.as_chunks.ensures.front inside (omega arith) in
    decoded-more _ _ _ _ _ c.loop-i.invariant (rw (high, low) at c.byte.ensures) (omega (arith, inside)) (omega (arith, inside, c.requires))

pub returns : goal.returns
returns c =
    let text = c.args.text.now in
    let e : c.loop-i.i ≡ length text / 2 = omega (arith, c.loop-i-test.false, c.loop-i.auto.i-end, c.as_chunks.ensures.front_len) in
    decoded-all _ _ _ _ c.loop-i.invariant e
