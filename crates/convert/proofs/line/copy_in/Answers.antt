use Rattle.std.proofs.Common.{◌≡◌, refl, ◌∙◌, arith, length, take}
use lib.ListN.{length-take}
use lib.Seq.{take_all}
use Rattle.laws.proofs.Copy.{copied}
use Rattle.convert.proofs.Stores.{copied-more}
use Rattle.convert.proofs.line.copy_in.Goals as goal

pub loop-i-init : goal.loop-i-init
loop-i-init c = (refl, rw (length-take c.min-n.result c.args.s.now) (omega (arith, c.min-n.ensures)))

pub loop-i-preserved : goal.loop-i-preserved
loop-i-preserved c =
    let at = c.loop-i in (
      copied-more _ _ _ _ at.invariant.0 c.loop-i-test.true (omega (arith, at.invariant.1, c.loop-i-test.true)),
      at.invariant.1,
    )

pub returns : goal.returns
returns c =
    let n = c.min-n.result in
    let s = c.args.s.now in
    let long : length (take n s) ≡ n = rw (length-take n s) (omega (arith, c.min-n.ensures)) in
    let end : c.loop-i.i ≡ n = omega (arith, long, c.loop-i-test.false, c.loop-i.auto.i-end) in
    c.loop-i.invariant.0 ∙ rw (end, take_all n (take n s) (omega (arith, long))) (copied _ _ _ c.min-n.ensures)
