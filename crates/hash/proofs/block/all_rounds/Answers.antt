use Rattle.std.proofs.Common.{refl, sym, ◌∙◌, zero-add, arith, ◌≡◌, ◌+◌, ◌*◌}
use Rattle.hash.specs.Prepared.{prepared_rounds}
use Rattle.hash.proofs.Rounds.{rounds-add}
use Rattle.hash.proofs.block.all_rounds.Goals as goal

pub loop-i-init : goal.loop-i-init
unfolding prepared_rounds
loop-i-init c = refl

pub loop-i-preserved : goal.loop-i-preserved
loop-i-preserved c =
    let i = c.loop-i.i in
    let next : 8 * (i + 1) ≡ 8 * i + 8 = omega arith in
    c.eight_rounds-s.ensures ∙ rw (c.loop-i.invariant, next) (sym (rounds-add _ 0 (8 * i) 8 _ ∙ rw zero-add))
