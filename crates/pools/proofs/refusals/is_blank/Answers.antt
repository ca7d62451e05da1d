use Rattle.std.proofs.Common.{◌≡◌, ◌∙◌, refl, sym, get_or, take, arith}
use Rattle.std.proofs.lemmas.List.Sums.{fold_more}
use lib.Bits.{bit_or, bit_xor}
use lib.Seq.{take_all}
use Rattle.pools.specs.Refusals.{seed_size, blank}
use Rattle.pools.proofs.Bits.{gathered}
use Rattle.pools.proofs.refusals.is_blank.Goals as goal

pub loop-i-init : goal.loop-i-init
loop-i-init c = refl

pub loop-i-preserved : goal.loop-i-preserved
loop-i-preserved c =
    let l = c.loop-i in
    let first = get_or c.args.seed.now 0 0 in
    rw l.invariant (sym (fold_more (λ x y. bit_or x (bit_xor y first)) 0 c.args.seed.now l.i 0 (omega (arith, c.requires))))

pub returns : goal.returns
unfolding blank seed_size
returns c =
    let seed = c.args.seed.now in
    let first = get_or seed 0 0 in
    let all : take c.loop-i.i seed ≡ seed = take_all c.loop-i.i seed (omega (arith, c.requires)) in
    rw (c.loop-i.invariant, all) (gathered 0 first seed ∙ rw c.requires)
