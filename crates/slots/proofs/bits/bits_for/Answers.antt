use Rattle.slots.proofs.LeastBits.{bits-by-power}
use Rattle.slots.proofs.bits.bits_for.Goals as goal

pub returns : goal.returns
returns c =
    let p = c.next_power_of_two in
    let k = c.ilog2 in
    bits-by-power c.args.n p.result k.result p.ensures.power
    (rw (← c.min.ensures) p.ensures.lower_bound) (rw (← c.min.ensures) p.ensures.upper_bound) k.ensures.power_le k.ensures.next_power_gt
