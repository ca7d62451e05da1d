use Rattle.std.proofs.Common.{◌≡◌, length, ◌∙◌, rules, arith}
use Rattle.slots.proofs.LeastBits.{low-bits}
use Rattle.slots.proofs.bits.low_bits.Goals as goal

pub returns : goal.returns
returns c =
    let long : length c.args.bytes ≡ 4 = search rules in
    let n = c.from in
    low-bits c.args.bytes n.result c.args.k c.min.result long (n.ensures ∙ c.from_le_bytes.ensures) (omega arith) c.min.ensures
