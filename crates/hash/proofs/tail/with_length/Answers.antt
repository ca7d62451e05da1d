use Rattle.std.proofs.Common.{◌≡◌, length, rules}
use Rattle.hash.proofs.Padding.{last-is}
use Rattle.hash.proofs.tail.with_length.Goals as goal

pub returns : goal.returns
returns c =
    let long : length c.args.block ≡ 64 = search rules in
    rw (c.copy_from_slice.ensures.after, c.length_bytes.ensures) (last-is c.args.block _ long)
