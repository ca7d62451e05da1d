use Rattle.std.proofs.Common.{arith}
use Rattle.hash.proofs.Padding.{filled_is}
use Rattle.hash.proofs.tail.filled.Goals as goal

pub returns : goal.returns
returns c =
    let a = c.args in
    filled_is a.head.now a.s.now c.overwrite.new.out c.overwrite-2.new.out (omega arith) c.overwrite.ensures c.overwrite-2.ensures
