use Rattle.std.proofs.Common.{◌/◌, length}
use Rattle.hash.specs.Hasher.{absorb_from}
use Rattle.hash.proofs.Message.{fold-blocks}
use Rattle.hash.proofs.hasher.after_blocks.Goals as goal

pub returns : goal.returns
unfolding absorb_from
returns c =
    let m = c.args.«data».now in
    cc (fold-blocks (length m / 64) c.args.chain m)
