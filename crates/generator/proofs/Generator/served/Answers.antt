use lib.ListN.{length}
use Rattle.laws.specs.Blocks.{block_count}
use Rattle.generator.proofs.Effects.{request-served}
use Rattle.generator.proofs.Generator.served.Goals as goal

pub filled-next-requires : goal.filled-next-requires
unfolding block_count
filled-next-requires c = c.requires

pub returns : goal.returns
returns c =
    let f = c.filled-next.ensures in
    request-served c.args.self (length c.args.out.now) c.filled-next.result _ _ f.0 f.1 f.2
