use Rattle.std.proofs.Common.{arith}
use Rattle.laws.specs.Blocks.{block_count}
use Rattle.laws.proofs.block_count.Goals as goal

pub returns : goal.returns
unfolding block_count
returns c = grind (arith)
