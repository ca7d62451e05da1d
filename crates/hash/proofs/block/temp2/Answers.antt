use Rattle.hash.specs.Block.{T₂}
use Rattle.hash.proofs.block.temp2.Goals as goal

pub returns : goal.returns
unfolding T₂
returns c = cc
