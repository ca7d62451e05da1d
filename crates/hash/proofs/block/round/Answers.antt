use Rattle.hash.specs.Block.{round}
use Rattle.hash.specs.Prepared.{prepared_round}
use Rattle.hash.proofs.Prepared.{takes-sum}
use Rattle.hash.proofs.block.round.Goals as goal

pub returns : goal.returns
unfolding prepared_round round
returns c = takes-sum _ _ _ cc
