use Rattle.hash.proofs.Prepared.{temp-sum}
use Rattle.hash.proofs.block.temp1.Goals as goal

pub returns : goal.returns
returns c = temp-sum _ _ _ cc
