use Rattle.hash.specs.Prepared.{prepared_compress}
use Rattle.hash.proofs.Prepared.{prepared-compression}
use Rattle.hash.proofs.block.compress.Goals as goal

pub returns : goal.returns
unfolding prepared_compress
returns c = let e = prepared-compression c.args.chain c.args.block.now in cc
