use Rattle.std.proofs.Common.{rules}
use Rattle.laws.proofs.Tabulate.{made-by}
use Rattle.hash.specs.Prepared.{prepared}
use Rattle.hash.proofs.block.prepared.Goals as goal

pub returns : goal.returns
unfolding prepared
returns c = made-by _ _ 0 _ _ (λ i y q k. search rules) _ c.from_fn.ensures.items
