use borrow.Author.Rules.{rules}
use Rattle.laws.proofs.Tabulate.{made-by}
use Rattle.ctr_drbg.specs.Algorithms.{seed_length, xored}
use Rattle.ctr_drbg.proofs.seed.xored.Goals as goal

pub returns : goal.returns
unfolding xored seed_length
returns c = made-by _ _ 0 _ _ (λ i y q k. search rules) _ c.from_fn.ensures.items
