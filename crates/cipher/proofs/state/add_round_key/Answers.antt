use borrow.Author.Rules.{rules}
use Rattle.laws.proofs.Tabulate.{made-by}
use Rattle.cipher.specs.Aes.{add_round_key}
use Rattle.cipher.proofs.state.add_round_key.Goals as goal

pub returns : goal.returns
unfolding add_round_key
returns c = made-by _ _ 0 _ _ (λ i y q k. search rules) _ c.from_fn.ensures.items
