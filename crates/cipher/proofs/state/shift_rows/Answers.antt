use borrow.Author.Rules.{rules}
use Rattle.laws.proofs.Tabulate.{made-by}
use Rattle.cipher.specs.Aes.{shift_rows}
use Rattle.cipher.proofs.state.shift_rows.Goals as goal

pub returns : goal.returns
unfolding shift_rows
returns c = made-by _ _ 0 _ _ (λ i y q k. search rules) _ c.from_fn.ensures.items
