use borrow.Author.Rules.{rules}
use Rattle.laws.proofs.Tabulate.{made-by}
use Rattle.word_cipher.specs.Words.{unpacked}
use Rattle.word_cipher.proofs.block.unpack.Goals as goal

pub returns : goal.returns
unfolding unpacked
returns c = made-by _ _ 0 _ _ (λ i y q k. search rules) _ c.from_fn.ensures.items
