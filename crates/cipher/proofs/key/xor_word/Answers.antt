use Prim.Native.Nat.{ℕ}
use borrow.Author.Rules.{rules}
use Rattle.laws.specs.Lists.{tabulate}
use Rattle.laws.proofs.Tabulate.{made-by}
use Rattle.cipher.specs.Field.{◌⊕◌}
use Rattle.cipher.specs.Aes.{at}
use Rattle.cipher.proofs.key.xor_word.Goals as goal

pub returns : goal.returns
unfolding tabulate
returns c = made-by _ (λ (i : ℕ). at c.args.s i ⊕ at c.args.t i) 0 _ _ (λ i y q k. search rules) 4 c.from_fn.ensures.items
