use Prim.Native.Nat.{ℕ}
use borrow.Author.Rules.{rules}
use Rattle.laws.specs.Lists.{tabulate}
use Rattle.laws.proofs.Tabulate.{made-by}
use Rattle.cipher.specs.Field.{◌⊕◌}
use Rattle.cipher.specs.Aes.{at}
use Rattle.word_cipher.specs.Words.{word_in, packed}
use Rattle.word_cipher.specs.Cipher.{add_words}
use Rattle.word_cipher.proofs.block.whiten.Goals as goal

pub returns : goal.returns
unfolding add_words packed tabulate
returns c = made-by _ (λ (k : ℕ). word_in c.args.s k ⊕ at c.args.w.now k) 0 _ _ (λ k y q h. search rules) 4 c.from_fn.ensures.items
