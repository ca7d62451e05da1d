use Rattle.laws.proofs.Tabulate.{Filled}
use Rattle.word_cipher.specs.Words.{word_in}
use Rattle.word_cipher.proofs.key.expand_key.Given as goal

abbrev pub invariant-loop-k : goal.invariant-loop-k
invariant-loop-k l = Filled (word_in l.fn.key) 60 l.words l.k
