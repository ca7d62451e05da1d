use Rattle.laws.proofs.Parts.{Laid}
use Rattle.word_cipher.specs.Cipher.{word_cipher}
use Rattle.word_cipher.specs.Tables.{tables}
use Rattle.generator.specs.Closed.{counters, enciphered}
use Rattle.generator.proofs.output.fill.Given as goal

-- the first k blocks are laid over the buffer
abbrev pub invariant-loop-k : goal.invariant-loop-k
invariant-loop-k l = Laid (enciphered (word_cipher tables l.words) (counters l.first l.k)) l.initial.out l.out
