use mathlib.Core.Path.{◌≡◌}
use Rattle.laws.proofs.Parts.{Laid}
use Rattle.word_cipher.specs.Cipher.{word_cipher}
use Rattle.word_cipher.specs.Tables.{tables}
use Rattle.ctr_drbg.specs.Closed.{after, enciphered}
use Rattle.ctr_drbg.proofs.output.fill.Given as goal

-- the first k blocks are laid over the buffer
abbrev pub invariant-loop-k : goal.invariant-loop-k
invariant-loop-k l =
    Laid (enciphered (word_cipher tables l.words) l.initial.v l.k) l.initial.out l.out × (l.v ≡ after l.initial.v l.k)
