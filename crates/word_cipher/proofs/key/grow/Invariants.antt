use Rattle.word_cipher.proofs.Expansion.{Grown}
use Rattle.word_cipher.proofs.key.grow.Given as goal

abbrev pub invariant-loop-turn : goal.invariant-loop-turn
invariant-loop-turn l = Grown l.initial.words l.words l.turn
