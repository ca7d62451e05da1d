use native.Mathlib.Omega.{arith}
use borrow.Author.Rules.{rules}
use Rattle.word_cipher.proofs.Expansion.{grown-none, grown-more, grown-all}
use Rattle.word_cipher.proofs.key.grow.Goals as goal

pub loop-turn-init : goal.loop-turn-init
loop-turn-init c = grown-none c.args.words.now

pub loop-turn-preserved : goal.loop-turn-preserved
loop-turn-preserved c =
    grown-more c.args.words.now _ _ _ _ _ _ c.loop-turn.invariant (omega arith) (omega arith) (search rules)
    c.rotated_temp-rotated.ensures c.four_more.ensures c.sub_word-plain.ensures c.four_more-in-loop-turn.ensures

pub returns : goal.returns
returns c =
    grown-all c.args.words.now _ _ _ _ c.loop-turn.invariant (omega arith) (search rules)
    c.rotated_temp-last.ensures c.four_more-2.ensures
