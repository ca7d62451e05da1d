use native.Mathlib.Omega.{arith}
use lib.ListN.{replicate}
use borrow.Author.Rules.{rules}
use Rattle.cipher.proofs.ScheduleLaws.{expanded-none, expanded-more, expanded-all}
use Rattle.cipher.proofs.key.expand_key.Goals as goal

pub loop-i-init : goal.loop-i-init
loop-i-init c = rw c.overwrite.ensures (expanded-none (replicate 240 0) c.args.key (search rules) (search rules))

pub loop-i-preserved : goal.loop-i-preserved
loop-i-preserved c =
    expanded-more _ _ _ _ _ c.loop-i.invariant (omega arith) (omega arith)
    c.next_word-word.ensures c.put_word.ensures

pub returns : goal.returns
returns c = expanded-all _ _ _ c.loop-i.invariant (omega arith)
