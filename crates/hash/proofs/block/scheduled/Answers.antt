use Rattle.std.proofs.Common.{◌+◌, ◌*◌, refl, arith}
use Rattle.hash.proofs.Schedule.{scheduled-more}
use Rattle.hash.proofs.block.scheduled.Goals as goal

pub loop-i-preserved : goal.loop-i-preserved
loop-i-preserved c =
    let l = c.loop-i in
    let t = 4 * l.i in
    let m = c.args.block.now in
    let h1 = scheduled-more m _ t (t + 1) _ (omega arith) (omega arith) refl c.next_word.ensures l.invariant in
    let h2 = scheduled-more m _ (t + 1) (t + 2) _ (omega arith) (omega arith) (omega arith) c.next_word-in-loop-i.ensures h1 in
    let h3 = scheduled-more m _ (t + 2) (t + 3) _ (omega arith) (omega arith) (omega arith) c.next_word-in-loop-i-2.ensures h2 in
    scheduled-more m _ (t + 3) (4 * (l.i + 1)) _ (omega arith) (omega arith) (omega arith) c.next_word-in-loop-i-3.ensures h3
