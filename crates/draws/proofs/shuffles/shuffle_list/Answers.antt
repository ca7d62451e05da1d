use Rattle.pools.proofs.Numbers.{tested}
use Rattle.draws.proofs.Copies.{copy_done, copy-kept}
use Rattle.draws.proofs.shuffles.shuffle_list.Goals as goal

pub returns-then-is_ok : goal.returns-then-is_ok
returns-then-is_ok c =
    let a = c.args in
    let drawn = rw c.copy_from_slice.ensures.after at c.shuffle_from-outcome.ensures in
    rw c.copy_from_slice-then-is_ok.ensures.after
    (copy_done a.clock a.state a.list.now _ c.shuffle_from-outcome.result drawn _ (tested _ _ c.is_ok.ensures.value) c.if-is_ok.true)

pub returns-else-is_ok : goal.returns-else-is_ok
returns-else-is_ok c =
    let a = c.args in
    let drawn = rw c.copy_from_slice.ensures.after at c.shuffle_from-outcome.ensures in
    copy-kept a.clock a.state a.list.now _ c.shuffle_from-outcome.result drawn _ (tested _ _ c.is_ok.ensures.value) c.if-is_ok.false
