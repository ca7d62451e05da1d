use Rattle.convert.proofs.Stores.{end-room, end-stored, no_end}
use Rattle.convert.proofs.line.store_end.Goals as goal

pub bounds-out-at : goal.bounds-out-at
bounds-out-at c = end-room c.args.out.now _ c.args.ended c.requires c.if-ended.true

pub returns-then-ended : goal.returns-then-ended
returns-then-ended c = end-stored _ _ _ c.requires c.if-ended.true

pub returns-else-ended : goal.returns-else-ended
returns-else-ended c = no_end c.args.out.now c.args.at c.args.ended c.if-ended.false
