use Rattle.std.proofs.Common.{Ok, Err}
use Rattle.quotas.proofs.Charging.{charge-listed, charge-unlisted}
use Rattle.quotas.proofs.charge.Goals as goal

pub returns-then-place-list : goal.returns-then-place-list
returns-then-place-list c =
    charge-unlisted c.args.list.now c.args.source c.args.cost c.args.number c.find-place.result c.unlisted.result
    c.find-place.ensures c.if-place-list.true c.unlisted.ensures

pub returns-in-Ok : goal.returns-in-Ok
returns-in-Ok c =
    charge-listed c.args.list.now c.args.source c.args.cost c.args.number c.find-place.result (Ok c.in-Ok.charged)
    c.find-place.ensures c.if-place-list.false c.in-Ok.ensures

pub returns-in-Err : goal.returns-in-Err
returns-in-Err c =
    charge-listed c.args.list.now c.args.source c.args.cost c.args.number c.find-place.result (Err c.in-Err.refusal)
    c.find-place.ensures c.if-place-list.false c.in-Err.ensures
