use Rattle.std.proofs.Common.{◌≡◌, Ok, Err, sym, rules}
use Rattle.pools.specs.Promises.{code}
use Rattle.quotas.specs.Records.{quotas_number}
use Rattle.quotas.proofs.Checking.{check-start, check-next, check-end}
use Rattle.quotas.proofs.check.Goals as goal

pub returns-in_err-bound : goal.returns-in_err-bound
returns-in_err-bound c =
    let e : code c.in_err-bound.field-0.0 ≡ quotas_number c.args.list.now =
    check-start c.args.list.now (Err c.in_err-bound.field-0.0) c.in_err-bound.ensures in
    search rules

pub loop-i-init : goal.loop-i-init
loop-i-init c = check-start c.args.list.now (Ok c.in_ok-bound.bound) c.in_ok-bound.ensures

pub returns-in_err-bound-2 : goal.returns-in_err-bound-2
returns-in_err-bound-2 c =
    let at = c.loop-i in
    let e : code c.in_err-bound-2.field-0.0 ≡ quotas_number c.args.list.now =
    check-next c.args.list.now at.i at.bound _ _ (Err c.in_err-bound-2.field-0.0) c.loop-i-test.true at.invariant
    c.start_at.ensures c.find-place.ensures c.in_err-bound-2.ensures in
    search rules

pub loop-i-preserved : goal.loop-i-preserved
loop-i-preserved c =
    let at = c.loop-i in
    check-next c.args.list.now at.i at.bound _ _ (Ok c.in_ok-bound-2.bound) c.loop-i-test.true at.invariant
    c.start_at.ensures c.find-place.ensures c.in_ok-bound-2.ensures

pub returns : goal.returns
returns c = sym (check-end c.args.list.now c.loop-i.i c.loop-i.bound c.loop-i-test.false c.loop-i.invariant)
