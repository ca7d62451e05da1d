use native.Mathlib.Omega.{arith}
use Rattle.convert.proofs.Stores.{end-small, put-nothing, put_all}
use Rattle.convert.proofs.line.put.Goals as goal

pub overflow_add-total : goal.overflow_add-total
overflow_add-total c = omega (arith, c.end_size.ensures, end-small c.args.ended)

pub returns-then-out-total : goal.returns-then-out-total
returns-then-out-total c =
    let a = c.args in
    put-nothing a.out.now a.front.now a.rest.now a.ended _ c.end_size.ensures c.if-out-total.true

pub returns : goal.returns
returns c =
    let a = c.args in
    put_all a.out.now a.front.now a.rest.now a.ended _ _ c.store_parts.ensures c.store_end.ensures
    _ c.end_size.ensures c.if-out-total.false
