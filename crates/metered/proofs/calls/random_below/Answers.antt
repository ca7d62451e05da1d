use Rattle.std.proofs.Common.{refl, Err, rules}
use Rattle.pools.specs.Calls.{draw, input_number}
use Rattle.quotas.specs.Charges.{cleared_after}
use Rattle.metered.proofs.PlainCalls.{draw-plain, value-passed, value-refused, meters-value}
use Rattle.metered.proofs.calls.random_below.Goals as goal

pub returns-in-Err : goal.returns-in-Err
unfolding input_number cleared_after
returns-in-Err c =
    let a = c.args in
    let rs = a.list.now in
    let call = draw a.clock a.n a.d in
    let plain = draw-plain a.clock a.n a.d in
    meters-value a.state rs call plain (record { answer = Err c.in-Err.refusal; emptied = 0; next = a.state }) _
    (value-refused a.state rs call plain c.in-Err.refusal (search rules)) refl

pub returns-in-Ok : goal.returns-in-Ok
unfolding input_number
returns-in-Ok c =
    let a = c.args in
    let rs = a.list.now in
    let call = draw a.clock a.n a.d in
    let plain = draw-plain a.clock a.n a.d in
    meters-value a.state rs call plain c.random_below-draw.result _
    (value-passed a.state rs call plain _ _ _ c.random_below-draw.ensures (search rules))
    c.clear_after.ensures
