use Rattle.std.proofs.Common.{length}
use Rattle.pools.specs.Calls.{request, input_buffer, call_number, call_effect}
use Rattle.pools.proofs.Numbers.{tested}
use Rattle.pools.proofs.Outcomes.{is-accepted, gives-done, gives-kept, request-number, timed}
use Rattle.pools.proofs.Servables.{request-servable}
use Rattle.pools.proofs.Fortuna.random_data.Goals as goal

pub serve-emptied-requires : goal.serve-emptied-requires
unfolding call_number
serve-emptied-requires c =
    let a = c.args in
    let stands = c.standing-standing.ensures in
    let number = request-number a.self a.clock _ _ stands a.out.now c.request_answer-answer.ensures in
    let ok = is-accepted a.self (request a.clock a.out.now) _ _ number (tested _ _ c.is_ok.ensures.value) c.if-is_ok.true in
    (timed a.self a.clock _ 0 stands, request-servable a.self a.clock (length a.out.now) ok)

pub returns-then-is_ok : goal.returns-then-is_ok
unfolding call_effect
returns-then-is_ok c =
    let a = c.args in
    let number = request-number a.self a.clock _ _ c.standing-standing.ensures a.out.now c.request_answer-answer.ensures in
    gives-done a.self (request a.clock a.out.now) _ _ number (tested _ _ c.is_ok.ensures.value) tt _ _ _ c.if-is_ok.true c.serve-emptied.ensures

pub returns-else-is_ok : goal.returns-else-is_ok
unfolding input_buffer
returns-else-is_ok c =
    let a = c.args in
    let number = request-number a.self a.clock _ _ c.standing-standing.ensures a.out.now c.request_answer-answer.ensures in
    gives-kept a.self (request a.clock a.out.now) _ _ number (tested _ _ c.is_ok.ensures.value) tt c.if-is_ok.false
