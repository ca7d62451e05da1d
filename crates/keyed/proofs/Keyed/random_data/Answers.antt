use Rattle.keyed.specs.Calls.{request, input_buffer}
use Rattle.pools.proofs.Numbers.{tested}
use Rattle.keyed.proofs.Outcomes.{is-accepted, gives-done, gives-kept}
use Rattle.keyed.proofs.Requests.{request-servable, request-effect, request-number}
use Rattle.keyed.proofs.Keyed.random_data.Goals as goal

pub serve-requires : goal.serve-requires
serve-requires c =
    let a = c.args in
    let number = request-number a.self _ _ c.standing.ensures a.out.now c.request_answer-answer.ensures in
    request-servable a.self a.out.now (is-accepted a.self (request a.out.now) _ _ number (tested _ _ c.is_ok.ensures.value) c.if-is_ok.true)

pub returns-then-is_ok : goal.returns-then-is_ok
returns-then-is_ok c =
    let a = c.args in
    let number = request-number a.self _ _ c.standing.ensures a.out.now c.request_answer-answer.ensures in
    let done = tested _ _ c.is_ok.ensures.value in
    gives-done a.self (request a.out.now) _ _ number done _ _ _ c.if-is_ok.true
    (request-effect a.self a.out.now _ _ c.serve.ensures)

pub returns-else-is_ok : goal.returns-else-is_ok
unfolding input_buffer
returns-else-is_ok c =
    let a = c.args in
    let number = request-number a.self _ _ c.standing.ensures a.out.now c.request_answer-answer.ensures in
    gives-kept a.self (request a.out.now) _ _ number (tested _ _ c.is_ok.ensures.value) c.if-is_ok.false
