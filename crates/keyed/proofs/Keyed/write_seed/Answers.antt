use Rattle.keyed.specs.Calls.{write, input_buffer}
use Rattle.pools.proofs.Numbers.{tested}
use Rattle.keyed.proofs.Outcomes.{is-accepted, gives-done, gives-kept}
use Rattle.keyed.proofs.Requests.{write-servable, write-effect, write-number}
use Rattle.keyed.proofs.Keyed.write_seed.Goals as goal

pub serve-requires : goal.serve-requires
serve-requires c =
    let a = c.args in
    let number = write-number a.self _ _ c.standing.ensures a.seed.now c.write_answer-answer.ensures in
    write-servable a.self a.seed.now (is-accepted a.self (write a.seed.now) _ _ number (tested _ _ c.is_ok.ensures.value) c.if-is_ok.true)

pub returns-then-is_ok : goal.returns-then-is_ok
returns-then-is_ok c =
    let a = c.args in
    let number = write-number a.self _ _ c.standing.ensures a.seed.now c.write_answer-answer.ensures in
    let done = tested _ _ c.is_ok.ensures.value in
    gives-done a.self (write a.seed.now) _ _ number done _ _ _ c.if-is_ok.true
    (write-effect a.self a.seed.now (is-accepted a.self (write a.seed.now) _ _ number done c.if-is_ok.true) _ _ c.serve.ensures)

pub returns-else-is_ok : goal.returns-else-is_ok
unfolding input_buffer
returns-else-is_ok c =
    let a = c.args in
    let number = write-number a.self _ _ c.standing.ensures a.seed.now c.write_answer-answer.ensures in
    gives-kept a.self (write a.seed.now) _ _ number (tested _ _ c.is_ok.ensures.value) c.if-is_ok.false
