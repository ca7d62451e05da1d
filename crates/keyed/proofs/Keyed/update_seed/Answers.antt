use Rattle.keyed.specs.Calls.{update, input_buffer}
use Rattle.pools.proofs.Numbers.{tested}
use Rattle.keyed.proofs.Outcomes.{is-accepted, gives-done, gives-kept}
use Rattle.keyed.proofs.Requests.{update-servable, update-effect, update-number}
use Rattle.keyed.proofs.Keyed.update_seed.Goals as goal

pub serve-requires : goal.serve-requires
serve-requires c =
    let a = c.args in
    let number = update-number a.self _ _ c.standing.ensures a.seed.now c.update_answer-answer.ensures in
    let ok = is-accepted a.self (update a.seed.now) _ _ number (tested _ _ c.is_ok.ensures.value) c.if-is_ok.true in
    update-servable a.self a.seed.now _ c.reseed.ensures.1 ok

pub returns-then-is_ok : goal.returns-then-is_ok
returns-then-is_ok c =
    let a = c.args in
    let number = update-number a.self _ _ c.standing.ensures a.seed.now c.update_answer-answer.ensures in
    let done = tested _ _ c.is_ok.ensures.value in
    let ok = is-accepted a.self (update a.seed.now) _ _ number done c.if-is_ok.true in
    gives-done a.self (update a.seed.now) _ _ number done _ _ _ c.if-is_ok.true
    (update-effect a.self a.seed.now _ c.reseed.ensures.1 ok _ _ c.serve.ensures)

pub returns-else-is_ok : goal.returns-else-is_ok
unfolding input_buffer
returns-else-is_ok c =
    let a = c.args in
    let number = update-number a.self _ _ c.standing.ensures a.seed.now c.update_answer-answer.ensures in
    gives-kept a.self (update a.seed.now) _ _ number (tested _ _ c.is_ok.ensures.value) c.if-is_ok.false
