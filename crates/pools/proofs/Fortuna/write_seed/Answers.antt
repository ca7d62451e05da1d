use Rattle.pools.specs.Effects.{write_seed}
use Rattle.pools.specs.Calls.{write, input_buffer, call_number, call_effect}
use Rattle.pools.proofs.Numbers.{tested}
use Rattle.pools.proofs.Outcomes.{is-accepted, gives-done, gives-kept, write-number, timed}
use Rattle.pools.proofs.Servables.{write-servable, write-serves}
use Rattle.pools.proofs.Fortuna.write_seed.Goals as goal

pub serve-emptied-requires : goal.serve-emptied-requires
unfolding call_number
serve-emptied-requires c =
    let a = c.args in
    let stands = c.standing-standing.ensures in
    let number = write-number a.self a.clock _ _ stands a.seed.now c.write_answer-answer.ensures in
    let ok = is-accepted a.self (write a.clock a.seed.now) _ _ number (tested _ _ c.is_ok.ensures.value) c.if-is_ok.true in
    (timed a.self a.clock _ 0 stands, write-servable a.self a.clock a.seed.now ok)

pub returns-then-is_ok : goal.returns-then-is_ok
unfolding call_number call_effect write_seed
returns-then-is_ok c =
    let a = c.args in
    let number = write-number a.self a.clock _ _ c.standing-standing.ensures a.seed.now c.write_answer-answer.ensures in
    let done = tested _ _ c.is_ok.ensures.value in
    let ok = is-accepted a.self (write a.clock a.seed.now) _ _ number done c.if-is_ok.true in
    gives-done a.self (write a.clock a.seed.now) _ _ number done tt _ _ _ c.if-is_ok.true
    (write-serves a.self a.clock a.seed.now ok _ _ _ c.serve-emptied.ensures)

pub returns-else-is_ok : goal.returns-else-is_ok
unfolding input_buffer
returns-else-is_ok c =
    let a = c.args in
    let number = write-number a.self a.clock _ _ c.standing-standing.ensures a.seed.now c.write_answer-answer.ensures in
    gives-kept a.self (write a.clock a.seed.now) _ _ number (tested _ _ c.is_ok.ensures.value) tt c.if-is_ok.false
