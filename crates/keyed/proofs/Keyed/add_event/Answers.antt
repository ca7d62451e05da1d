use Rattle.std.proofs.Common.{[]}
use Rattle.pools.specs.Collected.{nth}
use Rattle.pools.proofs.Numbers.{tested}
use Rattle.keyed.specs.State.{pool_at, picked}
use Rattle.keyed.specs.Calls.{event}
use Rattle.keyed.proofs.Outcomes.{is-accepted, gives-done, gives-kept}
use Rattle.keyed.proofs.Events.{input-small, event-number, event-effect}
use Rattle.keyed.proofs.Keyed.add_event.Goals as goal

pub bounds-self-place : goal.bounds-self-place
bounds-self-place c = input-small _ _ _ c.input_pool-place.ensures

pub take-emptied-requires : goal.take-emptied-requires
unfolding pool_at nth picked
take-emptied-requires c =
    let a = c.args in
    let number = event-number a.self a.source a.«data».now _ _ c.input_pool-place.ensures c.event_answer-answer.ensures in
    (c.input_pool-place.ensures, is-accepted a.self (event a.source a.«data».now) _ _ number (tested _ _ c.is_ok.ensures.value) c.if-is_ok.true)

pub returns-then-is_ok : goal.returns-then-is_ok
unfolding pool_at nth picked
returns-then-is_ok c =
    let a = c.args in
    let d = a.«data».now in
    let number = event-number a.self a.source d _ _ c.input_pool-place.ensures c.event_answer-answer.ensures in
    (gives-done a.self (event a.source d) _ _ number (tested _ _ c.is_ok.ensures.value) _ _ [] c.if-is_ok.true
    (event-effect a.self a.source d _ _ c.take-emptied.ensures)).0

pub returns-else-is_ok : goal.returns-else-is_ok
unfolding pool_at nth picked
returns-else-is_ok c =
    let a = c.args in
    let d = a.«data».now in
    let number = event-number a.self a.source d _ _ c.input_pool-place.ensures c.event_answer-answer.ensures in
    (gives-kept a.self (event a.source d) _ _ number (tested _ _ c.is_ok.ensures.value) c.if-is_ok.false).0
