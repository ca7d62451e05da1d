use Rattle.std.proofs.Common.{⊎_elim}
use Rattle.pools.specs.Refusals.{max_list}
use Rattle.pools.specs.Calls.{shuffle}
use Rattle.pools.proofs.Numbers.{tested}
use Rattle.pools.proofs.Outcomes.{is-accepted}
use Rattle.pools.proofs.Passing.{shuffle-passing, shuffle-range}
use Rattle.draws.proofs.Answers.{shuffle-done, shuffle-short, shuffle-kept}
use Rattle.draws.proofs.shuffles.shuffle.Goals as goal

pub shuffle_list-requires : goal.shuffle_list-requires
unfolding max_list
shuffle_list-requires c =
    let a = c.args in
    let done = tested _ _ c.is_ok.ensures.value in
    let ok = is-accepted a.state (shuffle a.clock a.list.now) _ _ c.shuffle_answer-answer.ensures done c.if-is_ok.true in
    let some = c.if-list-gt1.true in
    (shuffle-range a.state a.clock a.list.now ok, shuffle-passing a.state a.clock a.list.now ok some)

pub returns-then-list-gt1 : goal.returns-then-list-gt1
returns-then-list-gt1 c =
    let a = c.args in
    shuffle-done a.state a.clock a.list.now _ _ c.shuffle_answer-answer.ensures (tested _ _ c.is_ok.ensures.value) c.shuffle_list.result _ c.if-is_ok.true
    c.shuffle_list.ensures

pub returns : goal.returns
returns c =
    let a = c.args in
    let done = tested _ _ c.is_ok.ensures.value in
    ⊎_elim
    (λ w. shuffle-short a.state a.clock a.list.now _ _ c.shuffle_answer-answer.ensures done w.0 w.1)
    (λ w. shuffle-kept a.state a.clock a.list.now _ _ c.shuffle_answer-answer.ensures done w)
    c.else-is_ok.either
