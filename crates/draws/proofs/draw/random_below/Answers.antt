use Rattle.std.proofs.Common.{true, false, refl}
use Rattle.std.specs.Prelude.{Err}
use Rattle.pools.specs.Refusals.{max_tries}
use Rattle.pools.specs.Calls.{draw}
use Rattle.pools.proofs.Numbers.{tested}
use Rattle.pools.proofs.Outcomes.{is-accepted}
use Rattle.pools.proofs.Passing.{draw-passing, draw-range}
use Rattle.draws.proofs.Answers.{draw-done, draw-kept}
use Rattle.draws.proofs.draw.random_below.Goals as goal

pub make_tries-requires : goal.make_tries-requires
unfolding max_tries
make_tries-requires c =
    let a = c.args in
    let ok = is-accepted a.state (draw a.clock a.n a.d) 0 true c.in-Ok.ensures refl refl in
    ((draw-range a.state a.clock a.n a.d ok).3, draw-passing a.state a.clock a.n a.d ok)

pub returns-in-Ok : goal.returns-in-Ok
returns-in-Ok c =
    let a = c.args in
    draw-done a.state a.clock a.n a.d 0 true c.in-Ok.ensures refl c.make_tries.result refl c.make_tries.ensures.0

pub returns-in-Err : goal.returns-in-Err
returns-in-Err c =
    let a = c.args in
    draw-kept a.state a.clock a.n a.d _ false c.in-Err.ensures (tested {T = Unit {0}} false (Err c.in-Err.refusal) refl) refl
