use Rattle.std.proofs.Common.{◌≡◌, ◌+◌, ◌-◌, ◌*◌, ◌<◌, true, false, length, refl, arith, rules}
use Rattle.pools.specs.Events.{pool_count}
use Rattle.pools.specs.Refusals.{max_tries}
use Rattle.pools.specs.Draws.{shuffle_from, try_at}
use Rattle.pools.proofs.Checks.{mapped-long}
use Rattle.pools.proofs.Numbers.{tested}
use Rattle.pools.proofs.Passing.{passing-fewer}
use Rattle.draws.proofs.Shuffling.{left-whole, place-missed, place-drawn, place-next, place-last, ready-below}
use Rattle.draws.proofs.shuffles.shuffle_from.Goals as goal

pub loop-p-init : goal.loop-p-init
unfolding pool_count
loop-p-init c =
    let full : length c.args.state.pools ≡ pool_count = search (rules, mapped-long) in
    let a = c.args in
    let whole = shuffle_from (try_at a.clock) (length a.order.now - 1) a.order.now a.state in
    record { emptied = omega arith; ready = (full, c.requires.1); left = left-whole whole }

pub make_tries-draw-requires : goal.make_tries-draw-requires
unfolding max_tries
make_tries-draw-requires c =
    let at = c.loop-p in
    let some = c.loop-p-test.true in
    (omega arith, passing-fewer at.state c.args.clock 64 (64 * (at.p - 1)) (omega arith) at.invariant.ready.1)

pub returns-in-Err : goal.returns-in-Err
returns-in-Err c =
    let at = c.loop-p in
    let a = c.args in
    let draw = c.make_tries-draw in
    let some = c.loop-p-test.true in
    let whole = shuffle_from (try_at a.clock) (length a.order.now - 1) a.order.now a.state in
    let missed = place-missed a.clock (at.p - 1) at.emptied whole at.order at.state at.invariant.left draw.result false (omega arith) draw.ensures.0
    (tested false draw.result.answer (rw c.in-Err.is)) refl in
    (rw c.in-Err.is at missed.0, missed.1, missed.2, missed.3)

pub exchange-requires : goal.exchange-requires
exchange-requires c =
    let at = c.loop-p in
    let a = c.args in
    let draw = c.make_tries-draw in
    let some = c.loop-p-test.true in
    let whole = shuffle_from (try_at a.clock) (length a.order.now - 1) a.order.now a.state in
    let done = tested true draw.result.answer (rw c.in-Ok.is) in
    let low : c.in-Ok.value < at.p - 1 + 1 =
    rw c.in-Ok.is at
    (place-drawn a.clock (at.p - 1) at.emptied whole at.order at.state at.invariant.left draw.result true (omega arith) draw.ensures.0 done refl) in
    (omega (arith, at.auto.p), omega (arith, at.auto.p))

pub loop-p-preserved : goal.loop-p-preserved
loop-p-preserved c =
    let at = c.loop-p in
    let a = c.args in
    let draw = c.make_tries-draw in
    let whole = shuffle_from (try_at a.clock) (length a.order.now - 1) a.order.now a.state in
    let few = draw.ensures.1 in
    let some : 0 < at.p - 1 = omega (arith, c.loop-p-test.true) in
    let done = tested true draw.result.answer (rw c.in-Ok.is) in
    let low : c.in-Ok.value < at.p - 1 + 1 =
    rw c.in-Ok.is at
    (place-drawn a.clock (at.p - 1) at.emptied whole at.order at.state at.invariant.left draw.result true some draw.ensures.0 done refl) in
    record {
      emptied = omega arith;
      ready = ready-below at.state a.clock (at.p - 1) draw.result some draw.ensures.0 at.invariant.ready;
      left =
          place-next a.clock (at.p - 1) at.emptied whole at.order at.state at.invariant.left draw.result true some draw.ensures.0 done _ refl
          (rw c.in-Ok.is c.exchange.ensures);
    }

pub returns : goal.returns
returns c =
    let at = c.loop-p in
    let a = c.args in
    let whole = shuffle_from (try_at a.clock) (length a.order.now - 1) a.order.now a.state in
    place-last a.clock (at.p - 1) at.emptied whole at.order at.state at.invariant.left (omega (arith, c.loop-p-test.false))
