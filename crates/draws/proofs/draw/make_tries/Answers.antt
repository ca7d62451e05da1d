use Rattle.std.proofs.Common.{◌≡◌, length, arith, rules}
use native.Mathlib.Nat.{sub-zero}
use Rattle.pools.specs.Events.{pool_count}
use Rattle.pools.specs.Draws.{tries, try_at}
use Rattle.pools.proofs.Checks.{mapped-long}
use Rattle.draws.proofs.Trying.{served, left-all, try-hit, try-miss, try-none, ready-next}
use Rattle.draws.proofs.draw.make_tries.Goals as goal

pub loop-t-init : goal.loop-t-init
unfolding pool_count
loop-t-init c =
    let full : length c.args.state.pools ≡ pool_count = search (rules, mapped-long) in
    let a = c.args in
    record {
      emptied = omega arith;
      ready = rw (sub-zero a.d) (full, c.requires.1);
      left = rw (sub-zero a.d) (left-all (tries (try_at a.clock) a.n a.d a.state));
    }

pub overflow_add-emptied : goal.overflow_add-emptied
overflow_add-emptied c =
    let at = c.loop-t in
    let try = served at.state c.args.clock _ _ _ c.random_data-served.result (search rules) (omega arith) at.invariant.ready.1 c.random_data-served.ensures in
    let few = try.few in
    omega arith

pub returns-then-value-n : goal.returns-then-value-n
returns-then-value-n c =
    let at = c.loop-t in
    let whole = tries (try_at c.args.clock) c.args.n c.args.d c.args.state in
    let bits = c.bits_for-k in
    let try = served at.state c.args.clock _ _ _ c.random_data-served.result (search rules) (omega arith) at.invariant.ready.1 c.random_data-served.ensures in
    let few = try.few in (
      try-hit c.args.clock c.args.n c.args.d at._t at.emptied whole at.state at.invariant.left _ bits.result c.low_bits-value.result _ (omega arith) try
          bits.ensures c.low_bits-value.ensures c.if-value-n.true,
      omega arith,
    )

pub loop-t-preserved : goal.loop-t-preserved
loop-t-preserved c =
    let at = c.loop-t in
    let whole = tries (try_at c.args.clock) c.args.n c.args.d c.args.state in
    let bits = c.bits_for-k in
    let try = served at.state c.args.clock _ _ _ c.random_data-served.result (search rules) (omega arith) at.invariant.ready.1 c.random_data-served.ensures in
    let few = try.few in
    record {
      emptied = omega arith;
      ready = ready-next at.state c.args.clock c.args.d at._t _ _ (omega arith) try at.invariant.ready;
      left =
          try-miss c.args.clock c.args.n c.args.d at._t at.emptied whole at.state at.invariant.left _ bits.result c.low_bits-value.result _ (omega arith) try
          bits.ensures c.low_bits-value.ensures c.if-value-n.false;
    }

pub returns : goal.returns
returns c =
    let at = c.loop-t in
    let whole = tries (try_at c.args.clock) c.args.n c.args.d c.args.state in
    (try-none c.args.clock c.args.n c.args.d at._t at.emptied whole at.state at.invariant.left (omega arith), omega arith)
