use Rattle.std.proofs.Common.{◌-◌, ◌*◌, ◌≤◌}
use Rattle.pools.specs.Draws.{tries, try_at}
use Rattle.draws.proofs.Trying.{Left, Ready}
use Rattle.draws.proofs.draw.make_tries.Given as goal

abbrev pub invariant-loop-t : goal.invariant-loop-t
invariant-loop-t l = record {
  emptied : l.emptied ≤ 32 * l._t;
  ready : Ready l.state l.clock (l.d - l._t);
  left : Left (tries (try_at l.clock) l.n l.d l.initial.state) l.emptied (tries (try_at l.clock) l.n (l.d - l._t) l.state);
}
