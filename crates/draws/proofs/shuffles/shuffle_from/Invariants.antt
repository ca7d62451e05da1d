use Rattle.std.proofs.Common.{◌-◌, ◌*◌, ◌≤◌, length}
use Rattle.pools.specs.Refusals.{max_tries}
use Rattle.pools.specs.Draws.{shuffle_from, try_at}
use Rattle.draws.proofs.Trying.{Ready}
use Rattle.draws.proofs.Shuffling.{LeftList}
use Rattle.draws.proofs.shuffles.shuffle_from.Given as goal

-- the next place is one before p
abbrev pub invariant-loop-p : goal.invariant-loop-p
invariant-loop-p l = record {
  emptied : l.emptied ≤ 2048 * (length l.initial.order - l.p);
  ready : Ready l.state l.clock (max_tries * (l.p - 1));
  left : LeftList (shuffle_from (try_at l.clock) (length l.initial.order - 1) l.initial.order l.initial.state) l.emptied
      (shuffle_from (try_at l.clock) (l.p - 1) l.order l.state);
}
