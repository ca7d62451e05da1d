use mathlib.Core.Path.{◌≡◌}
use native.Mathlib.Omega.{arith}
use lib.ListN.{length}
use borrow.Author.Rules.{rules}
use Rattle.bench.proofs.Executed.{event-prints}
use Rattle.pools.proofs.Bounds.{answer-small}
use Rattle.bench.proofs.line.event_line.Goals as goal

pub number_line-requires : goal.number_line-requires
number_line-requires c = rw c.number_of.ensures (answer-small c.add_event-outcome.result.answer)

pub returns : goal.returns
returns c =
    let a = c.args in
    let call = c.add_event-outcome in
    let full : length a.out.now ≡ 131077 = search rules in
    event-prints a.state a.source a.pool a.«data».now call.result _ _ a.out.now _
    call.ensures c.number_of.ensures (omega (arith, full)) c.number_line.ensures
