use Rattle.std.proofs.Common.{refl}
use Rattle.metered.proofs.KeyedEventing.{gives-done, gives-refused, metered-event}
use Rattle.metered.proofs.keyed_calls.keyed_add_event.Goals as goal
use Rattle.metered.proofs.keyed_calls.keyed_add_event.Goals.{in-Ok, in-Err}

pub returns : goal.returns
returns c =
    let a = c.args in
    let own = c.add_event-own in
    let told = c.charge.ensures in
    let j = c.match-charge in
    metered-event a.state a.list.now a.source a.«data».now own.result _ _ own.ensures told.answer told.list j.outcome _
    (elim j.branch [
      | in-Ok w ↦ rw w.outcome-is (gives-done a.state a.list.now a.source a.«data».now own.result 0 _ own.ensures w.in-Ok.ensures.answer told.list refl)
      | in-Err w ↦
          rw w.outcome-is
          (gives-refused a.state a.list.now a.source a.«data».now own.result _ _ own.ensures w.in-Err.ensures.answer told.list
          _ w.in-Err.refusal refl w.refused-outcome.ensures)
    ])
    c.clear_after.ensures
