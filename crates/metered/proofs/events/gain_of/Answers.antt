use Rattle.std.proofs.Common.{refl}
use Rattle.pools.specs.State.{pool_at}
use Rattle.pools.proofs.EventCalls.{gain-place}
use Rattle.metered.proofs.Gating.{done-number, refused-number}
use Rattle.metered.proofs.Eventing.{metered-done, metered-refused}
use Rattle.metered.proofs.events.gain_of.Goals as goal

pub returns-then-is_ok : goal.returns-then-is_ok
returns-then-is_ok c =
    let a = c.args in
    let told = c.charge-answer in
    metered-done a.state.now a.list.now a.source a.pool a.«data».now c.gain_of-gain.result _ _ c.gain_of-gain.ensures told.ensures.answer told.ensures.list
    (done-number told.result c.if-is_ok.ensures.value)

pub bounds-state-gain : goal.bounds-state-gain
bounds-state-gain c = gain-place _ _ c.gain_of-gain.ensures.2

pub returns : goal.returns
unfolding pool_at
returns c =
    let a = c.args in
    let told = c.charge-answer in
    metered-refused a.state.now a.list.now a.source a.pool a.«data».now c.gain_of-gain.result _ _ c.gain_of-gain.ensures told.ensures.answer told.ensures.list
    told.result _ (refused-number told.result c.if-is_ok.ensures.value) refl refl
