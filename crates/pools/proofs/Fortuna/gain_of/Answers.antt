use Rattle.std.proofs.Common.{◌≡◌, length, sym, refl, ◌∙◌, rules}
use Rattle.pools.specs.State.{pool_at}
use Rattle.pools.proofs.Checks.{mapped-long}
use Rattle.pools.proofs.Numbers.{tested}
use Rattle.pools.proofs.EventCalls.{event-asks, comes-gained, comes-kept}
use Rattle.pools.proofs.Fortuna.gain_of.Goals as goal

pub gained-pool-requires : goal.gained-pool-requires
unfolding pool_at
gained-pool-requires c =
    let a = c.args in
    event-asks a.self.now a.source a.pool a.«data».now _ _ c.is_malformed.ensures c.event_answer-answer.ensures
    (sym (tested _ _ c.is_ok.ensures.value) ∙ c.if-is_ok.true)

pub returns-then-is_ok : goal.returns-then-is_ok
unfolding pool_at
returns-then-is_ok c =
    let a = c.args in
    let full : length a.self.now.pools ≡ 32 = search (rules, mapped-long) in
    comes-gained a.self.now a.source a.pool a.«data».now _ _ c.is_malformed.ensures c.event_answer-answer.ensures
    _ (tested _ _ c.is_ok.ensures.value) full c.if-is_ok.true _ c.gained-pool.ensures

pub returns-else-is_ok : goal.returns-else-is_ok
unfolding pool_at
returns-else-is_ok c =
    let a = c.args in
    comes-kept a.self.now a.source a.pool a.«data».now _ _ c.is_malformed.ensures c.event_answer-answer.ensures
    _ (tested _ _ c.is_ok.ensures.value) c.if-is_ok.false _ refl
