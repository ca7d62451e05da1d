use Rattle.std.proofs.Common.{◌∙◌}
use Rattle.laws.proofs.Refusals.{guarded-done, guarded-refused}
use Rattle.pools.specs.Refusals.{gained_pool}
use Rattle.pools.proofs.Numbers.{tested}
use Rattle.pools.proofs.GainedPools.{gained-asks}
use Rattle.pools.proofs.events.gained_pool.Goals as goal

pub gained-requires : goal.gained-requires
gained-requires c = gained-asks _ _ _ _ _ c.event_answer.ensures (tested _ _ c.is_ok.ensures.value) c.if-is_ok.true

pub returns-then-is_ok : goal.returns-then-is_ok
unfolding gained_pool
returns-then-is_ok c =
    c.gained.ensures ∙ guarded-done _ _ _ _ _ c.event_answer.ensures (tested _ _ c.is_ok.ensures.value) c.if-is_ok.true

pub returns-else-is_ok : goal.returns-else-is_ok
unfolding gained_pool
returns-else-is_ok c = guarded-refused _ _ _ _ _ c.event_answer.ensures (tested _ _ c.is_ok.ensures.value) c.if-is_ok.false
