use Rattle.std.proofs.Common.{◌∙◌, rules, tests}
use Rattle.std.proofs.lemmas.Iterator.{YieldsList-from_slice}
use Rattle.std.proofs.lemmas.Iterator.Search.{any_from_yields_List}
use Rattle.pools.specs.Pool.{malformed_pool}
use Rattle.pools.proofs.PoolTests.{any-listed}
use Rattle.pools.proofs.well_formed.any_malformed.Goals as goal

pub returns : goal.returns
returns c =
    any_from_yields_List malformed_pool _ _ c.any.result c.any.ensures.ran (YieldsList-from_slice c.args.pools.now cc) (λ x b q k. search (rules, tests))
    ∙ any-listed malformed_pool c.args.pools.now
