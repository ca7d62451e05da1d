use Rattle.std.proofs.Common.{◌∙◌, zero-add, arith}
use Rattle.hash.proofs.Laws.{absorb-length, pool-empty-length, pool-digest-joined, d-message-fits, pool-holds}
use Rattle.hash.proofs.digest.sha_d256_of.Goals as goal

pub extended-first-requires : goal.extended-first-requires
extended-first-requires c =
    let h = d-message-fits _ c.requires in
    rw (c.empty_pool.ensures, pool-empty-length, zero-add) (omega (arith, h))

pub extended-requires : goal.extended-requires
extended-requires c =
    rw (c.extended-first.ensures, absorb-length, c.empty_pool.ensures, pool-empty-length, zero-add) (d-message-fits _ c.requires)

pub pool_digest_of-requires : goal.pool_digest_of-requires
pool_digest_of-requires c =
    rw (c.extended.ensures, absorb-length, c.extended-first.ensures, absorb-length, c.empty_pool.ensures, pool-empty-length, zero-add)
    (pool-holds _ c.requires)

pub returns : goal.returns
returns c =
    c.pool_digest_of.ensures ∙ rw (c.extended.ensures, c.extended-first.ensures, c.empty_pool.ensures) (pool-digest-joined _ _)
