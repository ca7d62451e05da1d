use Rattle.std.proofs.Common.{◌≡◌, rules}
use Rattle.hash.specs.ShaD.{pool_digest}
use Rattle.pools.specs.Collected.{nth}
use Rattle.keyed.specs.State.{pool_at}
use Rattle.keyed.proofs.Events.{digest-comes, emptied-is}
use Rattle.keyed.proofs.Keyed.empty_into.Goals as goal

pub unwrap-digest-requires : goal.unwrap-digest-requires
unfolding pool_at nth
unwrap-digest-requires c = rw (digest-comes c.args.self.now c.args.i _ c.requires c.pool_digest.ensures) (search rules)

pub returns : goal.returns
unfolding pool_at nth
returns c =
    let given = digest-comes c.args.self.now c.args.i _ c.requires c.pool_digest.ensures in
    let digest : c.unwrap-digest.result ≡ pool_digest (pool_at c.args.self.now c.args.i) = cc (given, c.unwrap-digest.ensures) in
    emptied-is c.args.self.now c.args.i _ _ _ c.requires digest c.reseed.ensures.1 c.empty_pool.ensures
