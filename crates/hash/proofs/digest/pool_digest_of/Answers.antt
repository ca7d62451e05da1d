use Rattle.std.proofs.Common.{◌∙◌, arith, rules}
use Rattle.hash.specs.ShaD.{max_message}
use Rattle.hash.proofs.Laws.{pool-length-room, pool-digest-counted}
use Rattle.hash.proofs.digest.pool_digest_of.Goals as goal

-- `hash::digest::pool_digest_of` meets its contract.
-- Assumes nothing.
pub overflow_add-r : goal.overflow_add-r
overflow_add-r c = omega (arith, pool-length-room _ c.requires)

pub digest_of-requires : goal.digest_of-requires
unfolding max_message
digest_of-requires c = search rules

pub returns : goal.returns
returns c =
    let finished = c.finished in
    c.digest_of.ensures ∙ rw finished.ensures (pool-digest-counted _ _ (omega arith))
