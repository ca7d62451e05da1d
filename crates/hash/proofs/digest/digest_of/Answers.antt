use Rattle.std.proofs.Common.{◌∙◌, zero-add}
use Rattle.hash.proofs.Absorb.{finish-empty}
use Rattle.hash.proofs.Laws.{empty-length}
use Rattle.hash.proofs.digest.digest_of.Goals as goal

pub extended-requires : goal.extended-requires
extended-requires c = rw (c.new.ensures, empty-length, zero-add) c.requires

pub returns : goal.returns
returns c = c.finished.ensures ∙ rw (c.extended.ensures, c.new.ensures) (finish-empty _)
