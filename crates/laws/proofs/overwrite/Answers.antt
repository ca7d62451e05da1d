use Rattle.laws.proofs.Copy.{copied}
use Rattle.laws.proofs.overwrite.Goals as goal

pub returns : goal.returns
returns g c = rw (c.copy_from_slice.ensures.after) (copied _ _ _ c.min-n.ensures)
