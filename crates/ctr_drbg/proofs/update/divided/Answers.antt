use Rattle.ctr_drbg.proofs.Effects.{divided-is}
use borrow.Author.Rules.{rules}
use Rattle.ctr_drbg.proofs.update.divided.Goals as goal

pub returns : goal.returns
returns c =
    divided-is _ _ _ (search rules) c.overwrite.ensures c.overwrite-2.ensures
