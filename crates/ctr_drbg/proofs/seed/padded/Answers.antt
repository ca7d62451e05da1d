use Rattle.ctr_drbg.proofs.Effects.{padded-is}
use Rattle.ctr_drbg.proofs.seed.padded.Goals as goal

pub returns : goal.returns
returns c = padded-is _ _ c.requires c.overwrite.ensures
