use Rattle.ctr_drbg.proofs.Effects.{seeded-is}
use Rattle.ctr_drbg.proofs.update.Working.seeded.Goals as goal

pub returns : goal.returns
returns c =
    seeded-is c.args.self _ c.args.entropy.now c.args.other.now _ _ _ _ c.requires.0
    c.padded.ensures c.padded-2.ensures c.xored-material.ensures c.advanced.ensures.0 c.counted.ensures
