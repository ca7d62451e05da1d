use Rattle.std.proofs.Common.{refl, rules}
use Rattle.hash.proofs.Rotations.{nested}
use Rattle.hash.proofs.word.sigma0.Goals as goal

pub returns : goal.returns
returns c = let same = nested 7 11 14 refl c.args.x (search rules) in cc
