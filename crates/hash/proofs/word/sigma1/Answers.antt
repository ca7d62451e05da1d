use Rattle.std.proofs.Common.{refl, rules}
use Rattle.hash.proofs.Rotations.{nested}
use Rattle.hash.proofs.word.sigma1.Goals as goal

pub returns : goal.returns
returns c = let same = nested 17 2 13 refl c.args.x (search rules) in cc
