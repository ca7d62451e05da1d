use Rattle.std.proofs.Common.{refl, rules}
use Rattle.hash.proofs.Rotations.{nested-twice}
use Rattle.hash.proofs.word.big_sigma1.Goals as goal

pub returns : goal.returns
returns c = let same = nested-twice 6 5 14 7 refl c.args.x (search rules) in cc
