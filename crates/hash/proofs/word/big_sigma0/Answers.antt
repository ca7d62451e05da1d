use Rattle.std.proofs.Common.{refl, rules}
use Rattle.hash.proofs.Rotations.{nested-twice}
use Rattle.hash.proofs.word.big_sigma0.Goals as goal

pub returns : goal.returns
returns c = let same = nested-twice 2 11 9 10 refl c.args.x (search rules) in cc
