use Rattle.std.proofs.Common.{refl}
use Rattle.hash.specs.Constants.{H⁰}
use Rattle.hash.specs.Hasher.{empty_hasher}
use Rattle.hash.proofs.hasher.Hasher.new.Goals as goal

-- `hash::hasher::Hasher::new` meets its contract.
-- Assumes nothing.
pub returns : goal.returns
unfolding empty_hasher H⁰
returns c = refl
