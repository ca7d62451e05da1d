-- The test of the counter's room, as the code makes it.
-- Assumes nothing.
use Rattle.std.proofs.Common.{◌≡◌, ℕ, ◌+◌, Bool, true, false, add_assoc, ◌∙◌}
use mir.Val.{bool_byte}
use Rattle.generator.specs.Steps.{GeneratorState}
use Rattle.generator.specs.Refusals as Generator
use Rattle.generator.proofs.Laws.{spent-is}
use Rattle.pools.specs.Refusals.{spent}

-- the counter's growth, where g is 1 for a pool reseed that is due
pub grown : (w : GeneratorState) (g b : ℕ) (due : Bool) → g ≡ bool_byte due → Generator.spent w (g + b) ≡ spent w.count due b
unfolding spent
grown w g b true e = spent-is w (g + b) ∙ rw (e, add_assoc)
grown w g b false e = spent-is w (g + b) ∙ rw (e, add_assoc)
