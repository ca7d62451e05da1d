use Rattle.std.proofs.Common.{◌∙◌}
use Rattle.std.proofs.Math.Nat.{div-div-eq-div-mul}
use Rattle.generator.specs.Counter.{little_endian}
use Rattle.keyed.specs.Scheduler.{step_block}
use Rattle.keyed.proofs.scheduler.step_block.Goals as goal

pub returns : goal.returns
unfolding step_block little_endian
returns c = c.to_le_bytes.ensures ∙ rw c.from.ensures (simp div-div-eq-div-mul)
