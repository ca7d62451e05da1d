use mathlib.Core.Path.{◌∙◌}
use Rattle.generator.specs.Counter.{counter_block}
use Rattle.generator.proofs.Digits.{bytes-low_first}
use Rattle.generator.proofs.counter.counter_block.Goals as goal

pub returns : goal.returns
unfolding counter_block
returns c = c.to_le_bytes.ensures ∙ bytes-low_first c.args.count
