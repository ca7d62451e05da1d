use mathlib.Core.Path.{◌∙◌}
use borrow.Author.Rules.{rules}
use Rattle.generator.proofs.Digits.{number-low_first}
use Rattle.generator.proofs.counter.value.Goals as goal

pub returns : goal.returns
returns c = c.from_le_bytes.ensures ∙ number-low_first c.args.counter (search rules)
