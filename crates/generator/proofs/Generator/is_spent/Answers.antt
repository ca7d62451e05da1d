use Rattle.generator.specs.Counter.{max_counter}
use Rattle.generator.specs.Steps.{decode}
use Rattle.generator.specs.Refusals.{spent}
use Rattle.generator.proofs.Digits.{no-room}
use borrow.Author.Rules.{rules}
use Rattle.generator.proofs.Generator.is_spent.Goals as goal

pub returns : goal.returns
unfolding spent decode max_counter
returns c = rw (c.value.ensures, c.from.ensures) (no-room _ _ _ (search rules))
