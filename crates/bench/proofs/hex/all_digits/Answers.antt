use Rattle.std.proofs.Common.{◌∙◌, true, ◌&&◌, rules}
use Rattle.std.proofs.lemmas.Iterator.{YieldsList-from_slice}
use Rattle.std.proofs.lemmas.Iterator.Consumers.{fold_from_yields_List}
use borrow.Author.Tests.{tests}
use Rattle.bench.specs.Hexadecimal.{is_digit}
use Rattle.bench.proofs.Hexadecimal.{digits-folded}
use Rattle.bench.proofs.hex.all_digits.Goals as goal

pub returns : goal.returns
returns c =
    fold_from_yields_List _ (λ digits c. digits && is_digit c) true c.fold.result c.fold.ensures.ran
    (YieldsList-from_slice c.args.text.now c.iter.ensures.rest) (λ a x b q k. search (rules, tests))
    ∙ digits-folded c.args.text.now true
