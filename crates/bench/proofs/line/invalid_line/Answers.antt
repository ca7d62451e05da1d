use mathlib.Core.Path.{◌≡◌}
use native.Mathlib.Omega.{arith}
use lib.ListN.{length}
use borrow.Author.Rules.{rules}
use Rattle.bench.proofs.Executed.{invalid-prints}
use Rattle.bench.proofs.line.invalid_line.Goals as goal

pub returns : goal.returns
returns c =
    let full : length c.args.out.now ≡ 131077 = search rules in
    invalid-prints c.args.state _ c.args.out.now _ (omega (arith, full)) c.number_line.ensures
