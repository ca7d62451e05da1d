use mathlib.Core.Path.{◌≡◌}
use native.Mathlib.Omega.{arith}
use lib.ListN.{length}
use borrow.Author.Rules.{rules}
use Rattle.pools.specs.Calls.{update}
use Rattle.bench.proofs.Executed.{update-lends, emptied-small, output-prints}
use Rattle.bench.proofs.line.update_line.Goals as goal

pub output_line-requires : goal.output_line-requires
output_line-requires c =
    let a = c.args in
    let call = c.update_seed-outcome in
    (emptied-small a.state (update a.clock a.seed.now) call.result call.ensures.0, search rules)

pub returns : goal.returns
returns c =
    let a = c.args in
    let call = c.update_seed-outcome in
    let full : length a.out.now ≡ 131077 = search rules in
    output-prints a.state (update a.clock a.seed.now) call.result _ _ a.out.now _
    (update-lends a.clock a.seed.now) call.ensures (omega (arith, c.requires, full)) c.output_line.ensures
