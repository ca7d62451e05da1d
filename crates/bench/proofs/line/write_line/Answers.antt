use borrow.Author.Rules.{rules}
use Rattle.pools.specs.Calls.{write}
use Rattle.pools.specs.Refusals.{seed_size}
use Rattle.bench.specs.Buffers.{zeros}
use Rattle.bench.proofs.Executed.{write-lends, emptied-small, output-prints}
use Rattle.bench.proofs.line.write_line.Goals as goal

pub output_line-requires : goal.output_line-requires
unfolding zeros seed_size
output_line-requires c =
    let a = c.args in
    let call = c.write_seed-outcome in
    (emptied-small a.state (write a.clock (zeros seed_size)) call.result call.ensures.0, search rules)

pub returns : goal.returns
unfolding zeros seed_size
returns c =
    let a = c.args in
    let call = c.write_seed-outcome in
    output-prints a.state (write a.clock (zeros seed_size)) call.result _ _ a.out.now _
    (write-lends a.clock (zeros seed_size)) call.ensures (search rules) c.output_line.ensures
