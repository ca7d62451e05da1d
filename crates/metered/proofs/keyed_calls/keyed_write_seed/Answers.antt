use Rattle.std.proofs.Common.{rules}
use Rattle.keyed.specs.Calls.{write, input_number, input_buffer}
use Rattle.metered.proofs.KeyedPlainCalls.{write-plain, meters-bytes}
use Rattle.metered.proofs.keyed_calls.keyed_write_seed.Goals as goal

pub returns : goal.returns
unfolding input_number input_buffer
returns c =
    let a = c.args in
    let told = c.behind_gate.ensures in
    meters-bytes a.state a.list.now (write a.seed.now) (write-plain a.seed.now) _ _ _
    (λ t. let made = told.0 t in search rules, told.1) (search rules)
