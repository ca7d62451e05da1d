use Rattle.std.proofs.Common.{rules}
use Rattle.keyed.specs.Calls.{request, input_number, input_buffer}
use Rattle.metered.proofs.KeyedPlainCalls.{request-plain, meters-bytes}
use Rattle.metered.proofs.keyed_calls.keyed_random_data.Goals as goal

pub returns : goal.returns
unfolding input_number input_buffer
returns c =
    let a = c.args in
    let told = c.behind_gate.ensures in
    meters-bytes a.state a.list.now (request a.out.now) (request-plain a.out.now) _ _ _
    (λ t. let made = told.0 t in search rules, told.1) (search rules)
