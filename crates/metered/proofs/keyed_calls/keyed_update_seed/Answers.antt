use Rattle.std.proofs.Common.{rules}
use Rattle.keyed.specs.Calls.{update, input_number, input_buffer}
use Rattle.metered.proofs.KeyedPlainCalls.{update-plain, meters-bytes}
use Rattle.metered.proofs.keyed_calls.keyed_update_seed.Goals as goal

pub returns : goal.returns
unfolding input_number input_buffer
returns c =
    let a = c.args in
    let told = c.behind_gate.ensures in
    meters-bytes a.state a.list.now (update a.seed.now) (update-plain a.seed.now) _ _ _
    (λ t. let made = told.0 t in search rules, told.1) (search rules)
