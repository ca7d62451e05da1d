use Rattle.std.proofs.Common.{◌≡◌, ap, ap₂, sym, ◌∙◌, arith}
use Rattle.pools.specs.Promises.{number}
use Rattle.quotas.specs.Records.{quotas_number}
use Rattle.quotas.specs.Charges.{charge_number}
use Rattle.metered.specs.Metering.{known_of}
use Rattle.metered.proofs.Charged.{known-kept}
use Rattle.metered.proofs.gates.charge.Goals as goal

pub returns-in_default-clause-answer : goal.returns-in_default-clause-answer
returns-in_default-clause-answer c =
    let a = c.args in
    let known : known_of (number a.own) (quotas_number a.list.now) ≡ number c.known_answer-known.result =
    sym (c.known_answer-known.ensures ∙ ap (known_of (number a.own)) c.check.ensures) in
    rw known
    (known-kept a.list.now a.source _ (number c.known_answer-known.result) c.charge.result
    (c.charge.ensures.0 ∙ ap₂ (charge_number a.list.now a.source) c.cost_of.ensures c.number_of.ensures)
    (λ z. omega arith) (λ z. omega arith))
