use Rattle.std.proofs.Common.{◌≡◌, ◌≤◌, Err, ap, ◌∙◌, arith}
use Rattle.pools.specs.Promises.{code}
use Rattle.pools.specs.declared.refusal.Refusal.{Refusal}
use Rattle.metered.proofs.Charged.{known-input, known-else}
use Rattle.metered.proofs.gates.known_answer.Goals as goal
use Rattle.metered.proofs.gates.known_answer.Goals.{in_default-via-in-Err+else-number-lt-FIRST_BY_STATE, in_default-via-in_default}

pub returns-in-Err : goal.returns-in-Err
returns-in-Err c =
    let e : c.number.result ≡ code c.in-Err.refusal = c.number.ensures in
    rw c.in-Err.is (known-input c.in-Err.refusal _ (omega arith))

pub returns-in_default : goal.returns-in_default
returns-in_default c =
    elim c.in_default.branch [
      | in_default-via-in-Err+else-number-lt-FIRST_BY_STATE w ↦
          let late : (refusal : Refusal) → c.args.own ≡ Err refusal → 21 ≤ code refusal =
          λ refusal e.
          let same : w.in-Err.refusal ≡ refusal = cc (w.in-Err.is, e) in
          let told : w.number.result ≡ code refusal = w.number.ensures ∙ ap code same in
          omega arith
          in
          rw (c.and.ensures, w.own-is, ← w.in-Err.is) (known-else c.args.own c.args.checked late)
      | in_default-via-in_default w ↦
          rw (c.and.ensures, w.own-is) (known-else c.args.own c.args.checked (λ refusal e. absurd (w.in_default.not-Err refusal e)))
    ]
