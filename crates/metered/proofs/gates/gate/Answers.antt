use Rattle.metered.proofs.Gating.{gate-passed, gate-shut}
use Rattle.metered.proofs.gates.gate.Goals as goal

pub returns-then-is_ok : goal.returns-then-is_ok
returns-then-is_ok c = gate-passed c.check-checked.result _ _ c.if-is_ok.ensures.value c.check-checked.ensures

pub returns-else-is_ok : goal.returns-else-is_ok
returns-else-is_ok c =
    rw c.and.ensures (gate-shut c.check-checked.result c.args.input c.args.list.now c.if-is_ok.ensures.value c.check-checked.ensures)
