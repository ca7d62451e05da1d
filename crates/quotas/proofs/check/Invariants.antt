use Rattle.quotas.proofs.Checking.{Clean}
use Rattle.quotas.proofs.check.Given as goal

-- what is known of the records before i
abbrev pub invariant-loop-i : goal.invariant-loop-i
invariant-loop-i l = Clean l.list l.i l.bound
