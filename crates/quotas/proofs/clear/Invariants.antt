use Rattle.std.proofs.Common.{◌≡◌, ◌++◌, map, take, drop}
use Rattle.quotas.specs.Records.{unspent}
use Rattle.quotas.proofs.clear.Given as goal

abbrev pub invariant-loop-quota : goal.invariant-loop-quota
invariant-loop-quota l = l.list ≡ map unspent (take l.quota-index l.initial.list) ++ drop l.quota-index l.initial.list
