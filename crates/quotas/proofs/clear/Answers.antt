use Rattle.std.proofs.Common.{arith}
use Rattle.std.proofs.lemmas.Grind.{common_steps}
use Rattle.std.proofs.lemmas.List.Edits.{map_over_more}
use Rattle.quotas.specs.Records.{unspent}
use Rattle.quotas.proofs.clear.Goals as goal

pub loop-quota-preserved : goal.loop-quota-preserved
loop-quota-preserved c = grind (arith, common_steps, map_over_more unspent)
