-- The output keeps its length, and each step uses a character of what is left.
use Rattle.std.proofs.Common.{◌≡◌, length}
use Rattle.bench_main.proofs.Bench.feed.Given as goal

abbrev pub invariant-loop-rest : goal.invariant-loop-rest
invariant-loop-rest g l = length l.self.out ≡ 131077

abbrev pub decreases-loop-rest : goal.decreases-loop-rest
decreases-loop-rest g l = length l.rest
