use mathlib.Core.Path.{◌≡◌}
use lib.ListN.{drop}
use Rattle.health.specs.Samples.{test_from}
use Rattle.health.proofs.sample.Tests.walk.Given as goal

abbrev pub invariant-loop-place : goal.invariant-loop-place
invariant-loop-place l =
    let start = l.initial.self in
    let c = start.cutoffs in
    (l.self.cutoffs ≡ c)
    × (test_from c.repetition c.proportion 0 start.state l.samples
    ≡ test_from c.repetition c.proportion l.place l.self.state (drop l.place l.samples))
