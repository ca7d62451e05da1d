-- The rows, by computation.
-- Assumes nothing.
use mathlib.Core.Path.{refl}
use Rattle.laws.specs.Lists.{joined, count_of}
use Rattle.health.specs.Samples.{run_after, repetition_fails, first_after, count_after, proportion_fails, noted, test_from}
use Rattle.health.specs.Calls.{malformed, fresh, outcome_of, tested}
use Rattle.health.specs.Closed.{run_ending_at, state_after}
use Rattle.health.specs.Examples.{Examples}

pub examples : Examples
unfolding joined run_after repetition_fails first_after count_after proportion_fails noted test_from
    malformed fresh outcome_of tested count_of run_ending_at state_after
examples = record {
  range = (refl, refl);
  order = (refl, refl, refl, refl, refl);
  clauses = refl;
  failing = (refl, refl, refl, refl);
  carried = (refl, refl, refl, refl);
  zeros = (refl, refl, refl, refl);
  window = (refl, refl, refl, refl, refl, refl, refl);
  highest = (refl, refl, refl);
  places = (refl, refl, refl);
  edges = (refl, refl, refl, refl, refl, refl, refl, refl);
}
