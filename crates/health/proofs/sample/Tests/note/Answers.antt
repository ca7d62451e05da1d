use Rattle.std.proofs.Common.{rules}
use Rattle.health.proofs.sample.Tests.note.Goals as goal

-- run and count stay below their cutoffs, and a full window is closed
pub invariant_of-self-clause-below : goal.invariant_of-self-clause-below
invariant_of-self-clause-below c = search rules
