-- Demand 3, whole: the one claim about every list of calls.
-- Assumes nothing.
use mathlib.Core.List.{List}
use Rattle.quotas.specs.Entries.{Entry}
use Rattle.reference.specs.Correct.{RunCorrect}
use Rattle.reference.proofs.Agreement.{run-is-steps, agrees}
use Rattle.reference.proofs.Provenance as Events
use Rattle.reference.proofs.Timer.{elapsed-law, timer-step}
use Rattle.reference.proofs.Counters.{no-repeat}
use Rattle.reference.proofs.Counting.{counted}
use Rattle.reference.proofs.KeyRequests.{on-one-key}
use Rattle.reference.proofs.BlankPages.{blank-pages}

pub run-correct : (calls : List Entry) → RunCorrect calls
run-correct calls =
    record {
      steps = run-is-steps;
      agreement = agrees calls;
      provenance = Events.provenance calls;
      clock = elapsed-law;
      timer = λ before c later _. timer-step before c;
      counters = no-repeat calls;
      counted = counted calls;
      key-requests = on-one-key calls;
      blank = blank-pages;
    }
