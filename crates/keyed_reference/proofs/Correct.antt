-- What holds of every list of calls of the keyed scheduler.
-- Assumes nothing.
use mathlib.Core.List.{List}
use Prim.Native.Nat.{ℕ}
use Rattle.keyed.specs.Entries.{Entry}
use Rattle.keyed_reference.specs.Correct.{KeyedRunCorrect}
use Rattle.keyed_reference.proofs.Schedule.{input-law, output-law, schedule-law}
use Rattle.keyed_reference.proofs.Agreement.{run-is-steps, agrees}
use Rattle.keyed_reference.proofs.Provenance.{provenance}
use Rattle.keyed_reference.proofs.Counters.{no-repeat}
use Rattle.keyed_reference.proofs.Counting.{counted, steps-made, on-one-key}
use Rattle.keyed_reference.proofs.Left.{emptied-law}
use Rattle.keyed_reference.proofs.Served.{served-law, refused-law, list-told, timer-law, no-clause-law}

pub keyed-run-correct : (key : List ℕ) (calls : List Entry) → KeyedRunCorrect key calls
keyed-run-correct key calls =
    record {
      steps = run-is-steps key;
      agreement = agrees key calls;
      input = input-law;
      output = output-law;
      schedule = schedule-law;
      emptied = emptied-law;
      made = steps-made key calls;
      provenance = provenance key calls;
      counters = no-repeat key calls;
      counted = counted key calls;
      served = served-law;
      refused = refused-law;
      told = list-told;
      timer = timer-law;
      clauses = no-clause-law;
      key-requests = on-one-key key calls;
    }
