-- Demand 3, agreement: what is seen at each call and the state left are the reference model's.
-- Assumes nothing.
use Rattle.std.specs.Prelude.{◌≡◌, List, [], ◌∷◌, ◌++◌, map, ◌%◌, ◌^◌, min, ltb}
use Rattle.laws.specs.Lists.{tabulate}
use Rattle.hash.specs.ShaD.{pool_of}
use Rattle.generator.specs.Steps.{encode}
use Rattle.pools.specs.declared.Fortuna.{Fortuna}
use Rattle.pools.specs.Events.{pool_count}
use Rattle.pools.specs.Schedule.{max_key_requests}
use Rattle.pools.specs.State.{fresh}
use Rattle.pools.specs.Calls.{Outcome}
use Rattle.quotas.specs.Entries.{Entry, entry_step}
use Rattle.reference.specs.Runs.{run, state_after, lists_left}
use Rattle.reference.specs.ReferenceLists.{lists_after}
use Rattle.reference.specs.Reference.{Reference, empty, pool_contents, reference_run, reference_after}

-- the state that the model says: its K, C and mark, R modulo 2^32, the flag set exactly when R is above 0, the requests on the key up to
-- 65,535, and for each pool the running hash, tail and length that the bytes it holds leave
unfoldable pub concrete : Reference → Fortuna
concrete b =
    record {
      generator = encode b.generator;
      pools = tabulate (λ i. pool_of (pool_contents b i)) pool_count;
      last_reseed = b.last_reseed;
      reseed_count = b.reseeds % 2 ^ 32;
      reseeded = ltb 0 b.reseeds;
      key_requests = min max_key_requests b.key_requests;
    }

-- a model's outcome with the state that it says
unfoldable pub concrete_outcome : Outcome Reference → Outcome Fortuna
concrete_outcome o =
    record {
      number = o.number;
      value = o.value;
      effect = record {
        emptied = o.effect.emptied;
        buffer = o.effect.buffer;
        next = concrete o.effect.next;
        trace = o.effect.trace;
      };
    }

-- a run is its calls' steps, each from the state that the last one left, and nothing at the empty list
pub record RunIsSteps : Type 0 where
  pub none : run [] ≡ []
  pub more : (calls : List Entry) (c : Entry) → run (calls ++ (c ∷ [])) ≡ run calls ++ (entry_step (state_after calls) c ∷ [])
  pub start : state_after [] ≡ fresh
  pub left : (calls : List Entry) (c : Entry) → state_after (calls ++ (c ∷ [])) ≡ (entry_step (state_after calls) c).effect.next

-- numbers, values drawn, counts, buffers, states left and traces are the model's, and so are the fresh state and the state at the end
pub record Agrees (calls : List Entry) : Type 0 where
  pub fresh-state : fresh ≡ concrete empty
  pub outcomes : run calls ≡ map concrete_outcome (reference_run calls)
  -- the lists that the calls return are those that the model says
  pub lists : lists_left calls (run calls) ≡ lists_after calls (reference_run calls)
  pub state : state_after calls ≡ concrete (reference_after calls)
