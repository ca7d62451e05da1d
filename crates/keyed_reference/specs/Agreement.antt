-- Agreement: what is seen at each call and the state left are the reference model's.
-- Assumes nothing.
use Rattle.std.specs.Prelude.{◌≡◌, false, List, [], ◌∷◌, ◌++◌, map, ℕ, min}
use Rattle.laws.specs.Lists.{tabulate}
use Rattle.hash.specs.ShaD.{pool_of}
use Rattle.generator.specs.Steps.{encode}
use Rattle.pools.specs.Events.{pool_count}
use Rattle.pools.specs.Schedule.{max_key_requests}
use Rattle.pools.specs.Calls.{Outcome}
use Rattle.keyed.specs.declared.Keyed.{Keyed}
use Rattle.keyed.specs.State.{fresh}
use Rattle.keyed.specs.Entries.{Entry, entry_step}
use Rattle.keyed_reference.specs.Runs.{run, state_after, lists_left}
use Rattle.keyed_reference.specs.ReferenceLists.{lists_after}
use Rattle.keyed_reference.specs.Reference.{Reference, empty, pool_contents, reference_run, reference_after}

-- the state that the model says: its K, C and step; mark, flag and reseed number 0; the scheduler key as given; the requests on the key up to
-- 65,535; and for each pool the running hash, tail and length that the bytes it holds leave
unfoldable pub concrete : List ℕ → Reference → Keyed
concrete key b =
    record {
      generator = encode b.generator;
      pools = tabulate (λ i. pool_of (pool_contents b i)) pool_count;
      last_reseed = 0;
      reseed_count = 0;
      reseeded = false;
      key_requests = min max_key_requests b.key_requests;
      scheduler_key = key;
      step = b.steps;
    }

-- a model's outcome with the state that it says
unfoldable pub concrete_outcome : List ℕ → Outcome Reference → Outcome Keyed
concrete_outcome key o =
    record {
      number = o.number;
      value = o.value;
      effect = record {
        emptied = o.effect.emptied;
        buffer = o.effect.buffer;
        next = concrete key o.effect.next;
        trace = o.effect.trace;
      };
    }

-- a run is its calls' steps, each from the state that the last one left, and nothing at the empty list
pub record RunIsSteps (key : List ℕ) : Type 0 where
  pub none : run key [] ≡ []
  pub more : (calls : List Entry) (c : Entry) → run key (calls ++ (c ∷ [])) ≡ run key calls ++ (entry_step (state_after key calls) c ∷ [])
  pub start : state_after key [] ≡ fresh key
  pub left : (calls : List Entry) (c : Entry) → state_after key (calls ++ (c ∷ [])) ≡ (entry_step (state_after key calls) c).effect.next

-- numbers, counts, buffers, states left and traces are the model's, and so are the fresh start and the state at the end
pub record Agrees (key : List ℕ) (calls : List Entry) : Type 0 where
  pub fresh-state : fresh key ≡ concrete key empty
  pub outcomes : run key calls ≡ map (concrete_outcome key) (reference_run key calls)
  -- the lists that the calls return are those that the model says
  pub lists : lists_left calls (run key calls) ≡ lists_after calls (reference_run key calls)
  pub state : state_after key calls ≡ concrete key (reference_after key calls)
