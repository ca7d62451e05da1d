-- What an accepted call does to a state of the keyed scheduler, with no test of its arguments.
-- Assumes nothing.
use Rattle.std.specs.Prelude.{cond, List, [], ℕ, ◌+◌, set}
use Rattle.hash.specs.Hasher.{absorb}
use Rattle.hash.specs.ShaD.{empty_pool, pool_digest}
use Rattle.generator.specs.Steps.{GeneratorState, decode, encode, reseed, pseudo_random_data}
use Rattle.pools.specs.Schedule.{count_request}
use Rattle.pools.specs.Refusals.{seed_size}
use Rattle.pools.specs.Effects.{Effect}
use Rattle.keyed.specs.Scheduler.{empties, output_pool}
use Rattle.keyed.specs.State.{pool_at, picked}
use Rattle.keyed.specs.declared.Keyed.{Keyed}

-- ---- an event

-- the pool that step t picks gains bytes
unfoldable pub gained : Keyed → List ℕ → Keyed
gained s bytes =
    let i = picked s in
    record {
      generator = s.generator;
      pools = set s.pools i (absorb (pool_at s i) bytes);
      last_reseed = s.last_reseed;
      reseed_count = s.reseed_count;
      reseeded = s.reseeded;
      key_requests = s.key_requests;
      scheduler_key = s.scheduler_key;
      step = s.step;
    }

-- pool i is emptied into the key, by a reseed with D(pool); the requests on the key start anew (02 (iv))
unfoldable pub emptied_into : Keyed → ℕ → Keyed
emptied_into s i =
    record {
      generator = encode (reseed (decode s.generator) (pool_digest (pool_at s i)));
      pools = set s.pools i empty_pool;
      last_reseed = s.last_reseed;
      reseed_count = s.reseed_count;
      reseeded = s.reseeded;
      key_requests = 0;
      scheduler_key = s.scheduler_key;
      step = s.step;
    }

-- the state once the step has emptied its pool, if it empties one
unfoldable pub emptied_by_step : Keyed → Keyed
emptied_by_step s = cond (empties s.step) (emptied_into s (output_pool s.step)) s

-- the next step
unfoldable pub stepped : Keyed → Keyed
stepped s =
    record {
      generator = s.generator;
      pools = s.pools;
      last_reseed = s.last_reseed;
      reseed_count = s.reseed_count;
      reseeded = s.reseeded;
      key_requests = s.key_requests;
      scheduler_key = s.scheduler_key;
      step = s.step + 1;
    }

-- the event, then what its step empties, then the next step
unfoldable pub add_event : Keyed → List ℕ → Effect Keyed
add_event s bytes =
    record { emptied = cond (empties s.step) 1 0; buffer = []; next = stepped (emptied_by_step (gained s bytes)); trace = [] }

-- ---- requests and seeds

-- another generator, and one request more
unfoldable pub served : Keyed → GeneratorState → Keyed
served s w =
    record {
      generator = encode w;
      pools = s.pools;
      last_reseed = s.last_reseed;
      reseed_count = s.reseed_count;
      reseeded = s.reseeded;
      key_requests = count_request s.key_requests;
      scheduler_key = s.scheduler_key;
      step = s.step;
    }

-- a request of n bytes from K and C: no pool is emptied
unfoldable pub random_data_from : Keyed → GeneratorState → ℕ → Effect Keyed
random_data_from s w n =
    let made = pseudo_random_data w n in
    record { emptied = 0; buffer = made.bytes; next = served s made.next; trace = made.trace }

unfoldable pub random_data : Keyed → ℕ → Effect Keyed
random_data s n = random_data_from s (decode s.generator) n

-- the generator reseeded with a seed
unfoldable pub reseed_with_seed : Keyed → List ℕ → Keyed
reseed_with_seed s seed =
    record {
      generator = encode (reseed (decode s.generator) seed);
      pools = s.pools;
      last_reseed = s.last_reseed;
      reseed_count = s.reseed_count;
      reseeded = s.reseeded;
      key_requests = s.key_requests;
      scheduler_key = s.scheduler_key;
      step = s.step;
    }

-- an update: the seed reseeds, then 64 bytes overwrite it; a write: only the request
unfoldable pub update_seed : Keyed → List ℕ → Effect Keyed
update_seed s seed = random_data (reseed_with_seed s seed) seed_size

unfoldable pub write_seed : Keyed → Effect Keyed
write_seed s = random_data s seed_size
