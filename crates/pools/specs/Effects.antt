-- What an accepted call does to a state (004, 9.5 and 9.6), with no test of its arguments.
-- Assumes nothing.
use Rattle.std.specs.Prelude.{ℕ, ◌+◌, ◌%◌, ◌^◌, true, cond, List, [], length, slice_set}
use Rattle.laws.specs.Lists.{tabulate, joined}
use Rattle.hash.specs.Hasher.{absorb}
use Rattle.hash.specs.ShaD.{empty_pool, pool_digest}
use Rattle.hash.specs.declared.hasher.Hasher.{Hasher}
use Rattle.generator.specs.Steps.{GeneratorState, decode, encode, reseed, pseudo_random_data}
use Rattle.pools.specs.Events.{pool_count}
use Rattle.pools.specs.Schedule.{used, used_pools, count_request}
use Rattle.pools.specs.State.{pool_at, due}
use Rattle.pools.specs.Refusals.{seed_size}
use Rattle.pools.specs.declared.Fortuna.{Fortuna}

-- what a call leaves: the pools emptied, what the lent buffer then holds, the next state, and, which no caller sees,
-- the counter blocks of its Block steps in order
pub record Effect (S : Type 0) : Type 0 where
  pub emptied : ℕ
  pub buffer : List ℕ
  pub next : S
  pub trace : List (List ℕ)

-- what a call that does nothing leaves
unfoldable pub unchanged : {S : Type 0} → List ℕ → S → Effect S
unchanged buffer s = record { emptied = 0; buffer = buffer; next = s; trace = [] }

-- the state with another pool i, with another generator
unfoldable pub with_pool : Fortuna → ℕ → Hasher → Fortuna
with_pool s i p =
    record {
      generator = s.generator;
      pools = slice_set s.pools i p;
      last_reseed = s.last_reseed;
      reseed_count = s.reseed_count;
      reseeded = s.reseeded;
      key_requests = s.key_requests;
    }

unfoldable pub with_generator : Fortuna → GeneratorState → Fortuna
with_generator s w =
    record {
      generator = encode w;
      pools = s.pools;
      last_reseed = s.last_reseed;
      reseed_count = s.reseed_count;
      reseeded = s.reseeded;
      key_requests = s.key_requests;
    }

-- the state after a request that left K and C: one more on the key
unfoldable pub with_request : Fortuna → GeneratorState → Fortuna
with_request s w =
    record {
      generator = encode w;
      pools = s.pools;
      last_reseed = s.last_reseed;
      reseed_count = s.reseed_count;
      reseeded = s.reseeded;
      key_requests = count_request s.key_requests;
    }

-- pool i gains bytes (ADDRANDOMEVENT)
unfoldable pub add_event : Fortuna → ℕ → List ℕ → Fortuna
add_event s i bytes = with_pool s i (absorb (pool_at s i) bytes)

-- the number of the next pool reseed, kept modulo 2^32
unfoldable pub next_reseed : Fortuna → ℕ
next_reseed s = (s.reseed_count + 1) % 2 ^ 32

-- the D of the pools that reseed n uses, joined in rising i
unfoldable pub digests : Fortuna → ℕ → List ℕ
digests s n = joined (λ i. pool_digest (pool_at s i)) (used_pools n)

-- the pools once those that reseed n uses are emptied
unfoldable pub emptied_pools : Fortuna → ℕ → List Hasher
emptied_pools s n = tabulate (λ i. cond (used n i) empty_pool (pool_at s i)) pool_count

-- the pool reseed
unfoldable pub pool_reseed : Fortuna → ℕ → Fortuna
pool_reseed s clock =
    record {
      generator = encode (reseed (decode s.generator) (digests s (next_reseed s)));
      pools = emptied_pools s (next_reseed s);
      last_reseed = clock;
      reseed_count = next_reseed s;
      reseeded = true;
      key_requests = 0;
    }

-- the pool reseed if due, and how many pools it empties
unfoldable pub reseed_if_due : Fortuna → ℕ → Fortuna
reseed_if_due s clock = cond (due s clock) (pool_reseed s clock) s

unfoldable pub emptied_by : Fortuna → ℕ → ℕ
emptied_by s clock = cond (due s clock) (length (used_pools (next_reseed s))) 0

-- RANDOMDATA, n bytes at a reading: the reseed if due, then the generator's request
unfoldable pub random_data : Fortuna → ℕ → ℕ → Effect Fortuna
random_data s clock n =
    let r = reseed_if_due s clock in
    let made = pseudo_random_data (decode r.generator) n in
    record { emptied = emptied_by s clock; buffer = made.bytes; next = with_request r made.next; trace = made.trace }

-- the generator reseeded with a seed: neither time nor number of the pool reseeds moves
unfoldable pub reseed_with_seed : Fortuna → List ℕ → Fortuna
reseed_with_seed s seed = with_generator s (reseed (decode s.generator) seed)

-- UPDATESEEDFILE: the seed reseeds, then 64 bytes overwrite it. WRITESEEDFILE: only the request
unfoldable pub update_seed : Fortuna → ℕ → List ℕ → Effect Fortuna
update_seed s clock seed = random_data (reseed_with_seed s seed) clock seed_size

unfoldable pub write_seed : Fortuna → ℕ → Effect Fortuna
write_seed s clock = random_data s clock seed_size
