-- What a call that is no event leaves, what a refused call leaves, and that a moved timer is refused, in every state and with every list.
-- Assumes nothing.
use Rattle.std.specs.Prelude.{◌≡◌, true, ◌≢◌, ◌⊎◌, List, [], ◌++◌, ℕ, ◌+◌, length}
use Rattle.hash.specs.ShaD.{D}
use Rattle.generator.specs.Steps.{GeneratorState, decode, encode, pseudo_random_data}
use Rattle.pools.specs.Effects.{Effect}
use Rattle.quotas.specs.declared.Quota.{Quota}
use Rattle.quotas.specs.Entries.{Quotas, without, within}
use Rattle.keyed.specs.declared.Keyed.{Keyed}
use Rattle.keyed.specs.State.{counter_of, malformed}
use Rattle.keyed.specs.Calls.{Call, event, request, update, write, input_number}
use Rattle.keyed.specs.Entries.{taking, list_number, entry_number, entry_step, list_remaining, left_by}

-- bytes, K, C and trace are those of the generator's request for n bytes from w; pools, scheduler key and step stay
pub record Serves (s : Keyed) (w : GeneratorState) (n : ℕ) (e : Effect Keyed) : Type 0 where
  pub bytes : e.buffer ≡ (pseudo_random_data w n).bytes
  pub next : e.next.generator ≡ encode (pseudo_random_data w n).next
  pub trace : e.trace ≡ (pseudo_random_data w n).trace
  pub pools : e.next.pools ≡ s.pools
  pub key : e.next.scheduler_key ≡ s.scheduler_key
  pub step : e.next.step ≡ s.step

-- an accepted request is served from the state's K and C, and so is a write with 64 bytes; an update once its seed has entered
pub record ServedLaw (s : Keyed) (q : Quotas) : Type 0 where
  pub request :
      (buffer : List ℕ) → entry_number s (taking q (request buffer)) ≡ 0 →
      Serves s (decode s.generator) (length buffer) (entry_step s (taking q (request buffer))).effect
  pub update :
      (seed : List ℕ) → entry_number s (taking q (update seed)) ≡ 0 →
      Serves s (record { key = D (s.generator.key ++ seed); count = counter_of s + 1 }) 64 (entry_step s (taking q (update seed))).effect
  pub write :
      (seed : List ℕ) → entry_number s (taking q (write seed)) ≡ 0 →
      Serves s (decode s.generator) 64 (entry_step s (taking q (write seed))).effect

-- what a refused call leaves: the state and the lent buffer
abbrev pub kept : Keyed → List ℕ → Effect Keyed
kept s buffer = record { emptied = 0; buffer = buffer; next = s; trace = [] }

pub record RefusedLaw (s : Keyed) (q : Quotas) : Type 0 where
  pub event :
      (source : ℕ) (content : List ℕ) → entry_number s (taking q (event source content)) ≢ 0 →
      (entry_step s (taking q (event source content))).effect ≡ kept s []
  pub request :
      (buffer : List ℕ) → entry_number s (taking q (request buffer)) ≢ 0 → (entry_step s (taking q (request buffer))).effect ≡ kept s buffer
  pub update : (seed : List ℕ) → entry_number s (taking q (update seed)) ≢ 0 → (entry_step s (taking q (update seed))).effect ≡ kept s seed
  pub write : (seed : List ℕ) → entry_number s (taking q (write seed)) ≢ 0 → (entry_step s (taking q (write seed))).effect ≡ kept s seed

-- the list that agreement compares is the one that the call leaves; without a list there is none
pub record ListTold (s : Keyed) (c : Call) : Type 0 where
  pub within : (rs : List Quota) → list_remaining (taking (within rs) c) (entry_step s (taking (within rs) c)) ≡ within (left_by s rs c)
  pub none : list_remaining (taking without c) (entry_step s (taking without c)) ≡ without

-- in a state whose mark, reseed number or flag is not 0, every call is refused by 21 where neither its input nor its list gives a number
abbrev pub TimerLaw : Type 0
TimerLaw =
    (s : Keyed) (q : Quotas) (c : Call) → input_number c ≡ 0 → list_number q c ≡ 0 →
    (s.last_reseed ≢ 0) ⊎ (s.reseed_count ≢ 0) ⊎ (s.reseeded ≡ true) → entry_number s (taking q c) ≡ 21

-- 21 has no clause on the step or on the scheduler key: a state is as well formed at any step and under any key
abbrev pub NoClauseLaw : Type 0
NoClauseLaw =
    (s : Keyed) (t : ℕ) (key : List ℕ) →
    malformed
    (record {
      generator = s.generator;
      pools = s.pools;
      last_reseed = s.last_reseed;
      reseed_count = s.reseed_count;
      reseeded = s.reseeded;
      key_requests = s.key_requests;
      scheduler_key = key;
      step = t;
    })
    ≡ malformed s
