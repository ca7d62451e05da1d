-- What is proved of the events behind the keys of every list of calls, each with a list of quotas or without one.
-- Assumes nothing.
use Rattle.std.specs.Prelude.{◌≡◌, true, ◌↔◌, ℕ, ◌+◌, ◌≤◌, ◌<◌, eqb, length}
use mathlib.Core.List.{List, ◌∷◌, ◌++◌, map, Memᴰ}
use Rattle.laws.specs.Lists.{joined}
use Rattle.hash.specs.ShaD.{D, pool_of, max_pool_length}
use Rattle.generator.specs.Steps.{decode, encode, reseed}
use Rattle.generator.specs.declared.Generator.{Generator}
use Rattle.pools.specs.declared.Fortuna.{Fortuna}
use Rattle.pools.specs.Events.{pool_count}
use Rattle.pools.specs.Schedule.{used_pools}
use Rattle.pools.specs.State.{pool_at}
use Rattle.pools.specs.Effects.{pool_reseed}
use Rattle.pools.specs.Calls.{event, reading_of, Outcome}
use Rattle.quotas.specs.Entries.{without, Entry, taking, entry_step}
use Rattle.reference.specs.Runs.{run, state_after}
use Rattle.reference.specs.Timer.{reseeds_after}
use Rattle.reference.specs.Provenance.{at_reseed, made_from, TakenFrom, EntersAt}
use Rattle.history.specs.Strings.{Event, string_of, AllAllowed}
use Rattle.history.specs.Reader.{history}
use Rattle.history.specs.Statements.{Bytes}
use Rattle.history.specs.Runs.{accepted_event, booked_for, waiting_in, made, entered_at, strings_at, string_in, worked_out}

-- ---- what has entered the key

-- the call of a list that makes pool reseed n
pub record Makes (calls : List Entry) (n : ℕ) : Type 0 where
  pub before : List Entry
  pub call : Entry
  pub later : List Entry
  pub whole : before ++ (call ∷ later) ≡ calls
  pub empties : 0 < (entry_step (state_after before) call).effect.emptied
  pub number : n ≡ reseeds_after before + 1

-- the state in which it makes the reseed, and the key that the strings of reseed n give there
abbrev pub reseed_state : {calls : List Entry} {n : ℕ} → Makes calls n → Fortuna
reseed_state m = at_reseed (state_after m.before) m.call.call

abbrev pub key_from : {calls : List Entry} {n : ℕ} → Makes calls n → Generator
key_from {calls} {n} m = encode (reseed (decode (reseed_state m).generator) (joined D (strings_at calls n)))

pub record Behind (calls : List Entry) (n : ℕ) : Type 0 where
  -- the strings used at reseed n are those of the events that entered there, and each is read to its end
  pub strings : strings_at calls n ≡ map (λ x. string_of x.events) (entered_at calls n)
  pub whole : map (λ s. (history s).number) (strings_at calls n) ≡ map (λ s. 0) (strings_at calls n)
  -- worked out from the strings and the schedule alone, these are the events of the calls, with their pools and in their order there
  pub worked : worked_out n (strings_at calls n) ≡ entered_at calls n
  -- the run has made reseed n exactly if one of its calls makes it
  pub makes : (made calls n ≡ true) ↔ Makes calls n
  -- that call takes the strings that the pools hold, of those that reseed n uses, in rising i
  pub held : (m : Makes calls n) → strings_at calls n ≡ map (string_in m.before) (used_pools n)
  -- hashes them into the key, and goes on from that key
  pub hashed : (m : Makes calls n) → (pool_reseed (reseed_state m) (reading_of m.call.call)).generator ≡ key_from m
  pub taken : (m : Makes calls n) → TakenFrom (made_from (decode (key_from m)) m.call.call) (entry_step (state_after m.before) m.call)
  -- the bytes of a call enter the key there through pool i, as demand 3 has it, exactly if it is an accepted event booked so
  pub enters :
      (before : List Entry) (c : Entry) (later : List Entry) → before ++ (c ∷ later) ≡ calls → (i : ℕ) →
      EntersAt calls (length before) n i ↔ ((made calls n ≡ true) × (0 < length (accepted_event (λ k. eqb k n) i before c)))
  -- and pool i is then among those listed
  pub listed :
      (place i : ℕ) → EntersAt calls place n i → Memᴰ (record { pool = i; events = booked_for calls n i }) (entered_at calls n)

abbrev pub BehindLaw : Type 0
BehindLaw = (calls : List Entry) (n : ℕ) → Behind calls n

-- so two runs with the same strings at reseed n have the same events there, with their pools and in their order
abbrev pub SameStrings : Type 0
SameStrings = (calls others : List Entry) (n : ℕ) → strings_at calls n ≡ strings_at others n → entered_at calls n ≡ entered_at others n

-- and with the same strings at every reseed they have made as many
abbrev pub SameReseeds : Type 0
SameReseeds = (calls others : List Entry) → ((n : ℕ) → strings_at calls n ≡ strings_at others n) → reseeds_after calls ≡ reseeds_after others

-- ---- what waits in a pool

pub record Held (calls : List Entry) (i : ℕ) : Type 0 where
  -- pool i holds the string of the events that wait in it: its state is the running hash of that string
  pub string : string_in calls i ≡ string_of (waiting_in calls i)
  pub state : pool_at (state_after calls) i ≡ pool_of (string_in calls i)
  -- read, it is those events
  pub worked : history (string_in calls i) ≡ record { events = waiting_in calls i; number = 0; place = length (string_in calls i) }

abbrev pub HeldLaw : Type 0
HeldLaw = (calls : List Entry) (i : ℕ) → i < pool_count → Held calls i

-- ---- a list of allowed events is one that a pool can gain

-- the events of a list as calls on pool i
unfoldable pub events_into : ℕ → List Event → List Entry
events_into i es = map (λ e. taking without (event e.source i e.content)) es

-- 22 aside, a fresh station accepts them all, and its pool holds their string
pub record Gained (i : ℕ) (es : List Event) : Type 0 where
  pub numbers : map (λ (o : Outcome _). o.number) (run (events_into i es)) ≡ map (λ e. 0) es
  pub string : string_in (events_into i es) i ≡ string_of es

abbrev pub GainedLaw : Type 0
GainedLaw = (i : ℕ) (es : List Event) → i < pool_count → AllAllowed es → length (string_of es) ≤ max_pool_length → Gained i es

-- so, 22 aside, exactly the strings that no pool holds in any run come to 44
abbrev pub PoolStringLaw : Type 0
PoolStringLaw =
    (string : List ℕ) → Bytes string → length string ≤ max_pool_length →
    ((history string).number ≡ 44) ↔ ((calls : List Entry) (i : ℕ) → i < pool_count → string_in calls i ≡ string → ⊥)
