-- What the scheduler's rule and the booking in closed form are, told by their properties, and what the step number counts.
-- Assumes nothing.
use Rattle.std.specs.Prelude.{◌≡◌, true, false, cond, ◌&&◌, List, ℕ, ◌+◌, ◌*◌, ◌/◌, ◌%◌, ◌^◌, ◌≤◌, ◌<◌, eqb, length, get_or}
use Rattle.cipher.specs.Aes.{cipher}
use Rattle.pools.specs.Calls.{Outcome}
use Rattle.keyed.specs.declared.Keyed.{Keyed}
use Rattle.keyed.specs.Entries.{Entry, entry_number, entry_step}
use Rattle.keyed.specs.Scheduler.{step_block, input_pool, empties, output_pool, takes}
use Rattle.keyed_reference.specs.Runs.{run, state_after, tally, is_event}
use Rattle.keyed_reference.specs.Reference.{scheduled_step}

-- the pool that the event at step t goes to is one of the 32: the first byte, modulo 32, of AES-256 under the scheduler key of the 16 bytes of t,
-- least significant first
pub record InputIs (key : List ℕ) (t : ℕ) : Type 0 where
  pub small : input_pool key t < 32
  pub byte : input_pool key t ≡ get_or (cipher key (step_block t)) 0 0 % 32
  pub whole : length (step_block t) ≡ 16
  pub digits : (j : ℕ) → j < 16 → get_or (step_block t) j 0 ≡ t / 256 ^ j % 256

abbrev pub InputLaw : Type 0
InputLaw = (key : List ℕ) (t : ℕ) → InputIs key t

-- a step that empties a pool: t is above 0 and 32 divides it; the pool is the largest i up to 31 with 32 × 2^i dividing t
pub record OutputIs (t : ℕ) : Type 0 where
  pub later : 0 < t
  pub multiple : t % 32 ≡ 0
  pub small : output_pool t ≤ 31
  pub divided : t % (32 * 2 ^ output_pool t) ≡ 0
  pub largest : (j : ℕ) → j ≤ 31 → t % (32 * 2 ^ j) ≡ 0 → j ≤ output_pool t

pub record OutputLaw : Type 0 where
  pub emptied : (t : ℕ) → empties t ≡ true → OutputIs t
  pub every : (t : ℕ) → 0 < t → t % 32 ≡ 0 → empties t ≡ true

-- the booked step is the first from t on that empties pool i, and fewer than 32 × 2^(i + 1) steps after t
pub record FirstEmptying (i t : ℕ) : Type 0 where
  pub later : t ≤ scheduled_step i t
  pub emptied : takes (scheduled_step i t) i ≡ true
  pub first : (n : ℕ) → t ≤ n → n < scheduled_step i t → takes n i ≡ false
  pub soon : scheduled_step i t < t + 32 * 2 ^ (i + 1)

abbrev pub ScheduleLaw : Type 0
ScheduleLaw = (i t : ℕ) → i < 32 → FirstEmptying i t

-- in every state: a call empties a pool, and then one, exactly where it is an accepted event and its step empties one
abbrev pub EmptiedLaw : Type 0
EmptiedLaw =
    (s : Keyed) (c : Entry) →
    (entry_step s c).effect.emptied ≡ cond (is_event c.call && eqb (entry_number s c) 0 && empties s.step) 1 0

-- the accepted events of a run
unfoldable pub accepted_events : {S : Type 0} → List Entry → List (Outcome S) → ℕ
accepted_events calls os = tally (λ c o. cond (is_event c.call && eqb o.number 0) 1 0) calls os

-- the step number is the count of accepted events, and within its 64 bits: no other call moves it, nor does a refused event
pub record StepsMade (key : List ℕ) (calls : List Entry) : Type 0 where
  pub counts : (state_after key calls).step ≡ accepted_events calls (run key calls)
  pub within : (state_after key calls).step < 2 ^ 64
