-- What is proved of the definitions beside the code. Runs.antt has what is proved of lists of calls.
-- Assumes nothing.
use Rattle.std.specs.Prelude.{◌≡◌, ◌≢◌, List, [], ◌∷◌, ℕ, ◌+◌, ◌%◌, ◌^◌, ◌≤◌, ◌<◌, length, get_or, replicate, Result}
use Rattle.cipher.specs.Aes.{Bytes}
use Rattle.ctr_drbg.specs.Counter.{octets_to_integer, integer_to_octets, increment}
use Rattle.ctr_drbg.specs.Algorithms.{padded, working, state_of, generate_blocks, update, instantiate, reseed, prepared, generate}
use Rattle.ctr_drbg.specs.Closed.{closed_blocks, closed_update, closed_reseed, closed_from, closed_generate}
use Rattle.ctr_drbg.specs.Refusals.{max_request}
use Rattle.ctr_drbg.specs.Operations.{number, fresh}
use Rattle.ctr_drbg.specs.declared.CtrDrbg.{CtrDrbg}
use Rattle.ctr_drbg.specs.declared.update.Working.{Working}
use Rattle.ctr_drbg.specs.declared.refusal.Refusal.{Refusal}

-- V as bytes and V as a number are the same thing, modulo 2^128
pub record CounterEncoding : Type 0 where
  -- the bytes of the number of 16 bytes are those bytes
  pub bytes_of_number : (v : List ℕ) → length v ≡ 16 → Bytes v → integer_to_octets 16 (octets_to_integer v) ≡ v
  -- the number of the 16 low bytes of x is x modulo 2^128
  pub number_of_bytes : (x : ℕ) → octets_to_integer (integer_to_octets 16 x) ≡ x % 2 ^ 128
  -- a step adds 1
  pub stepped : (v : List ℕ) → octets_to_integer (increment v) ≡ (octets_to_integer v + 1) % 2 ^ 128

-- the standard's steps and the closed form are equal: bytes, Key, V and trace
pub record ClosedForm : Type 0 where
  pub blocks : (w : Working) (k : ℕ) → generate_blocks w k ≡ closed_blocks w k
  pub updated : (provided : List ℕ) (w : Working) (k : ℕ) → update provided (generate_blocks w k).next ≡ closed_update provided w k
  -- a first seeding is a reseed of the state before any
  pub first : (entropy personalization : List ℕ) → instantiate entropy personalization ≡ closed_reseed fresh entropy personalization
  pub reseeded : (s : CtrDrbg) (entropy additional : List ℕ) → reseed s entropy additional ≡ closed_reseed s entropy additional
  pub request : (s : CtrDrbg) (n : ℕ) (additional : List ℕ) → generate s n additional ≡ closed_generate s n additional

-- every two places of a list differ
abbrev pub Different : List (List ℕ) → Type 0
Different l = (i j : ℕ) → i < j → j < length l → get_or l i [] ≢ get_or l j []

-- between two updates no V is enciphered twice: not among up to 2^128 blocks under one Key, of which an update alone makes three, and
-- not in a request's output and the update behind it, which share a Key
pub record NoBlockTwice : Type 0 where
  pub blocks : (w : Working) (k : ℕ) → k ≤ 2 ^ 128 → Different (generate_blocks w k).trace
  pub request : (s : CtrDrbg) (n : ℕ) (additional : List ℕ) → n ≤ max_request → Different (generate s n additional).trace

-- in a request an empty additional input is none: there is no first update, and the second one is with 48 zero bytes; every other
-- is one, zeros too
pub record EmptyInput (s : CtrDrbg) (n : ℕ) : Type 0 where
  pub none : generate s n [] ≡ closed_from (working s) n (replicate 48 0) (s.reseed_counter + 1)
  pub some : (x : ℕ) (xs : List ℕ)
      → generate s n (x ∷ xs) ≡ closed_from (closed_update (padded (x ∷ xs)) (working s) 0) n (padded (x ∷ xs)) (s.reseed_counter + 1)

-- a request of no bytes is one: no block is made for it, Key and V are updated, and it counts
pub record NothingAsked (s : CtrDrbg) (additional : List ℕ) : Type 0 where
  pub bytes : (generate s 0 additional).bytes ≡ []
  pub next : (generate s 0 additional).next ≡ state_of (update (padded additional) (prepared additional (working s))) (s.reseed_counter + 1)

-- different answers have different numbers
abbrev pub NumberInjective : Type 0
NumberInjective = (a b : Result Unit Refusal) → number a ≡ number b → a ≡ b
