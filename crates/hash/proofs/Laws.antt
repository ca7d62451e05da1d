-- What the crates above use of the running hash and of D, instead of their text.
-- Assumes nothing.
use Rattle.std.proofs.Common.{◌≡◌, ℕ, ◌+◌, ◌-◌, ◌*◌, ◌/◌, ◌%◌, ◌^◌, ◌<◌, ◌≤◌, List, [], ◌++◌, length, drop, replicate, sym, refl, ap, ◌∙◌, le_trans, zero-add, arith, lit≤, length-append, length-drop, drop_at, ltb, le-ltb, true, Ok, Err}
use native.Mathlib.Nat.{div-eq_of_lt}
use Rattle.laws.proofs.Cases.{by-test}
use Rattle.laws.proofs.Tabulate.{length-tabulate}
use Rattle.hash.specs.Constants.{H⁰}
use Rattle.hash.specs.Sha256.{blocks, digest_from, sha256}
use Rattle.hash.specs.Hasher.{zero_filled, empty_hasher, hasher_of, absorb_from, absorb, finish}
use Rattle.hash.specs.ShaD.{zero_block, D, max_message, max_d_message, max_pool_length, empty_pool, pool_of, with_zero_block, pool_digest}
use Rattle.hash.specs.Answers.{number, length_number, within, absorbed}
use Rattle.hash.specs.Statements.{PoolGivesD}
use Rattle.hash.specs.declared.hasher.Hasher.{Hasher}
use Rattle.hash.proofs.ZeroBlock.{zero-block-hash}
use Rattle.hash.proofs.Absorb as Absorb

-- ---- lengths

pub length-digest : (h m : List ℕ) → length (digest_from h m) ≡ 32
unfolding digest_from
length-digest h m = length-tabulate _ 32

pub length-sha256 : (m : List ℕ) → length (sha256 m) ≡ 32
unfolding sha256
length-sha256 m = length-digest H⁰ _

pub length-pool-digest : (r : Hasher) → length (pool_digest r) ≡ 32
unfolding pool_digest
length-pool-digest r = length-sha256 (finish (with_zero_block r))

-- ---- absorbing

-- the length after d
pub absorb-length : (r : Hasher) (d : List ℕ) → (absorb r d).length ≡ r.length + length d
unfolding absorb absorb_from
absorb-length r d = refl

-- two parts are absorbed as their concatenation is
pub absorb-append : (r : Hasher) (d e : List ℕ) → length r.tail ≡ 64 → absorb (absorb r d) e ≡ absorb r (d ++ e)
absorb-append r d e long = Absorb.absorb-append r d long e

-- ---- SHA-256 by a running hash

-- the state that a message leaves, from the empty one
pub absorb-empty : (m : List ℕ) → absorb empty_hasher m ≡ hasher_of m
absorb-empty m = Absorb.absorb-empty m

pub empty-length : empty_hasher.length ≡ 0
unfolding empty_hasher
empty-length = refl

pub absorb-hasher : (m d : List ℕ) → absorb (hasher_of m) d ≡ hasher_of (m ++ d)
absorb-hasher m d = rw (← absorb-empty m, ← absorb-empty (m ++ d)) (absorb-append empty_hasher m d Absorb.empty-long)

pub finish-hasher : (m : List ℕ) → finish (hasher_of m) ≡ sha256 m
finish-hasher m = rw (← absorb-empty m) (Absorb.finish-empty m)

-- ---- what the bytes m leave, from the hash value h

rest-length : (m : List ℕ) → length (drop (length m / 64 * 64) m) ≡ length m % 64
rest-length m = rw length-drop (omega arith)

module _ (h m : List ℕ) where
  left-zeros : drop (length m % 64) (absorb_from h m (length m)).tail ≡ replicate (64 - length m % 64) 0
  unfolding absorb_from zero_filled
  left-zeros =
      let t : List ℕ = drop (length m / 64 * 64) m in
      rw (← rest-length m) (drop_at t (replicate (64 - length t) 0) (length t) refl)

  left-short : length m < 64 → (absorb_from h m (length m)).chain ≡ h
  unfolding absorb_from blocks
  left-short l =
      let e : length m / 64 ≡ 0 = div-eq_of_lt l in
      rw e

-- ---- a pool

-- what the bytes m leave in a pool: the hash value goes on from the zero block's
pool-is : (m : List ℕ) → pool_of m ≡ absorb_from empty_pool.chain m (length m)
unfolding pool_of absorb empty_pool
pool-is m = rw zero-add

pub pool-empty : empty_pool ≡ pool_of []
unfolding empty_pool absorb_from blocks zero_filled
pool-empty = sym (pool-is [])

empty-long : length empty_pool.tail ≡ 64
unfolding empty_pool
empty-long = refl

pub absorb-pool : (m d : List ℕ) → absorb (pool_of m) d ≡ pool_of (m ++ d)
unfolding pool_of
absorb-pool m d = absorb-append empty_pool m d empty-long

absorb-pool' : (m d : List ℕ) → absorb (absorb empty_pool m) d ≡ pool_of (m ++ d)
unfolding pool_of
absorb-pool' m d = absorb-pool m d

length-zero-block : length zero_block ≡ 64
unfolding zero_block
length-zero-block = refl

-- with the zero block counted, a pool is the running hash of the zero block and its bytes
zeros-counted : (m : List ℕ) → with_zero_block (pool_of m) ≡ hasher_of (zero_block ++ m)
unfolding with_zero_block hasher_of empty_pool absorb_from
zeros-counted m =
    let left : Hasher = absorb_from empty_pool.chain m (length m) in
    let n : (with_zero_block left).length ≡ length (zero_block ++ m) = rw (length-append, length-zero-block) (omega arith) in
    rw (pool-is m, n, zero-block-hash) (sym (Absorb.after_next H⁰ zero_block m (length (zero_block ++ m)) length-zero-block))

pub pool-digest-is : (m : List ℕ) → PoolGivesD m
unfolding pool_digest D
pool-digest-is m = rw (zeros-counted m, finish-hasher (zero_block ++ m))

-- the digest with the zero block counted, as the code makes it: n is the count
pub pool-digest-counted : (r : Hasher) (n : ℕ) → n ≡ r.length + 64
    → sha256 (finish (record { chain = r.chain; tail = r.tail; length = n })) ≡ pool_digest r
unfolding pool_digest with_zero_block
pool-digest-counted r n e =
    let counted : n ≡ (with_zero_block r).length = omega (arith, e) in
    rw counted

pub pool-empty-length : empty_pool.length ≡ 0
unfolding empty_pool
pool-empty-length = refl

pub pool-length : (m : List ℕ) → (pool_of m).length ≡ length m
unfolding absorb_from
pool-length m = rw (pool-is m)

-- a pool's tail has zeros after the bytes that are not hashed yet
pub pool-zeros : (m : List ℕ) → drop (length m % 64) (pool_of m).tail ≡ replicate (64 - length m % 64) 0
pool-zeros m = rw (pool-is m) (left-zeros empty_pool.chain m)

-- below 64 bytes a pool's running hash is the empty pool's
pub pool-short : (m : List ℕ) → length m < 64 → (pool_of m).chain ≡ empty_pool.chain
pool-short m h = rw (pool-is m) (left-short empty_pool.chain m h)

-- D of a message that comes in two parts
pub pool-digest-joined : (a b : List ℕ) → pool_digest (absorb (absorb empty_pool a) b) ≡ D (a ++ b)
pool-digest-joined a b = ap pool_digest (absorb-pool' a b) ∙ pool-digest-is (a ++ b)

-- ---- limits

-- a message that D takes is one that SHA-256 takes
pub d-message-fits : (n : ℕ) → n ≤ max_d_message → n ≤ max_message
unfolding max_d_message max_message
d-message-fits n h = omega arith

-- and so is what a pool may hold
pub pool-length-fits : (n : ℕ) → n ≤ max_pool_length → n ≤ max_message
unfolding max_pool_length
pool-length-fits n h = d-message-fits n h

-- the zero block can be counted
pub pool-length-room : (n : ℕ) → n ≤ max_pool_length → n + 64 < 2 ^ 64
unfolding max_pool_length max_d_message max_message
pool-length-room n h = omega arith

-- a pool may hold what D takes
pub pool-holds : (n : ℕ) → n ≤ max_d_message → n ≤ max_pool_length
unfolding max_pool_length
pool-holds n h = h

-- D takes a key and the digests of all pools
pub d-message-room : (n : ℕ) → n ≤ 1056 → n ≤ max_d_message
unfolding max_d_message max_message
d-message-room n h = le_trans h (lit≤ tt)

-- ---- answers

-- what is handed out for a message within the limit
pub within-limit : {A : Type 0} (limit n : ℕ) (x : A) → n ≤ limit → within limit n x ≡ Ok x
unfolding within
within-limit limit n x h = rw (le-ltb limit n h)

-- and for one above it
pub above-limit : {A : Type 0} (limit n : ℕ) (x : A) → ltb limit n ≡ true → within limit n x ≡ Err (record {})
unfolding within
above-limit limit n x h = rw h

-- the number of what is handed out
pub number-of-within : {A : Type 0} (limit n : ℕ) (x : A) → number (within limit n x) ≡ length_number limit n
unfolding within length_number
number-of-within limit n x = by-test (ltb limit n) _ (λ e. rw e) (λ e. rw e)

-- the next state of a running hash that stays within the limit
pub absorbed-within : (r : Hasher) (d : List ℕ) → r.length + length d ≤ max_message → absorbed r d ≡ absorb r d
unfolding absorbed
absorbed-within r d h = rw (le-ltb max_message (r.length + length d) h)
