-- D of 01 as 02 (v) has it, the SHA_d-256 of the book's 2010 edition: a block of zeros stands before the message.
-- Then D as a pool computes it from its running hash, and the limits on lengths.
-- What a change of D moves stands behind these names; upper crates cite them and the laws, never their text.
-- Assumes nothing.
use Rattle.std.specs.Prelude.{ℕ, ◌+◌, ◌-◌, ◌^◌, List, [], ◌∷◌, ◌++◌, replicate}
use Rattle.hash.specs.Sha256.{sha256}
use Rattle.hash.specs.Hasher.{absorb, finish}
use Rattle.hash.specs.declared.hasher.Hasher.{Hasher}

-- what stands before every message: one block of zeros
unfoldable pub zero_block : List ℕ
zero_block = replicate 64 0

-- SHA-256 of the 32-byte SHA-256 of one string: the zero block, then m
unfoldable pub D : List ℕ → List ℕ
D m = sha256 (sha256 (zero_block ++ m))

-- the longest message to SHA-256, in bytes (17)
unfoldable pub max_message : ℕ
max_message = 2 ^ 61 - 1

-- the longest message to D: SHA-256 takes it behind the 64 zeros (17)
unfoldable pub max_d_message : ℕ
max_d_message = max_message - 64

-- the longest pool (21, 22)
unfoldable pub max_pool_length : ℕ
max_pool_length = max_d_message

-- the hash value after the zero block, in numbers; that they are right is `ZeroBlockHash` in Statements.antt
unfoldable pub zero_block_hash : List ℕ
zero_block_hash =
    0xda56_98be ∷ 0x17b9_b469 ∷ 0x6233_5799 ∷ 0x779f_beca ∷ 0x8ce5_d491 ∷ 0xc0d2_6243 ∷ 0xbafe_f9ea ∷ 0x1837_a9d8 ∷ []

-- the running hash of a pool before any byte: the zero block is hashed and not counted
unfoldable pub empty_pool : Hasher
empty_pool = record { chain = zero_block_hash; tail = replicate 64 0; length = 0 }

-- the running hash of a pool that holds the bytes m
unfoldable pub pool_of : List ℕ → Hasher
pool_of m = absorb empty_pool m

-- a pool's running hash with the zero block counted
unfoldable pub with_zero_block : Hasher → Hasher
with_zero_block r = record { chain = r.chain; tail = r.tail; length = r.length + 64 }

-- D of what a pool holds, from its running hash, tail and length
unfoldable pub pool_digest : Hasher → List ℕ
pool_digest r = sha256 (finish (with_zero_block r))
