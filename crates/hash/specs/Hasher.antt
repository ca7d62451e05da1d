-- The running hash of a message that comes in parts: 01's running hash (`chain`), unhashed tail with zeros behind, and length.
-- Every value of the state has a meaning here: the tail's bytes at `length % 64` and above are ignored.
-- Assumes nothing.
use Rattle.std.specs.Prelude.{ℕ, ◌+◌, ◌-◌, ◌*◌, ◌/◌, ◌%◌, List, ◌++◌, length, take, drop, replicate}
use Rattle.hash.specs.Constants.{H⁰}
use Rattle.hash.specs.Padding.{padding}
use Rattle.hash.specs.Sha256.{blocks, digest_from}
use Rattle.hash.specs.declared.hasher.Hasher.{Hasher}

-- t with zeros after it, 64 bytes in all
unfoldable pub zero_filled : List ℕ → List ℕ
zero_filled t = t ++ replicate (64 - length t) 0

-- the state before any byte
unfoldable pub empty_hasher : Hasher
empty_hasher = record { chain = H⁰; tail = replicate 64 0; length = 0 }

-- the bytes that are not hashed yet
abbrev pub unhashed : Hasher → List ℕ
unhashed r = take (r.length % 64) r.tail

-- the whole blocks of m hashed from h, the rest of m kept; n is the message's length so far
unfoldable pub absorb_from : List ℕ → List ℕ → ℕ → Hasher
absorb_from h m n =
    record { chain = blocks (length m / 64) h m; tail = zero_filled (drop (length m / 64 * 64) m); length = n }

-- the state r after the bytes d
unfoldable pub absorb : Hasher → List ℕ → Hasher
absorb r d = absorb_from r.chain (unhashed r ++ d) (r.length + length d)

-- the digest of the message that r has absorbed
unfoldable pub finish : Hasher → List ℕ
finish r = digest_from r.chain (unhashed r ++ padding r.length)

-- the state that the bytes m leave: the hash value over the whole blocks, the rest with zeros behind, the length
unfoldable pub hasher_of : List ℕ → Hasher
hasher_of m = absorb_from H⁰ m (length m)
