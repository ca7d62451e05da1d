-- What FIPS 180-4, 5.1.1 says of the padding, in its own words and in bits; that prepared words lead to the standard's
-- compression; what a pool has to do with D; and that numbers tell answers apart.
-- Assumes nothing.
use Rattle.std.specs.Prelude.{◌≡◌, ℕ, ◌+◌, ◌*◌, ◌%◌, ◌<◌, ◌≤◌, List, ◌++◌, length, slice_index, slice_index_or, Result}
use Rattle.hash.specs.Padding.{zero_bytes, padding}
use Rattle.hash.specs.Word.{◌⊞◌}
use Rattle.hash.specs.Constants.{K, H⁰}
use Rattle.hash.specs.Block.{schedule, round, rounds, compress}
use Rattle.hash.specs.Prepared.{prepared, prepared_round, prepared_rounds, prepared_compress}
use Rattle.hash.specs.ShaD.{zero_block, D, zero_block_hash, pool_of, pool_digest}
use Rattle.hash.specs.Answers.{number}
use Rattle.hash.specs.declared.answer.TooLong.{TooLong}
use Rattle.hash.specs.declared.block.Working.{Working}

-- the count of zero bits after the bit 1: seven in the byte 128, eight in each zero byte
abbrev pub zero_bits : ℕ → ℕ
zero_bits n = 7 + 8 * zero_bytes n

-- k solves l + 1 + k ≡ 448 (mod 512)
abbrev pub Solves : ℕ → ℕ → Type 0
Solves l k = (l + 1 + k) % 512 ≡ 448

-- the zero bits are the least solution, for a message of n bytes
pub record PaddingLeast (n : ℕ) : Type 0 where
  pub solves : Solves (8 * n) (zero_bits n)
  pub least : (k : ℕ) → Solves (8 * n) k → zero_bits n ≤ k

-- a padded message is whole blocks
abbrev pub PaddedWhole : List ℕ → Type 0
PaddedWhole m = length (m ++ padding (length m)) % 64 ≡ 0

-- each prepared word is the constant and the word of its own round, as one sum modulo 2 ^ 32 (02 (ix))
abbrev pub PreparedWords : Type 0
PreparedWords = (w : List ℕ) (t : ℕ) → t < 64 → slice_index (prepared K w) t ≡ slice_index_or K t 0 ⊞ slice_index_or w t 0

-- from every working state, a round that takes constant and word as one sum modulo 2 ^ 32 gives what the standard's gives (02 (ix))
abbrev pub PreparedRound : Type 0
PreparedRound = (s : Working) (k w : ℕ) → prepared_round s (k ⊞ w) ≡ round s k w

-- so do any rounds of the 64, one after the other
abbrev pub PreparedRounds : Type 0
PreparedRounds = (w : List ℕ) (t n : ℕ) (s : Working) → t + n ≤ 64 → prepared_rounds (prepared K w) t n s ≡ rounds w t n s

-- the schedule of every block, with the constants in it, leads to the standard's compression (02 (ix))
abbrev pub PreparedCompression : Type 0
PreparedCompression = (h m : List ℕ) → prepared_compress h (prepared K (schedule m 64)) ≡ compress h m

-- the hash value that an empty pool starts from is SHA-256's after the zero block
abbrev pub ZeroBlockHash : Type 0
ZeroBlockHash = zero_block_hash ≡ compress H⁰ zero_block

-- a pool that holds the bytes m gives D of m
abbrev pub PoolGivesD : List ℕ → Type 0
PoolGivesD m = pool_digest (pool_of m) ≡ D m

-- different answers have different numbers
abbrev pub NumberInjective : Type 0
NumberInjective = (a b : Result Unit TooLong) → number a ≡ number b → a ≡ b
