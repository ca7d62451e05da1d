-- Boundary rows, each a list of readings and what they must be: lengths at the edges of a block and of the limit, and digests that other programs worked out.
-- Assumes nothing.
use Rattle.std.specs.Prelude.{◌≡◌, ℕ, ◌-◌, ◌^◌, List, [], ◌∷◌, ◌++◌, map, length, take, drop, replicate, slice_index}
use Rattle.hash.specs.Constants.{K, H⁰}
use Rattle.hash.specs.Padding.{padding}
use Rattle.hash.specs.Block.{initial_working}
use Rattle.hash.specs.Prepared.{prepared, prepared_round}
use Rattle.hash.specs.Sha256.{sha256}
use Rattle.hash.specs.Hasher.{absorb, finish}
use Rattle.hash.specs.ShaD.{D, max_message, max_d_message, max_pool_length, pool_digest}
use Rattle.hash.specs.Answers.{length_number}
use Rattle.hash.specs.declared.hasher.Hasher.{Hasher}

-- FIPS 180-4's first test messages: the empty one and 'abc'
unfoldable pub messages : List (List ℕ)
messages =
    [] ∷
    (0x61 ∷ 0x62 ∷ 0x63 ∷ []) ∷
    []

unfoldable pub digests : List (List ℕ)
digests =
    (0xe3 ∷ 0xb0 ∷ 0xc4 ∷ 0x42 ∷ 0x98 ∷ 0xfc ∷ 0x1c ∷ 0x14 ∷ 0x9a ∷ 0xfb ∷ 0xf4 ∷ 0xc8 ∷ 0x99 ∷ 0x6f ∷ 0xb9 ∷ 0x24 ∷
    0x27 ∷ 0xae ∷ 0x41 ∷ 0xe4 ∷ 0x64 ∷ 0x9b ∷ 0x93 ∷ 0x4c ∷ 0xa4 ∷ 0x95 ∷ 0x99 ∷ 0x1b ∷ 0x78 ∷ 0x52 ∷ 0xb8 ∷ 0x55 ∷ []) ∷
    (0xba ∷ 0x78 ∷ 0x16 ∷ 0xbf ∷ 0x8f ∷ 0x01 ∷ 0xcf ∷ 0xea ∷ 0x41 ∷ 0x41 ∷ 0x40 ∷ 0xde ∷ 0x5d ∷ 0xae ∷ 0x22 ∷ 0x23 ∷
    0xb0 ∷ 0x03 ∷ 0x61 ∷ 0xa3 ∷ 0x96 ∷ 0x17 ∷ 0x7a ∷ 0x9c ∷ 0xb4 ∷ 0x10 ∷ 0xff ∷ 0x61 ∷ 0xf2 ∷ 0x00 ∷ 0x15 ∷ 0xad ∷ []) ∷
    []

-- a state that no message of ours left: another chain, the given bytes at the front of the tail, and 0xff behind them
unfoldable pub passed : List ℕ → ℕ → Hasher
passed t n =
    record {
      chain = 1 ∷ 2 ∷ 3 ∷ 4 ∷ 5 ∷ 6 ∷ 7 ∷ 8 ∷ [];
      tail = t ++ replicate (64 - length t) 0xff;
      length = n;
    }

-- the padding's length at the edges of a block
abbrev pub PaddingsRow : Type 0
PaddingsRow =
    map (λ (n : ℕ). length (padding n)) (0 ∷ 1 ∷ 55 ∷ 56 ∷ 63 ∷ 64 ∷ 119 ∷ 120 ∷ (2 ^ 61 - 1) ∷ [])
    ≡ 64 ∷ 63 ∷ 9 ∷ 72 ∷ 65 ∷ 64 ∷ 9 ∷ 72 ∷ 65 ∷ []

-- its last eight bytes: the length in bits, the most significant byte first
abbrev pub LengthsRow : Type 0
LengthsRow =
    map (λ (n : ℕ). drop (length (padding n) - 8) (padding n)) (0x0001_0203_0405_0607 ∷ (2 ^ 61 - 1) ∷ [])
    ≡ (0 ∷ 8 ∷ 16 ∷ 24 ∷ 32 ∷ 40 ∷ 48 ∷ 56 ∷ []) ∷ (255 ∷ 255 ∷ 255 ∷ 255 ∷ 255 ∷ 255 ∷ 255 ∷ 248 ∷ []) ∷ []

-- a schedule whose sums with the first constants come past 2 ^ 32, to the constant itself, to 2 ^ 32 and to one below it
unfoldable pub edge_words : List ℕ
edge_words = 0xffff_ffff ∷ 0 ∷ 0x4a3f_0431 ∷ 0x164a_245a ∷ []

-- the first four prepared words, and all from the 64th on: the last constant alone, since the schedule has no word there
abbrev pub PreparedWordsRow : Type 0
PreparedWordsRow =
    take 4 (prepared K edge_words) ++ drop 63 (prepared K edge_words)
    ≡ 0x428a_2f97 ∷ 0x7137_4491 ∷ 0 ∷ 0xffff_ffff ∷ 0xc671_78f2 ∷ []

-- the first round of 'abc' with its prepared word: the working variables at t = 0 in NIST's example of SHA-256 (SHA256.pdf)
abbrev pub FirstRoundRow : Type 0
FirstRoundRow =
    prepared_round (initial_working H⁰) (slice_index (prepared K (0x6162_6380 ∷ [])) 0) ≡
    record {
      a = 0x5d6a_ebcd;
      b = 0x6a09_e667;
      c = 0xbb67_ae85;
      d = 0x3c6e_f372;
      e = 0xfa2a_4622;
      f = 0x510e_527f;
      g = 0x9b05_688c;
      h = 0x1f83_d9ab;
    }

-- 17 above 2 ^ 61 - 1 bytes for a message, above 2 ^ 61 - 65 for D and for a pool
abbrev pub MessageLimitRow : Type 0
MessageLimitRow =
    map (length_number max_message) (0 ∷ (2 ^ 61 - 1) ∷ (2 ^ 61) ∷ []) ≡ 0 ∷ 0 ∷ 17 ∷ []

abbrev pub ShaDLimitRow : Type 0
ShaDLimitRow =
    map (length_number max_d_message) (0 ∷ (2 ^ 61 - 65) ∷ (2 ^ 61 - 64) ∷ []) ≡ 0 ∷ 0 ∷ 17 ∷ []

abbrev pub PoolLimitRow : Type 0
PoolLimitRow =
    map (length_number max_pool_length) (0 ∷ (2 ^ 61 - 65) ∷ (2 ^ 61 - 64) ∷ []) ≡ 0 ∷ 0 ∷ 17 ∷ []

-- the standard's messages
abbrev pub StandardRow : Type 0
StandardRow =
    map sha256 messages ≡ digests

-- the first four bytes of the digest of n times 'a'
abbrev pub EdgesRow : Type 0
EdgesRow =
    map (λ (n : ℕ). take 4 (sha256 (replicate n 0x61))) (55 ∷ 56 ∷ []) ≡
    (0x9f ∷ 0x43 ∷ 0x90 ∷ 0xf8 ∷ []) ∷
    (0xb3 ∷ 0x54 ∷ 0x39 ∷ 0xa4 ∷ []) ∷
    []

-- the first four bytes of D of 'abc'
abbrev pub ShaDRow : Type 0
ShaDRow =
    take 4 (D (0x61 ∷ 0x62 ∷ 0x63 ∷ [])) ≡ 0x4f ∷ 0x16 ∷ 0xde ∷ 0xb3 ∷ []

-- a state that was passed in, finished: what stands after its tail does not matter, its chain and its length do
abbrev pub FinishesRow : Type 0
FinishesRow =
    map (λ (r : Hasher). take 4 (finish r)) (passed (9 ∷ 8 ∷ 7 ∷ 6 ∷ 5 ∷ []) 69 ∷ passed (replicate 63 9) (2 ^ 61 - 1) ∷ []) ≡
    (0x61 ∷ 0xfc ∷ 0x69 ∷ 0x04 ∷ []) ∷ (0xe0 ∷ 0x49 ∷ 0xf5 ∷ 0x8a ∷ []) ∷ []

-- as a pool's state it gives another digest: the zero block counts in the padding, and in nothing else
abbrev pub PoolDigestsRow : Type 0
PoolDigestsRow =
    map (λ (r : Hasher). take 4 (pool_digest r)) (passed (9 ∷ 8 ∷ 7 ∷ 6 ∷ 5 ∷ []) 69 ∷ passed (replicate 63 9) (2 ^ 61 - 65) ∷ []) ≡
    (0x6d ∷ 0x82 ∷ 0xc8 ∷ 0x33 ∷ []) ∷ (0x43 ∷ 0xc7 ∷ 0x89 ∷ 0xb0 ∷ []) ∷ []

-- a byte absorbed takes the place after the tail, and the rest becomes zeros
abbrev pub AbsorbsRow : Type 0
AbsorbsRow =
    (absorb (passed (9 ∷ 8 ∷ []) 66) (7 ∷ [])).tail ≡ 9 ∷ 8 ∷ 7 ∷ replicate 61 0

abbrev pub LongestRow : Type 0
LongestRow =
    (absorb (passed (replicate 62 9) (2 ^ 61 - 2)) (7 ∷ [])).length ≡ 2 ^ 61 - 1

-- the rows together
pub record Boundaries : Type 0 where
  pub paddings : PaddingsRow
  pub lengths : LengthsRow
  pub prepared_words : PreparedWordsRow
  pub first_round : FirstRoundRow
  pub message_limit : MessageLimitRow
  pub sha_d_limit : ShaDLimitRow
  pub pool_limit : PoolLimitRow
  pub standard : StandardRow
  pub edges : EdgesRow
  pub sha_d : ShaDRow
  pub finishes : FinishesRow
  pub pool_digests : PoolDigestsRow
  pub absorbs : AbsorbsRow
  pub longest : LongestRow
