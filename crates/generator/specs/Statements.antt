-- What is proved of the generator's definitions beside its code.
-- Assumes nothing.
use Rattle.std.specs.Prelude.{◌≡◌, List, [], ◌++◌, ℕ, ◌+◌, ◌≤◌, ◌<◌, length, get_or, take, Result}
use Rattle.laws.specs.Lists.{tabulate, joined}
use Rattle.laws.specs.Blocks.{block_count}
use Rattle.cipher.specs.Aes.{cipher}
use Rattle.generator.specs.Counter.{value, little_endian, max_counter}
use Rattle.generator.specs.Steps.{GeneratorState, block_data, pseudo_random_data, generate_blocks}
use Rattle.generator.specs.Closed.{closed_block_data, closed_random_data, after_blocks}
use Rattle.generator.specs.Operations.{number, blocks_made}
use Rattle.generator.specs.declared.Generator.{Generator}
use Rattle.generator.specs.declared.refusal.Refusal.{Refusal}

-- C as bytes and C as a number are the same thing
pub record CounterEncoding : Type 0 where
  -- the bytes of the value of 16 bytes are those bytes
  pub bytes_of_value : (ps : List ℕ) → length ps ≡ 16 → ((i : ℕ) → get_or ps i 0 < 256) → little_endian 16 (value ps) ≡ ps
  -- the value of the bytes of a value of C is that value
  pub value_of_bytes : (c : ℕ) → c ≤ max_counter → value (little_endian 16 c) ≡ c
  -- different values have different bytes
  pub different : (c d : ℕ) → c ≤ max_counter → d ≤ max_counter → little_endian 16 c ≡ little_endian 16 d → c ≡ d

-- the traced machine and the closed form are equal: bytes, next K, next C and trace
pub record ClosedForm (w : GeneratorState) (n : ℕ) : Type 0 where
  pub blocks : block_data w n ≡ closed_block_data w n
  pub request : pseudo_random_data w n ≡ closed_random_data w n

-- the trace of a request has each of its Block steps, C, C + 1, .. as 16 bytes: the bytes are the first n of those enciphered under K, and the next K
-- is the last two enciphered
pub record Enciphers (w : GeneratorState) (n : ℕ) : Type 0 where
  pub shown : List (List ℕ)
  pub kept : List (List ℕ)
  pub trace : (pseudo_random_data w n).trace ≡ shown ++ kept
  pub steps : shown ++ kept ≡ tabulate (λ i. little_endian 16 (w.count + i)) (block_count n + 2)
  pub bytes : (pseudo_random_data w n).bytes ≡ take n (joined (cipher w.key) shown)
  pub rekeyed : (pseudo_random_data w n).next.key ≡ joined (cipher w.key) kept
  pub last : length kept ≡ 2

-- advancing by 0 blocks changes nothing
pub record NoBlocks (w : GeneratorState) : Type 0 where
  pub advanced : after_blocks w 0 ≡ w
  pub generated : (generate_blocks w 0).next ≡ w

-- nor does the block operation on no bytes, accepted or refused, for every state that 16 bytes of counter can hold
abbrev pub NothingAsked : Generator → Type 0
NothingAsked g = length g.counter ≡ 16 → ((i : ℕ) → get_or g.counter i 0 < 256) → blocks_made g [] ≡ g

-- different answers have different numbers
abbrev pub NumberInjective : Type 0
NumberInjective = (a b : Result Unit Refusal) → number a ≡ number b → a ≡ b

-- no block stands at two places
abbrev pub NoRepeat : List (List ℕ) → Type 0
NoRepeat l = (i j : ℕ) → i < j → j < length l → get_or l i [] ≡ get_or l j [] → ⊥
