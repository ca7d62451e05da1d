-- From what the code leaves to the steps of the definitions: g is the state, n the length of the buffer.
-- Assumes nothing.
use mathlib.Core.Path.{◌≡◌, refl, ◌∙◌}
use mathlib.Core.List.{List}
use Prim.Native.Nat.{ℕ, ◌+◌}
use native.Mathlib.Nat.{add-zero, le_of_eq}
use lib.Seq.{take_all}
use Rattle.laws.specs.Blocks.{block_count}
use Rattle.cipher.specs.Aes.{cipher}
use Rattle.cipher.proofs.Laws.{length-cipher}
use Rattle.generator.specs.Counter.{value}
use Rattle.generator.specs.Steps.{decode, encode, block_data, pseudo_random_data}
use Rattle.generator.specs.Closed.{blocks_from, bytes_from, after_blocks, output, rekeyed, closed_block_data, closed_random_data}
use Rattle.generator.specs.declared.Generator.{Generator}
use Rattle.generator.proofs.Blocks.{length-enciphered}
use Rattle.generator.proofs.Steps.{block-data-closed, random-data-closed}

module _ (g : Generator) (n : ℕ) where
  -- the block operation: no block is behind the buffer's
  pub blocks-next : encode (after_blocks (decode g) (block_count n + block_count 0)) ≡ encode (block_data (decode g) n).next
  unfolding closed_block_data block_count
  blocks-next = rw (block-data-closed (decode g) n) (rw add-zero)

  pub blocks-bytes : bytes_from g.key (decode g).count n ≡ (block_data (decode g) n).bytes
  unfolding closed_block_data output decode
  blocks-bytes = rw (block-data-closed (decode g) n)

  -- a request: the two blocks behind the buffer's become the key
  pub request-served : (next : Generator) (ys key : List ℕ) → next ≡ encode (after_blocks (decode g) (block_count n + block_count 32))
      → ys ≡ bytes_from g.key (decode g).count n → key ≡ bytes_from g.key ((decode g).count + block_count n) 32
      → (record { key = key; counter = next.counter } ≡ encode (pseudo_random_data (decode g) n).next)
      × (ys ≡ (pseudo_random_data (decode g) n).bytes)
  unfolding closed_random_data rekeyed after_blocks output blocks_from block_count encode decode
  request-served next ys key e f h =
      let from : ℕ = value g.counter + block_count n in
      let two = length-enciphered (cipher g.key) (length-cipher g.key) from 2 in
      let whole : key ≡ blocks_from g.key from 2 = h ∙ take_all 32 (blocks_from g.key from 2) (le_of_eq two) in
      rw (random-data-closed (decode g) n, whole, e) (refl, f)

pub ruleset blocks = (blocks-next, blocks-bytes)
