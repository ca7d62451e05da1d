-- The generator's steps on K and C (004, 9.4), with no test of their arguments. The Block steps are a traced machine: the bytes
-- and the counter blocks that were enciphered for them, in order, come out of one definition.
-- Assumes nothing.
use Rattle.std.specs.Prelude.{List, [], ◌∷◌, ◌++◌, ℕ, zero, suc, ◌+◌, take, replicate}
use Rattle.laws.specs.Blocks.{block_count}
use Rattle.hash.specs.ShaD.{D}
use Rattle.cipher.specs.Aes.{cipher}
use Rattle.generator.specs.Counter.{value, little_endian, counter_block}
use Rattle.generator.specs.declared.Generator.{Generator}

-- K and C
pub record GeneratorState : Type 0 where
  pub key : List ℕ
  pub count : ℕ

-- K and C of a state, and the state that holds them
unfoldable pub decode : Generator → GeneratorState
decode g = record { key = g.key; count = value g.counter }

unfoldable pub encode : GeneratorState → Generator
encode w = record { key = w.key; counter = little_endian 16 w.count }

-- INITIALIZEGENERATOR (9.4.1)
unfoldable pub initial : GeneratorState
initial = record { key = replicate 32 0; count = 0 }

-- RESEED with s (9.4.2)
unfoldable pub reseed : GeneratorState → List ℕ → GeneratorState
reseed w s = record { key = D (w.key ++ s); count = w.count + 1 }

-- what Block steps make: the bytes, K and C afterwards, and each counter block that was enciphered
pub record Generated : Type 0 where
  pub bytes : List ℕ
  pub next : GeneratorState
  pub trace : List (List ℕ)

-- GENERATEBLOCKS, k blocks (9.4.3)
unfoldable pub generate_blocks : GeneratorState → ℕ → Generated
generate_blocks w zero = record { bytes = []; next = w; trace = [] }
generate_blocks w (suc k) =
    let block = counter_block w.count in
    let rest = generate_blocks (record { key = w.key; count = w.count + 1 }) k in
    record { bytes = cipher w.key block ++ rest.bytes; next = rest.next; trace = block ∷ rest.trace }

-- the first n bytes of as many blocks as they take; K stays (01's block operation)
unfoldable pub block_data : GeneratorState → ℕ → Generated
block_data w n =
    let out = generate_blocks w (block_count n) in
    record { bytes = take n out.bytes; next = out.next; trace = out.trace }

-- PSEUDORANDOMDATA, n bytes: then two blocks more, which become K (9.4.4)
unfoldable pub pseudo_random_data : GeneratorState → ℕ → Generated
pseudo_random_data w n =
    let out = block_data w n in
    let key = generate_blocks out.next 2 in
    record {
      bytes = out.bytes;
      next = record { key = key.bytes; count = key.next.count };
      trace = out.trace ++ key.trace;
    }
