-- The same in closed form: the counters as a list, the cipher mapped over it.
-- Assumes nothing.
use Rattle.std.specs.Prelude.{List, [], ◌∷◌, ◌++◌, map, ℕ, zero, suc, ◌+◌, take}
use Rattle.laws.specs.Blocks.{block_count}
use Rattle.cipher.specs.Aes.{cipher}
use Rattle.generator.specs.Counter.{counter_block}
use Rattle.generator.specs.Steps.{GeneratorState, Generated}

-- k counters from c on
unfoldable pub counters : ℕ → ℕ → List ℕ
counters c zero = []
counters c (suc k) = c ∷ counters (c + 1) k

-- the blocks that `encipher` makes of these counters, joined
unfoldable pub enciphered : (List ℕ → List ℕ) → List ℕ → List ℕ
enciphered encipher [] = []
enciphered encipher (c ∷ cs) = encipher (counter_block c) ++ enciphered encipher cs

-- k blocks under the key, from c on
unfoldable pub blocks_from : List ℕ → ℕ → ℕ → List ℕ
blocks_from key c k = enciphered (cipher key) (counters c k)

-- K and C after k blocks
unfoldable pub after_blocks : GeneratorState → ℕ → GeneratorState
after_blocks w k = record { key = w.key; count = w.count + k }

-- n bytes of them: as many blocks as these take, the last cut short
abbrev pub bytes_from : List ℕ → ℕ → ℕ → List ℕ
bytes_from key c n = take n (blocks_from key c (block_count n))

-- the n bytes that a state gives
unfoldable pub output : GeneratorState → ℕ → List ℕ
output w n = bytes_from w.key w.count n

-- K and C after a request of n bytes
unfoldable pub rekeyed : GeneratorState → ℕ → GeneratorState
rekeyed w n =
    record { key = blocks_from w.key (w.count + block_count n) 2; count = w.count + (block_count n + 2) }

unfoldable pub closed_block_data : GeneratorState → ℕ → Generated
closed_block_data w n =
    record {
      bytes = output w n;
      next = after_blocks w (block_count n);
      trace = map counter_block (counters w.count (block_count n));
    }

unfoldable pub closed_random_data : GeneratorState → ℕ → Generated
closed_random_data w n =
    record {
      bytes = output w n;
      next = rekeyed w n;
      trace = map counter_block (counters w.count (block_count n + 2));
    }
