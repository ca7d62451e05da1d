-- Blocks by the tables under a key's schedule are blocks under the key: the one place that goes from the cipher by tables to FIPS 197's.
-- Assumes nothing.
use mathlib.Core.Path.{◌≡◌}
use mathlib.Core.List.{List}
use Prim.Native.Nat.{ℕ}
use Rattle.cipher.specs.Aes.{Bytes, key_expansion, cipher}
use Rattle.word_cipher.specs.Words.{packed}
use Rattle.word_cipher.specs.Tables.{tables}
use Rattle.word_cipher.specs.Cipher.{word_cipher}
use Rattle.word_cipher.proofs.Laws.{ciphers-agree}
use Rattle.generator.specs.Counter.{counter_block}
use Rattle.generator.specs.Closed.{counters, enciphered, blocks_from}
use Rattle.generator.proofs.Digits.{bytes-counter}
use Rattle.generator.proofs.Blocks.{enciphered-ext}

module _ (key t w : List ℕ) (tabled : t ≡ tables) (keyed : w ≡ packed 60 (key_expansion key)) (bytes : Bytes key) where
  -- counter blocks are bytes, and so is the key
  pub under-key : (c k : ℕ) → enciphered (word_cipher t w) (counters c k) ≡ blocks_from key c k
  unfolding blocks_from
  under-key c k =
      enciphered-ext (word_cipher t w) (cipher key)
      (λ c. rw (tabled, keyed) (ciphers-agree key (counter_block c) bytes (bytes-counter c))) (counters c k)
