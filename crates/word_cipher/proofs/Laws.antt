-- What crates above cite instead of the definitions' text.
-- Assumes nothing.
use Prim.Native.Nat.{ℕ}
use mathlib.Core.Path.{◌≡◌, ◌∙◌}
use mathlib.Core.List.{List}
use lib.ListN.{length}
use Rattle.laws.proofs.Tabulate.{length-tabulate}
use Rattle.cipher.specs.Aes.{key_expansion}
use Rattle.cipher.proofs.Bytes.{bytes-key-expansion}
use Rattle.cipher.proofs.Laws.{cipher-with-key}
use Rattle.word_cipher.specs.Words.{unpacked}
use Rattle.word_cipher.specs.Cipher.{word_cipher}
use Rattle.word_cipher.specs.Claims.{CiphersAgree}
use Rattle.word_cipher.proofs.Agree.{agrees}
pub use Rattle.word_cipher.proofs.Agree.{schedules-agree}

-- Both ciphers agree on every key and every block.
pub ciphers-agree : CiphersAgree
ciphers-agree key block p h = agrees (key_expansion key) block (bytes-key-expansion key p) h ∙ cipher-with-key key block

-- A block is 16 bytes.
pub length-word-cipher : (t w block : List ℕ) → length (word_cipher t w block) ≡ 16
unfolding word_cipher unpacked
length-word-cipher t w block = length-tabulate _ 16
