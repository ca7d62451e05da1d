use mathlib.Core.Path.{◌≡◌, ap, ◌∙◌}
use mathlib.Core.List.{List}
use Prim.Native.Nat.{ℕ}
use lib.ListN.{length}
use borrow.Author.Rules.{rules}
use Rattle.cipher.specs.Aes.{Bytes, key_expansion, cipher_with}
use Rattle.cipher.proofs.Laws.{bytes-key-expansion, length-key-expansion, cipher-with-key}
use Rattle.word_cipher.specs.Words.{unpacked}
use Rattle.word_cipher.proofs.Words.{unpacks}
use Rattle.word_cipher.proofs.block.encrypt.Goals as goal

pub returns : goal.returns
returns c =
    let a = c.args in
    let long : length a.key ≡ 32 = search rules in
    let bytes : Bytes a.key = search rules in
    let back = unpacks 60 (key_expansion a.key) (bytes-key-expansion a.key bytes) (length-key-expansion a.key long) in
    c.encrypt_with.ensures
    ∙ ap (λ (w : List ℕ). cipher_with (unpacked 240 w) a.block) c.expand_key.ensures
    ∙ ap (λ (w : List ℕ). cipher_with w a.block) back
    ∙ cipher-with-key a.key a.block
