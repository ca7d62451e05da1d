use Prim.Native.Nat.{◌<◌}
use mathlib.Core.Path.{◌≡◌, refl, ◌∙◌}
use native.Mathlib.Omega.{arith}
use lib.ListN.{length, replicate}
use borrow.Author.Rules.{rules}
use Rattle.cipher.specs.Aes.{Bytes}
use Rattle.laws.proofs.Tabulate.{filled_none, filled_more}
use Rattle.word_cipher.specs.Words.{word_in}
use Rattle.word_cipher.proofs.Words.{chunk-word}
use Rattle.word_cipher.proofs.Expansion.{loaded}
use Rattle.word_cipher.proofs.key.expand_key.Goals as goal

pub loop-k-init : goal.loop-k-init
loop-k-init c = filled_none _ 60 (replicate 60 0) refl

pub loop-k-preserved : goal.loop-k-preserved
loop-k-preserved c =
    let key = c.args.key in
    let l = c.loop-k in
    let k : l.k < 8 = omega (arith, c.loop-k-test.true, c.as_chunks.ensures.front_len) in
    let long : length key ≡ 32 = search rules in
    let word : c.from_le_bytes.result ≡ word_in key l.k = c.from_le_bytes.ensures ∙ rw (c.as_chunks.ensures.front, long) (chunk-word 8 key l.k k) in
    filled_more _ 60 _ _ _ l.invariant (omega arith) word

pub returns : goal.returns
returns c =
    let key = c.args.key in
    let bytes : Bytes key = search rules in
    let last : c.loop-k.k ≡ 8 = omega (arith, c.loop-k.auto.k-end, c.loop-k-test.false, c.as_chunks.ensures.front_len) in
    c.grow.ensures key (search rules) bytes (loaded key _ _ c.loop-k.invariant last)
