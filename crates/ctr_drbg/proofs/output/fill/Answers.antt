use mathlib.Core.Path.{◌≡◌, refl, ◌∙◌}
use mathlib.Core.List.{List}
use Prim.Native.Nat.{ℕ, suc}
use native.Mathlib.Numerals.{add-one}
use native.Mathlib.Omega.{arith}
use lib.ListN.{length}
use Rattle.laws.specs.Blocks.{block_count}
use Rattle.laws.proofs.Parts.{laid-none, laid-more, laid-all}
use Rattle.word_cipher.specs.Cipher.{word_cipher}
use Rattle.word_cipher.specs.Tables.{tables}
use Rattle.word_cipher.proofs.Laws.{length-word-cipher}
use Rattle.ctr_drbg.specs.Closed.{after, enciphered}
use Rattle.ctr_drbg.proofs.Steps.{increment-after, enciphered-more, enciphered-none, length-enciphered}
use Rattle.ctr_drbg.proofs.output.fill.Goals as goal

pub loop-k-init : goal.loop-k-init
unfolding after
loop-k-init c = (rw (enciphered-none (word_cipher tables c.args.words.now) c.args.v) (laid-none _), refl)

pub loop-k-preserved : goal.loop-k-preserved
loop-k-preserved c =
    let l = c.loop-k in
    let k = l.k in
    let v = c.args.v in
    let f : List ℕ → List ℕ = word_cipher tables c.args.words.now in
    let size = length-word-cipher tables c.args.words.now in
    let step : c.increment-next.result ≡ after v (suc k) = c.increment-next.ensures ∙ rw l.invariant.1 (increment-after v k) in
    let laid = laid-more (enciphered f v k) (f (after v (suc k))) _ l.out c.write_block.new.out k _ l.invariant.0
    (length-enciphered f size v k) (size _) (omega arith) (omega arith) (rw (c.tables.ensures, step) at c.write_block.ensures) in
    rw (add-one k, enciphered-more f v k) (laid, step)

pub returns : goal.returns
returns c =
    let l = c.loop-k in
    let v = c.args.v in
    let f : List ℕ → List ℕ = word_cipher tables c.args.words.now in
    let n : ℕ = block_count (length c.args.out.now) in
    let last : l.k ≡ n = omega arith in
    let (laid, stepped) = rw last at l.invariant in
    (stepped, laid-all _ _ l.out n laid (length-enciphered f (length-word-cipher tables c.args.words.now) v n) (omega arith))
