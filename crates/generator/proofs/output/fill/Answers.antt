use mathlib.Core.Path.{◌≡◌}
use mathlib.Core.List.{List}
use Prim.Native.Nat.{ℕ, ◌+◌, ◌≤◌}
use native.Mathlib.Numerals.{add-one}
use native.Mathlib.Omega.{arith}
use lib.ListN.{length}
use lib.Pow.{lt_of_le_ones}
use Rattle.laws.specs.Blocks.{block_count}
use Rattle.laws.proofs.Parts.{laid-none, laid-more, laid-all}
use Rattle.word_cipher.specs.Cipher.{word_cipher}
use Rattle.word_cipher.specs.Tables.{tables}
use Rattle.word_cipher.proofs.Laws.{length-word-cipher}
use Rattle.generator.specs.Counter.{max_counter, counter_block}
use Rattle.generator.specs.Closed.{counters, enciphered}
use Rattle.generator.proofs.Blocks.{enciphered-none, enciphered-more, length-enciphered}
use Rattle.generator.proofs.output.fill.Goals as goal

pub loop-k-init : goal.loop-k-init
loop-k-init c = rw (enciphered-none (word_cipher tables c.args.words.now) c.args.first) (laid-none _)

pub overflow_add-first : goal.overflow_add-first
unfolding max_counter
overflow_add-first c =
    let room : c.args.first + c.loop-k.k ≤ max_counter = omega arith in
    record { fits = lt_of_le_ones 128 room }

pub loop-k-preserved : goal.loop-k-preserved
loop-k-preserved c =
    let l = c.loop-k in
    let k = l.k in
    let first = c.args.first in
    let f : List ℕ → List ℕ = word_cipher tables c.args.words.now in
    let size = length-word-cipher tables c.args.words.now in
    rw (add-one k, enciphered-more f first k)
    (laid-more (enciphered f (counters first k)) (f (counter_block (first + k))) _ l.out c.write_block.new.out k _ l.invariant
    (length-enciphered f size first k) (size _) (omega arith) (omega arith)
    (rw (c.tables.ensures, c.counter_block.ensures) at c.write_block.ensures))

pub returns : goal.returns
returns c =
    let l = c.loop-k in
    let f : List ℕ → List ℕ = word_cipher tables c.args.words.now in
    let n : ℕ = block_count (length c.args.out.now) in
    let last : l.k ≡ n = omega arith in
    let all = rw last at l.invariant in
    laid-all _ _ l.out n all (length-enciphered f (length-word-cipher tables c.args.words.now) c.args.first n) (omega arith)
