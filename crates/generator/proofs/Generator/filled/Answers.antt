use mathlib.Core.Path.{◌≡◌, refl, ◌∙◌}
use Prim.Native.Nat.{◌+◌, ◌≤◌}
use native.Mathlib.Nat.{add_assoc}
use native.Mathlib.Omega.{arith}
use lib.ListN.{length}
use lib.Pow.{lt_of_le_ones}
use Rattle.laws.specs.Blocks.{block_count}
use Rattle.laws.proofs.Lists.{byte-lt}
use Rattle.cipher.specs.Aes.{Bytes}
use Rattle.word_cipher.specs.Tables.{tables}
use Rattle.generator.specs.Counter.{value, max_counter, counter_block}
use Rattle.generator.specs.Steps.{decode, encode}
use Rattle.generator.specs.Closed.{after_blocks}
use Rattle.generator.proofs.UnderKey.{under-key}
use borrow.Author.Rules.{rules}
use Rattle.generator.proofs.Generator.filled.Goals as goal

pub overflow_add-second : goal.overflow_add-second
unfolding decode max_counter
overflow_add-second c =
    let room : c.value-first.result + c.block_count.result ≤ max_counter =
    omega (arith, c.requires, c.value-first.ensures, c.block_count.ensures) in
    record { fits = lt_of_le_ones 128 room }

pub overflow_add-second-2 : goal.overflow_add-second-2
unfolding decode max_counter
overflow_add-second-2 c =
    let room : c.value-first.result + c.block_count.result + c.block_count-2.result ≤ max_counter =
    omega (arith, c.requires, c.value-first.ensures, c.block_count.ensures, c.block_count-2.ensures) in
    record { fits = lt_of_le_ones 128 room }

pub fill-requires : goal.fill-requires
unfolding decode
fill-requires c = omega (arith, c.requires, c.value-first.ensures, c.block_count.ensures, c.block_count-2.ensures)

pub fill-requires-2 : goal.fill-requires-2
unfolding decode
fill-requires-2 c = omega (arith, c.requires, c.value-first.ensures, c.block_count.ensures, c.block_count-2.ensures)

pub returns : goal.returns
unfolding decode encode after_blocks counter_block
returns c =
    let key = c.args.self.key in
    let n = length c.args.out.now in
    let bytes : Bytes key = λ i. byte-lt (search rules) in
    let v : c.value-first.result ≡ value c.args.self.counter = c.value-first.ensures in
    let under = under-key key tables c.expand_key-schedule.result.words refl c.expand_key-schedule.ensures bytes in
    let counter = c.counter_block-counter.ensures ∙ rw (v, c.block_count.ensures, c.block_count-2.ensures, add_assoc) in (
      (λ i. record { key = key; counter = counter i }),
      c.fill.ensures ∙ rw (v, under (value c.args.self.counter) (block_count n)),
      c.fill-2.ensures ∙ rw (v, c.block_count.ensures, under (value c.args.self.counter + block_count n) (block_count (length c.args.more.now))),
    )
