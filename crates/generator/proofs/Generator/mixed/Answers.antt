use mathlib.Core.Path.{◌≡◌, ◌∙◌}
use lib.ListN.{length}
use lib.Pow.{lt_of_le_ones}
use Rattle.generator.specs.Counter.{max_counter, counter_block}
use Rattle.generator.specs.Steps.{encode, decode, reseed}
use Rattle.generator.proofs.Seeds.{hashed}
use borrow.Author.Rules.{rules}
use Rattle.generator.proofs.Generator.mixed.Goals as goal

pub unwrap-key-requires : goal.unwrap-key-requires
unwrap-key-requires c =
    let long : length c.args.self.key ≡ 32 = search rules in
    let digest = c.sha_d256_joined.ensures ∙ hashed c.args.self.key c.args.seed.now long c.requires.0 in
    rw digest

pub overflow_add-value : goal.overflow_add-value
unfolding decode max_counter
overflow_add-value c = record { fits = rw c.value.ensures (lt_of_le_ones 128 c.requires.1) }

pub returns : goal.returns
unfolding encode reseed decode counter_block
returns c =
    let long : length c.args.self.key ≡ 32 = search rules in
    let digest = c.sha_d256_joined.ensures ∙ hashed c.args.self.key c.args.seed.now long c.requires.0 in
    let key : c.unwrap-key.result ≡ _ = cc (digest, c.unwrap-key.ensures) in
    let counter = c.counter_block-counter.ensures ∙ rw c.value.ensures in
    λ i. record { key = key i; counter = counter i }
