use mathlib.Core.Path.{◌≡◌, ap, ◌∙◌}
use mathlib.Core.List.{List}
use Prim.Native.Nat.{ℕ}
use lib.ListN.{length}
use borrow.Author.Rules.{rules}
use Rattle.word_cipher.specs.Cipher.{word_cipher}
use Rattle.word_cipher.proofs.Agree.{schedules-agree}
use Rattle.word_cipher.proofs.block.encrypt_with.Goals as goal

pub returns : goal.returns
returns c =
    let a = c.args in
    let w = a.schedule.words in
    let long : length w ≡ 60 = search rules in
    c.encrypt_by.ensures
    ∙ ap (λ (t : List ℕ). word_cipher t w a.block) c.tables.ensures
    ∙ schedules-agree w a.block long (search rules) (search rules)
