use Rattle.laws.proofs.Lists.{byte-lt}
use Rattle.cipher.specs.Aes.{Bytes}
use Rattle.word_cipher.specs.Tables.{tables}
use mathlib.Core.Path.{refl}
use Rattle.ctr_drbg.proofs.Effects.{filled-and-updated}
use borrow.Author.Rules.{rules}
use Rattle.ctr_drbg.proofs.update.Working.filled.Goals as goal

pub returns : goal.returns
returns c =
    let a = c.args in
    let key-bytes : Bytes c.args.self.key = λ i. byte-lt (search rules) in
    let w = c.expand_key-schedule in
    let f = c.fill-last.ensures in
    filled-and-updated a.self.key tables w.result.words refl w.ensures key-bytes
    _ a.provided a.self.v _ _ _ _ _ f.0 f.1 c.fill.ensures.1 c.xored.ensures c.divided.ensures
