use Prim.Native.Nat.{ℕ, ◌+◌, ◌*◌}
use mathlib.Core.Path.{◌≡◌, ◌∙◌}
use native.Mathlib.Omega.{arith}
use borrow.Author.Rules.{rules}
use Rattle.laws.specs.Lists.{tabulate}
use Rattle.laws.proofs.Tabulate.{made-by}
use Rattle.cipher.specs.Aes.{at}
use Rattle.cipher.proofs.key.word_at.Goals as goal

pub returns : goal.returns
unfolding tabulate
returns c =
    let w = c.args.w.now in
    let i = c.args.i in
    let first : 4 * i + 0 ≡ 4 * i = omega arith in
    made-by _ (λ (k : ℕ). at w (4 * i + k)) 0 _ _ (λ k y q h. search rules) 4 c.from_fn.ensures.items ∙ rw first
