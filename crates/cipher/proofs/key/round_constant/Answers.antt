use Prim.Native.Nat.{◌-◌}
use borrow.Author.Rules.{rules}
use Rattle.cipher.specs.Field.{xtime}
use Rattle.cipher.specs.Aes.{x_power}
use Rattle.cipher.proofs.Laws.{each-constant}
use Rattle.cipher.proofs.key.round_constant.Goals as goal

pub returns : goal.returns
unfolding x_power xtime
returns c = each-constant 8 _ tt (c.args.n - 1) (search rules)
