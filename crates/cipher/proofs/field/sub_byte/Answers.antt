use borrow.Author.Rules.{rules}
use Rattle.cipher.proofs.FieldClaims.{s-box-rule}
use Rattle.cipher.proofs.field.sub_byte.Goals as goal

pub returns : goal.returns
returns c = rw (c.s_box.ensures, c.from.ensures) (s-box-rule c.args.x (search rules))
