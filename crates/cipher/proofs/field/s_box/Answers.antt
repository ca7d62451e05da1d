use Rattle.laws.proofs.Tables.{table_is}
use Rattle.cipher.specs.Field.{xtime, multiply, product, power_product, inverse, bit, affine_bit, affine_from, affine, sub_byte, s_box}
use Rattle.cipher.proofs.field.s_box.Goals as goal

pub returns : goal.returns
unfolding s_box sub_byte affine affine_from affine_bit bit inverse power_product product multiply xtime
returns c = table_is sub_byte _ tt
