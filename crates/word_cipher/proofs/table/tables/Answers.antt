use Prim.Native.Nat.{◌/◌, ◌%◌}
use Rattle.laws.proofs.Tables.{table_is}
use Rattle.cipher.specs.Field.{xtime, multiply, product, power_product, inverse, bit, affine_bit, affine_from, affine, sub_byte}
use Rattle.word_cipher.specs.Words.{word}
use Rattle.word_cipher.specs.Tables.{spread, entry, tables}
use Rattle.word_cipher.proofs.table.tables.Goals as goal

pub returns : goal.returns
unfolding tables entry spread word sub_byte affine affine_from affine_bit bit inverse power_product product multiply xtime
returns c = table_is (λ i. entry (i / 256) (i % 256)) _ tt
