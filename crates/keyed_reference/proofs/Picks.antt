-- The pools that steps pick under the row key, by computation: each is AES-256 of one block.
-- Assumes nothing.
use mathlib.Core.Path.{◌≡◌, refl}
use Prim.Native.Nat.{◌-◌, ◌^◌}
use Rattle.laws.specs.Lists.{tabulate}
use Rattle.cipher.specs.Field as Field
use Rattle.cipher.specs.Aes as Aes
use Rattle.generator.specs.Counter.{little_endian}
use Rattle.pools.specs.Events.{pool_count}
use Rattle.keyed.specs.Scheduler.{step_block, input_pool}
use Rattle.keyed_reference.specs.Picks.{row_key, Picks}

-- AES-256 by its definition, and the block that is enciphered
ciphering : Unit {0}
unfolding Aes.sub_bytes Aes.shift_rows Aes.mixed_byte Aes.mix_columns Aes.add_round_key Aes.round Aes.rounds Aes.cipher_with Aes.x_power Aes.temp Aes.next_word
    Aes.with_next_word Aes.expand Aes.key_expansion Aes.cipher Field.xtime Field.multiply Field.product Field.power_product Field.inverse Field.bit
    Field.affine_bit Field.affine_from Field.affine Field.sub_byte row_key tabulate step_block input_pool little_endian pool_count
ciphering = tt

pick-32 : input_pool row_key 32 ≡ 27
unfolding ciphering
pick-32 = refl

pick-33 : input_pool row_key 33 ≡ 23
unfolding ciphering
pick-33 = refl

pick-64 : input_pool row_key 64 ≡ 10
unfolding ciphering
pick-64 = refl

pick-256 : input_pool row_key 256 ≡ 5
unfolding ciphering
pick-256 = refl

pick-352 : input_pool row_key 352 ≡ 0
unfolding ciphering
pick-352 = refl

pick-last-but-one : input_pool row_key (2 ^ 64 - 2) ≡ 0
unfolding ciphering
pick-last-but-one = refl

pick-last : input_pool row_key (2 ^ 64 - 1) ≡ 17
unfolding ciphering
pick-last = refl

pub picks : Picks
picks =
    record {
      at-32 = pick-32;
      at-33 = pick-33;
      at-64 = pick-64;
      at-256 = pick-256;
      at-352 = pick-352;
      last-but-one = pick-last-but-one;
      last = pick-last;
    }
