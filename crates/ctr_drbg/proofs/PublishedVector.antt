-- The published vector, by computation.
-- Assumes nothing.
use mathlib.Core.Path.{◌≡◌, refl}
use mathlib.Core.List.{[]}
use Rattle.laws.specs.Lists.{tabulate}
use Rattle.laws.specs.Blocks.{block_count}
use Rattle.cipher.specs.Field.{xtime, multiply, product, power_product, inverse, bit, affine_bit, affine_from, affine, sub_byte}
use Rattle.cipher.specs.Aes.{x_power, sub_bytes, shift_rows, mixed_byte, mix_columns, add_round_key, round, rounds, cipher_with, temp, next_word, with_next_word, expand, key_expansion, cipher}
use Rattle.ctr_drbg.specs.Counter.{octets_to_integer, integer_to_octets, increment}
use Rattle.ctr_drbg.specs.Algorithms.{seed_length, xored, padded, divided, working, state_of, zero_working, generate_blocks, update, instantiate, prepared_by, generate}
use Rattle.ctr_drbg.specs.PublishedVector.{entropy_input, returned_bits, PublishedVector}
use Rattle.ctr_drbg.specs.declared.CtrDrbg.{CtrDrbg}

-- whatever unfolds one of these unfolds all that its own line names
unfoldable enciphering : Unit {0}
unfolding xtime multiply product power_product inverse bit affine_bit affine_from affine sub_byte key_expansion expand with_next_word next_word temp x_power
    cipher cipher_with rounds round tabulate sub_bytes shift_rows mixed_byte mix_columns add_round_key
enciphering = tt

unfoldable generating : Unit {0}
unfolding enciphering block_count octets_to_integer integer_to_octets increment seed_length xored padded divided working state_of zero_working generate_blocks
    update instantiate prepared_by generate
generating = tt

-- the states between the vector's steps
abbrev seeded : CtrDrbg
seeded =
    record {
      key = integer_to_octets 32 0x8c52f901632d522774c08fad0eb2c33b98a701a1861aecf3d8a25860941709fd;
      v = integer_to_octets 16 0x217b52142105250243c0b2c206b8f59e;
      reseed_counter = 1;
    }

abbrev requested : CtrDrbg
requested =
    record {
      key = integer_to_octets 32 0x72f4af5c93258eb3eeec8c0cacea6c1d1978a4fad44312725f1ac43b167f2d52;
      v = integer_to_octets 16 0xe86f6d07dfb551cebad80e6bf6830ac4;
      reseed_counter = 2;
    }

seeding : instantiate entropy_input [] ≡ seeded
unfolding generating
seeding = refl

first-request : (generate seeded 64 []).next ≡ requested
unfolding generating
first-request = refl

second-request : (generate requested 64 []).bytes ≡ returned_bits
unfolding generating
second-request = refl

pub published-vector : PublishedVector
published-vector = rw (seeding, first-request, second-request)
