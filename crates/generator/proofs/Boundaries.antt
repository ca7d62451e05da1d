-- The boundary rows, by computation.
-- Assumes nothing.
use mathlib.Core.Path.{refl}
use Rattle.laws.specs.Lists.{all_zero}
use Rattle.laws.specs.Blocks.{block_count}
use Rattle.hash.specs.ShaD.{max_message, max_d_message}
use Rattle.generator.specs.Counter.{value, little_endian, max_counter}
use Rattle.generator.specs.Steps.{initial, generate_blocks, block_data, pseudo_random_data}
use Rattle.generator.specs.Refusals.{max_request, max_seed, malformed, unseeded, spent, state_number, reseed_number, output_number, blocks_number, request_number}
use Rattle.generator.specs.Boundaries.{keyed, Boundaries}

-- what the rows compute with: numbers and steps; refusals
stepping : Unit {0}
unfolding value little_endian initial block_count generate_blocks block_data pseudo_random_data keyed
stepping = tt

refusing : Unit {0}
unfolding max_counter max_message max_d_message max_request max_seed all_zero malformed unseeded spent state_number reseed_number output_number
    blocks_number request_number
refusing = tt

pub boundaries : Boundaries
unfolding stepping refusing
boundaries =
    record {
      bytes = refl;
      values = refl;
      block_counts = refl;
      growth = refl;
      request_sizes = refl;
      blocks_sizes = refl;
      seed_sizes = refl;
      reseed_room = refl;
      block_room = refl;
      no_block = refl;
      request_room = refl;
      largest_request = refl;
      malformed_states = refl;
      fresh_state = refl;
      order = refl;
    }
