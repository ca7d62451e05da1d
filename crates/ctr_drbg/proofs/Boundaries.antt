-- The boundary rows, by computation.
-- Assumes nothing.
use mathlib.Core.Path.{refl}
use Rattle.laws.specs.Lists.{tabulate}
use Rattle.laws.specs.Blocks.{block_count}
use Rattle.ctr_drbg.specs.Counter.{octets_to_integer, integer_to_octets, increment}
use Rattle.ctr_drbg.specs.Algorithms.{seed_length, xored, padded, working, state_of, generate_blocks, divided, zero_working, instantiate, reseed, prepared_by, generate}
use Rattle.ctr_drbg.specs.Refusals.{max_request, reseed_interval, never_seeded, reseed_required, instantiate_number, reseed_number, generate_number}
use Rattle.ctr_drbg.specs.Operations.{code, fresh, instantiate_answer, instantiated, reseed_answer, reseeded, generate_answer, generated, generate_buffer}
use Rattle.ctr_drbg.specs.Runs.{call_number, call_next, numbers_from, served_before}
use Rattle.ctr_drbg.specs.Boundaries.{Boundaries}

pub boundaries : Boundaries
unfolding tabulate octets_to_integer integer_to_octets increment seed_length xored padded divided max_request reseed_interval never_seeded
    reseed_required instantiate_number reseed_number generate_number code state_of zero_working fresh block_count working instantiate reseed
    prepared_by generate_blocks generate instantiate_answer instantiated reseed_answer reseeded generate_answer generated generate_buffer call_number
    call_next numbers_from served_before
boundaries =
    record {
      steps = refl;
      numbers = refl;
      octets = refl;
      padded_strings = refl;
      xored_strings = refl;
      divided_string = refl;
      entropy = refl;
      input = refl;
      sizes = refl;
      seeding = refl;
      order = refl;
      answers = refl;
      fresh_state = refl;
      block_counts = refl;
      seedings = λ w. refl;
      requests = λ w. refl;
      buffers = λ w. refl;
      traced = λ w. refl;
      refused = λ s w. refl;
      kept = λ s w. refl;
      run = refl;
      served_requests = λ w. refl;
    }
