-- The readings, by computation. The largest request goes by the generator's closed form.
-- Assumes nothing.
use mathlib.Core.Path.{◌≡◌, refl}
use Prim.Native.Nat.{ℕ, ◌+◌}
use lib.ListN.{replicate}
use Rattle.laws.specs.Lists.{joined, select}
use Rattle.laws.specs.Blocks.{block_count}
use Rattle.generator.specs.Counter.{value, little_endian}
use Rattle.generator.specs.Steps.{generate_blocks, block_data, pseudo_random_data}
use Rattle.generator.specs.Closed.{rekeyed, closed_random_data}
use Rattle.generator.proofs.Steps.{random-data-closed}
use Rattle.pools.specs.State.{counter_of}
use Rattle.pools.specs.Effects.{random_data}
use Rattle.pools.specs.Calls.{input_number, run_from, run}
use Rattle.reference.specs.Reference.{scheduled_reseed, scheduled, pending, contents, pool_contents}
use Rattle.reference.specs.Reference.{append_event, reference_number, reference_entry_number, reference_effect, reference_step}
use Rattle.reference.specs.ReferenceLists.{by_records}
use Rattle.reference.specs.Readings.{seeded_state, emptied_at, filled, booked_after, GrowthRow, Readings}
use Rattle.reference.proofs.Computing.{answering, adding, emptying, seeding, starting}

-- C after a request of n bytes with nothing due
growth-closed : (n : ℕ) → counter_of (random_data (seeded_state 1) 0 n).next ≡ value (little_endian 16 (1 + (block_count n + 2)))
unfolding answering emptying starting rekeyed closed_random_data
growth-closed n = rw (random-data-closed (record { key = replicate 32 1; count = 1 }) n)

growth-row : GrowthRow
unfolding value little_endian block_count
growth-row = rw (growth-closed 0, growth-closed 1, growth-closed 16, growth-closed 17, growth-closed 1048576)

-- the number of a call without a list in the model
numbering : Unit {0}
unfolding input_number by_records reference_entry_number reference_step
numbering = tt

-- the model's side of the table
modelling : Unit {0}
unfolding scheduled_reseed scheduled select pending contents pool_contents joined append_event reference_number reference_effect booked_after numbering
modelling = tt

-- the Block steps of a seed update
updating : Unit {0}
unfolding seeding generate_blocks block_data pseudo_random_data
updating = tt

pub readings : Readings
unfolding answering adding emptying starting updating modelling run_from run filled emptied_at
readings =
    record {
      gain = refl;
      emptied = refl;
      due = refl;
      first_reseed = refl;
      growth = growth-row;
      updated = refl;
      spent = refl;
      schedule = refl;
    }
