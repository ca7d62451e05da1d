-- The rows, by computation.
-- Assumes nothing.
use mathlib.Core.Path.{refl}
use Rattle.laws.specs.Lists.{joined}
use Rattle.generator.specs.Steps.{reseed, generate_blocks, block_data, pseudo_random_data}
use Rattle.pools.specs.Events.{pool_count, max_data, header, header_length, event_bytes, gain}
use Rattle.pools.specs.Schedule.{used, used_below, used_pools}
use Rattle.pools.specs.Effects.{emptied_pools}
use Rattle.pools.specs.Calls.{input_number, state_number, run_from, state_from}
use Rattle.quotas.specs.Entries.{list_number, entry_number, entry_step}
use Rattle.reference.specs.Runs.{run, state_after}
use Rattle.reference.specs.Timer.{pool_reseeds, reseeds_after, requests}
use Rattle.reference.specs.Provenance.{erased, traced_fresh, due_for, puts_into, use_of, next_uses}
use Rattle.reference.specs.Provenance.{traced_reseed, traced_accepted, traced_step, traced_from, traced}
use Rattle.reference.proofs.Computing.{answering, adding, emptying}
use Rattle.history.specs.Strings.{bytes_of, string_of}
use Rattle.history.specs.Reader.{source_at, length_at, whole_at, size_at, data_at, entry_at, found_event, then_read, history_from, history}
use Rattle.history.specs.Runs.{booked_event, accepted_event, accepted_from, booked_for, waiting_in, made}
use Rattle.history.specs.Runs.{entered_at, uses_of, strings_at, string_in, read_into, worked_out}
use Rattle.history.specs.RunStatements.{events_into}
use Rattle.history.specs.Examples.{Examples}

-- an event's bytes, and the reader
reading : Unit {0}
unfolding joined max_data header header_length event_bytes gain bytes_of string_of
    source_at length_at whole_at size_at data_at entry_at found_event then_read history_from history
reading = tt

-- the station's steps, without the cipher
stepping : Unit {0}
unfolding answering adding emptying emptied_pools reseed generate_blocks block_data pseudo_random_data
    input_number state_number list_number entry_number entry_step run_from state_from run state_after pool_reseeds reseeds_after requests
stepping = tt

-- the strings beside it
tracing : Unit {0}
unfolding erased traced_fresh due_for puts_into use_of next_uses traced_reseed traced_accepted traced_step traced_from traced
tracing = tt

-- what the calls put into each pool
booking : Unit {0}
unfolding booked_event accepted_event accepted_from booked_for waiting_in made entered_at uses_of strings_at string_in read_into worked_out events_into
booking = tt

pub examples : Examples
unfolding pool_count used used_below used_pools reading stepping tracing booking
examples =
    record {
      strings = (refl, refl, refl);
      places = refl;
      content = refl;
      data_sizes = refl;
      inside = refl;
      sizes = refl;
      cuts = refl;
      sources = refl;
      past = refl;
      numbers = refl;
      whole = (refl, refl);
      broken = (refl, refl, refl, refl);
      bookings = (refl, refl, refl, refl, refl);
      others = refl;
      uses = refl;
      worked = (refl, refl, refl);
      stray = (refl, refl);
      made = refl;
      entered = refl;
      held = (refl, refl);
      waiting = (refl, refl);
      into = refl;
    }
