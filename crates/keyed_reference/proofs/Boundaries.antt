-- The rows, by computation; the pools that steps pick stand in Picks.antt.
-- Assumes nothing.
use mathlib.Core.Path.{refl}
use Rattle.generator.specs.Steps.{pseudo_random_data, block_data}
use Rattle.pools.specs.Events.{pool_count}
use Rattle.pools.specs.Schedule.{max_key_requests, count_request}
use Rattle.pools.specs.Refusals.{and_then}
use Rattle.pools.specs.Collected.{nth}
use Rattle.pools.specs.Effects.{unchanged}
use Rattle.pools.specs.Calls.{effect_of, outcome}
use Rattle.quotas.specs.Records.{max_quotas, place_of, is_listed, quota_of, repeats, overspent, malformed_quotas, quotas_number, event_quotas_number, charged, cleared}
use Rattle.reference.proofs.Computing.{hashing, counting, forming, refusing_events, refusing_requests, refusing_seeds}
use Rattle.laws.specs.Lists.{tabulate}
use Rattle.keyed.specs.Scheduler.{empties, divides, greatest, output_pool, emptied_at}
use Rattle.keyed.specs.State.{fresh, pool_at, picked, counter_of, timer_moved, malformed_fields, malformed}
use Rattle.keyed.specs.Refusals.{max_step, step_number, event_input, event_state, event_number}
use Rattle.keyed.specs.Effects.{gained, emptied_into, emptied_by_step, stepped, add_event, served, random_data_from, random_data}
use Rattle.keyed.specs.Calls.{input_buffer, input_number, state_number, call_number, call_effect, step}
use Rattle.keyed.specs.Entries.{list_number, entry_number, entry_step, charged_for, quotas_left, left_by}
use Rattle.keyed_reference.specs.Reference.{scheduled_step}
use Rattle.keyed_reference.specs.Boundaries.{state_with, page, row_event, event_pool, Boundaries, OutputRow, ScheduleRow, StepRow, RoomRow, OrderRow, ListOrderRow, ClausesRow, PoolClausesRow, EachRow, EveryCallRow, UnseededRow, SpentCallsRow, FullLastRow, LongRow, GainRow, EmptyRow, OwnRow, StringRow, OnlyRow, LastRow, RequestRow, CountRow, SpentRow}
use Rattle.keyed_reference.proofs.Picks.{picks}

-- the pool that a step empties
scheduling : Unit {0}
unfolding empties divides greatest output_pool emptied_at pool_count
scheduling = tt

-- the numbers of the calls
refusing : Unit {0}
unfolding and_then max_step step_number event_input event_state event_number refusing_events refusing_requests refusing_seeds pool_at nth counter_of timer_moved
    malformed_fields malformed picked input_number state_number call_number forming counting hashing scheduling
refusing = tt

output_row : OutputRow
unfolding scheduling
output_row = refl

schedule-row : ScheduleRow
unfolding scheduled_step
schedule-row = refl

order_row : OrderRow
unfolding refusing
order_row = refl

clauses-row : ClausesRow
unfolding refusing state_with
clauses-row = refl

pool-clauses-row : PoolClausesRow
unfolding refusing state_with
pool-clauses-row = refl

-- ---- what calls do

-- an accepted event and a request, and lists
doing : Unit {0}
unfolding refusing state_with page row_event event_pool input_buffer gained emptied_into emptied_by_step stepped add_event served random_data_from random_data
    call_effect effect_of outcome unchanged step count_request max_key_requests
doing = tt

listing : Unit {0}
unfolding max_quotas place_of is_listed quota_of repeats overspent malformed_quotas quotas_number event_quotas_number charged cleared list_number entry_number
    entry_step charged_for quotas_left left_by
listing = tt

step_row : StepRow
unfolding doing
step_row = rw (picks.at-32, picks.at-33, picks.last-but-one, picks.last) refl

room_row : RoomRow
unfolding doing
room_row = rw picks.at-33 refl

list-order-row : ListOrderRow
unfolding doing listing
list-order-row = (refl, refl, refl)

every-call-row : EveryCallRow
unfolding doing
every-call-row = refl

gain-row : GainRow
unfolding doing
gain-row = rw picks.at-33 refl

each_row : EachRow
unfolding refusing state_with tabulate
each_row = (refl, refl)

unseeded-row : UnseededRow
unfolding doing fresh
unseeded-row = refl

spent-calls-row : SpentCallsRow
unfolding doing
spent-calls-row = refl

full-last-row : FullLastRow
unfolding doing
full-last-row = rw picks.last refl

long-row : LongRow
unfolding doing listing
long-row = ((λ s out e. rw e refl), (λ s rs out e. rw e refl))

string-row : StringRow
unfolding doing
string-row = rw picks.at-352 refl

only_row : OnlyRow
unfolding doing
only_row = rw picks.at-64 refl

count-row : CountRow
unfolding doing
count-row = refl

empty-row : EmptyRow
unfolding doing
empty-row = rw picks.at-32 refl

own_row : OwnRow
unfolding doing
own_row = rw picks.at-352 refl

last_row : LastRow
unfolding doing
last_row = rw (picks.last-but-one, picks.last) (refl, refl)

request-row : RequestRow
unfolding doing pseudo_random_data block_data
request-row = refl

spent-row : SpentRow
unfolding doing listing
spent-row = rw (picks.at-32, picks.at-33) (refl, refl, refl, refl)

pub boundaries : Boundaries
boundaries =
    record {
      outputs = output_row;
      schedule = schedule-row;
      steps = step_row;
      room = room_row;
      order = order_row;
      lists = list-order-row;
      clauses = clauses-row;
      pool_clauses = pool-clauses-row;
      each = each_row;
      every_call = every-call-row;
      unseeded = unseeded-row;
      spent_calls = spent-calls-row;
      full_last = full-last-row;
      long = long-row;
      gain = gain-row;
      empty = empty-row;
      own = own_row;
      string = string-row;
      only = only_row;
      last = last_row;
      request = request-row;
      count = count-row;
      spent = spent-row;
    }
