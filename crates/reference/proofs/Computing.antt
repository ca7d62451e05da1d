-- What the rows compute with, named once: whatever unfolds one of these unfolds all that its own line names.
-- Assumes nothing.
use Rattle.laws.specs.Lists.{tabulate, all_zero, same_list}
use Rattle.laws.specs.Blocks.{block_count}
use Rattle.hash.specs.Hasher.{zero_filled, absorb_from, absorb}
use Rattle.hash.specs.Sha256.{blocks}
use Rattle.hash.specs.ShaD.{max_message, max_d_message, max_pool_length, zero_block_hash, empty_pool}
use Rattle.generator.specs.Counter.{value, little_endian, max_counter}
use Rattle.generator.specs.Steps.{decode, encode, initial, reseed}
use Rattle.generator.specs.Refusals as Generator
use Rattle.generator.specs.Operations as Operations
use Rattle.slots.specs.Shuffle.{is_in, has_repeat, exchange}
use Rattle.slots.specs.Fair.{least_from, bits_for, try_value}
use Rattle.pools.specs.Events.{max_source, pool_count, max_data, header, event_bytes, header_length, gain}
use Rattle.pools.specs.Schedule.{used, used_below, used_pools, elapsed, is_due, max_key_requests, count_request}
use Rattle.pools.specs.Pool.{too_long, dirty_tail, stray_chain, malformed_pool, full}
use Rattle.pools.specs.State.{fresh, pool_at, counter_of, any_pool, unseeded_reseeded, stray_timer, unseeded_counted, malformed_fields, malformed, due}
use Rattle.pools.specs.Refusals.{and_then, seed_size, unseeded, spent, event_input, event_state, event_number, request_input, output_state, request_number}
use Rattle.pools.specs.Refusals.{seed_input, blank, update_input, update_state, update_number, write_number}
use Rattle.pools.specs.Refusals.{max_below, max_tries, max_list, draw_input, draw_number, list_input, shuffle_state, shuffle_number}
use Rattle.pools.specs.Effects.{unchanged, with_pool, add_event, with_generator, with_request, next_reseed, pool_reseed, reseed_if_due, emptied_by, random_data, reseed_with_seed, update_seed, write_seed}
use Rattle.pools.specs.Draws.{try_size, tries, leaving, after, shuffle_from, shuffled, try_at}
use Rattle.pools.specs.Tries.{draw_tries, shuffle_tries}
use Rattle.pools.specs.Calls.{input_buffer, call_number, call_effect, call_found, call_value, effect_of, outcome, step}
use Rattle.reference.specs.Readings.{whole_blocks, reseeded_state, seeded_state}

-- lists, and a pool's running hash
unfoldable pub hashing : Unit {0}
unfolding tabulate all_zero same_list zero_filled absorb_from absorb blocks max_message max_d_message max_pool_length zero_block_hash empty_pool
hashing = tt

-- K and C
unfoldable pub counting : Unit {0}
unfolding value little_endian max_counter decode encode initial block_count Generator.malformed Generator.max_request Operations.fresh
counting = tt

-- the clauses of 21 on K, C, the flag, the timer and the requests
unfoldable pub clausing : Unit {0}
unfolding unseeded_reseeded stray_timer unseeded_counted malformed_fields
clausing = tt

-- a fresh state, and 21
unfoldable pub forming : Unit {0}
unfolding pool_count too_long dirty_tail stray_chain malformed_pool fresh pool_at counter_of any_pool clausing malformed
forming = tt

-- the numbers of events, of requests, of seed calls, of draws and shuffles
unfoldable pub refusing_events : Unit {0}
unfolding max_source max_data header_length gain full event_input event_state event_number
refusing_events = tt

unfoldable pub refusing_requests : Unit {0}
unfolding elapsed is_due due unseeded spent request_input output_state request_number
refusing_requests = tt

unfoldable pub refusing_seeds : Unit {0}
unfolding seed_size seed_input blank update_input update_state update_number write_number
refusing_seeds = tt

unfoldable pub refusing_draws : Unit {0}
unfolding max_below max_tries max_list is_in has_repeat draw_input draw_number list_input shuffle_state shuffle_number
refusing_draws = tt

-- a call's outcome, as far as its number and what a refused one leaves
unfoldable pub stepping : Unit {0}
unfolding and_then input_buffer call_number call_effect call_found call_value unchanged effect_of outcome step
stepping = tt

unfoldable pub answering : Unit {0}
unfolding hashing counting forming refusing_events refusing_requests refusing_seeds refusing_draws stepping
answering = tt

-- what an accepted event puts into its pool
unfoldable pub adding : Unit {0}
unfolding header event_bytes with_pool add_event
adding = tt

-- the pools that an accepted request empties, and the number that is kept
unfoldable pub emptying : Unit {0}
unfolding used used_below used_pools next_reseed emptied_by pool_reseed reseed_if_due max_key_requests count_request with_generator with_request random_data
emptying = tt

-- what a seed call does
unfoldable pub seeding : Unit {0}
unfolding reseed reseed_with_seed update_seed write_seed
seeding = tt

-- the rule of draws and shuffles
unfoldable pub drawing : Unit {0}
unfolding value least_from bits_for try_value try_size try_at tries leaving after unchanged max_tries exchange shuffle_from shuffled draw_tries shuffle_tries
drawing = tt

-- the states that the rows start from
unfoldable pub starting : Unit {0}
unfolding whole_blocks reseeded_state seeded_state
starting = tt
