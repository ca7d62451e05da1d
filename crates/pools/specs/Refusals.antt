-- The refusals, two chains for each call, over plain values: input numbers, then state numbers, within each list the lower first.
-- The reference model reads the same chains with what it holds, so the table of boundaries checks them by themselves.
-- Assumes nothing.
use Rattle.std.specs.Prelude.{ℕ, ◌+◌, ◌-◌, ◌*◌, ◌^◌, Bool, false, cond, not, ◌&&◌, ◌||◌, List, length, replicate, ◌==◌, nat_lt, slice_index}
use Rattle.laws.specs.Lists.{same_list}
use Rattle.laws.specs.Refusals.{refuse, guarded}
use Rattle.laws.specs.Blocks.{block_count}
use Rattle.hash.specs.Hasher.{absorb}
use Rattle.hash.specs.declared.hasher.Hasher.{Hasher}
use Rattle.generator.specs.Counter.{max_counter}
use Rattle.generator.specs.Refusals.{max_request}
use Rattle.pools.specs.Events.{max_source, pool_count, max_data, event_bytes, gain}
use Rattle.slots.specs.Shuffle.{has_repeat}
use Rattle.pools.specs.Pool.{full}

-- the first chain's number, or the second's where the first has none
unfoldable pub and_then : ℕ → ℕ → ℕ
and_then first second = cond (first == 0) second first

-- the size of a seed
unfoldable pub seed_size : ℕ
seed_size = 64

-- the largest n of a draw, the most tries, the most numbers of a list
unfoldable pub max_below : ℕ
max_below = 2 ^ 32

unfoldable pub max_tries : ℕ
max_tries = 64

unfoldable pub max_list : ℕ
max_list = 256

-- 23: C = 0 and no pool reseed due
unfoldable pub unseeded : ℕ → Bool → Bool
unseeded c due = c == 0 && not due

-- 24: C + u + b above its largest value; u is 1 where a pool reseed is due
unfoldable pub spent : ℕ → Bool → ℕ → Bool
spent c due b = nat_lt max_counter (c + cond due 1 0 + b)

-- ---- an event of n bytes of data, where its pool holds `size` bytes

unfoldable pub event_input : ℕ → ℕ → ℕ → ℕ
event_input source pool n =
    refuse (nat_lt max_source source) 11 (refuse (nat_lt (pool_count - 1) pool) 12 (refuse (n == 0 || nat_lt max_data n) 13 0))

unfoldable pub event_state : Bool → ℕ → ℕ → ℕ
event_state malformed size n = refuse malformed 21 (refuse (full size (gain n)) 22 0)

unfoldable pub event_number : Bool → ℕ → ℕ → ℕ → ℕ → ℕ
event_number malformed size source pool n = and_then (event_input source pool n) (event_state malformed size n)

-- an event's pool afterwards, whichever pool it is: as it was where the source, the data or the room refuses it
unfoldable pub gained_pool : Hasher → ℕ → List ℕ → Hasher
gained_pool p source «data» = guarded (event_number false p.length source 0 (length «data»)) (absorb p (event_bytes source «data»)) p

-- ---- a request of n bytes

unfoldable pub request_input : ℕ → ℕ
request_input n = refuse (nat_lt max_request n) 14 0

-- b blocks, for requests, draws and shuffles
unfoldable pub output_state : Bool → ℕ → Bool → ℕ → ℕ
output_state malformed c due b = refuse malformed 21 (refuse (unseeded c due) 23 (refuse (spent c due b) 24 0))

-- a request's blocks, and two more for the new key; a seed write is a request of 64 bytes
abbrev pub request_state : Bool → ℕ → Bool → ℕ → ℕ
request_state malformed c due n = output_state malformed c due (block_count n + 2)

unfoldable pub request_number : Bool → ℕ → Bool → ℕ → ℕ
request_number malformed c due n = and_then (request_input n) (request_state malformed c due n)

-- ---- seed calls on the lent bytes: a write asks for 64 bytes, an update reseeds before

unfoldable pub seed_input : List ℕ → ℕ
seed_input seed = refuse (not (length seed == seed_size)) 15 0

-- 36: the bytes are all equal, as on a page of flash memory that was never written: 64 times the first of them
unfoldable pub blank : List ℕ → Bool
blank seed = same_list seed (replicate seed_size (slice_index seed 0))

-- the input numbers of an update: 15, then 36; a write has 15 alone
unfoldable pub update_input : List ℕ → ℕ
update_input seed = and_then (seed_input seed) (refuse (blank seed) 36 0)

unfoldable pub write_number : Bool → ℕ → Bool → List ℕ → ℕ
write_number malformed c due seed = and_then (seed_input seed) (request_state malformed c due seed_size)

unfoldable pub update_state : Bool → ℕ → Bool → ℕ
update_state malformed c due = refuse malformed 21 (refuse (spent c due 7) 24 0)

unfoldable pub update_number : Bool → ℕ → Bool → List ℕ → ℕ
update_number malformed c due seed = and_then (update_input seed) (update_state malformed c due)

-- ---- draws below n with d tries, and shuffles of a list

unfoldable pub draw_input : ℕ → ℕ → ℕ
draw_input n d = refuse (n == 0 || nat_lt max_below n) 31 (refuse (d == 0 || nat_lt max_tries d) 32 0)

-- three blocks for each try
abbrev pub draw_state : Bool → ℕ → Bool → ℕ → ℕ
draw_state malformed c due d = output_state malformed c due (3 * d)

unfoldable pub draw_number : Bool → ℕ → Bool → ℕ → ℕ → ℕ
draw_number malformed c due n d = and_then (draw_input n d) (draw_state malformed c due d)

unfoldable pub list_input : List ℕ → ℕ
list_input list = refuse (nat_lt max_list (length list) || has_repeat list) 31 0

-- a list of m numbers; below 2 it makes no request, so 23 and 24 do not apply
unfoldable pub shuffle_state : Bool → ℕ → Bool → ℕ → ℕ
shuffle_state malformed c due m = cond (nat_lt m 2) (refuse malformed 21 0) (output_state malformed c due (192 * (m - 1)))

unfoldable pub shuffle_number : Bool → ℕ → Bool → List ℕ → ℕ
shuffle_number malformed c due list = and_then (list_input list) (shuffle_state malformed c due (length list))
