-- What an accepted call has passed.
-- Assumes nothing.
use Rattle.std.proofs.Common.{◌≡◌, ℕ, ◌+◌, ◌-◌, ◌*◌, ◌<◌, ◌≤◌, Bool, false, cond, ◌||◌, eqb, ltb, List, length, pos_of_ne-zero, arith, ltb-false, le-ltb, ne_eqb, eqb-true}
use borrow.Author.Tests.{eqb-false}
use Rattle.laws.specs.Refusals.{refuse}
use Rattle.laws.specs.Blocks.{block_count}
use Rattle.laws.proofs.Cases.{split, by-test, neither}
use Rattle.laws.proofs.Refusals.{passed}
use Rattle.hash.specs.ShaD.{max_pool_length}
use Rattle.generator.specs.Counter.{max_counter}
use Rattle.generator.specs.Refusals.{max_request}
use Rattle.pools.specs.Events.{max_source, pool_count, max_data, gain}
use Rattle.pools.specs.Pool.{full}
use Rattle.slots.specs.Shuffle.{has_repeat}
use Rattle.pools.specs.Refusals.{and_then, seed_size, max_below, max_tries, max_list, unseeded, spent, event_input, event_state, event_number, request_input, output_state, request_number, seed_input, write_number, update_input, update_state, update_number, draw_input, draw_number, list_input, shuffle_state, shuffle_number}
use Rattle.pools.proofs.Chains.{both-passed, then-cong}

-- ---- a call that makes b blocks

pub record OutputPassed (m : Bool) (c : ℕ) (due : Bool) (b : ℕ) : Type 0 where
  pub formed : m ≡ false
  pub keyed : unseeded c due ≡ false
  pub room : spent c due b ≡ false

pub not-spent : (c : ℕ) (due : Bool) (b : ℕ) → spent c due b ≡ false → c + cond due 1 0 + b ≤ max_counter
unfolding spent
not-spent c due b e = ltb-false max_counter (c + cond due 1 0 + b) e

output-passed : (m : Bool) (c : ℕ) (due : Bool) (b : ℕ) → output_state m c due b ≡ 0 → OutputPassed m c due b
unfolding output_state
output-passed m c due b e =
    let p = passed m 21 (refuse (unseeded c due) 23 (refuse (spent c due b) 24 0)) (omega arith) e in
    let q = passed (unseeded c due) 23 (refuse (spent c due b) 24 0) (omega arith) p.1 in
    record { formed = p.0; keyed = q.0; room = (passed (spent c due b) 24 0 (omega arith) q.1).0 }

pub request-passed : (m : Bool) (c : ℕ) (due : Bool) (n : ℕ) → request_number m c due n ≡ 0 → OutputPassed m c due (block_count n + 2)
unfolding request_number
request-passed m c due n e = output-passed m c due (block_count n + 2) (both-passed (request_input n) (output_state m c due (block_count n + 2)) e).1

pub request-room : (m : Bool) (c : ℕ) (due : Bool) (n : ℕ) → request_number m c due n ≡ 0 → c + cond due 1 0 + (block_count n + 2) ≤ max_counter
request-room m c due n e = not-spent c due (block_count n + 2) (request-passed m c due n e).room

pub request-input : (n : ℕ) → request_input n ≡ 0 → n ≤ max_request
unfolding request_input
request-input n e = ltb-false max_request n (passed (ltb max_request n) 14 0 (omega arith) e).0

pub request-short : (m : Bool) (c : ℕ) (due : Bool) (n : ℕ) → request_number m c due n ≡ 0 → n ≤ max_request
unfolding request_number
request-short m c due n e = request-input n (both-passed (request_input n) (output_state m c due (block_count n + 2)) e).0

-- ---- a seed call

-- whose number is 15 at another size
pub sized : (seed : List ℕ) (n : ℕ) → (eqb (length seed) seed_size ≡ false → n ≡ 15) → n ≡ 0 → length seed ≡ seed_size
sized seed n other e =
    by-test (eqb (length seed) seed_size) (length seed ≡ seed_size)
    (eqb-true (length seed) seed_size)
    (λ t. let h : n ≡ 15 = other t in absurd (omega (arith, h, e)))

pub write-size : (m : Bool) (c : ℕ) (due : Bool) (seed : List ℕ) → write_number m c due seed ≡ 0 → length seed ≡ seed_size
unfolding write_number update_input seed_input and_then
write-size m c due seed e = sized seed (write_number m c due seed) (λ t. rw t) e

pub write-passed : (m : Bool) (c : ℕ) (due : Bool) (seed : List ℕ) → write_number m c due seed ≡ 0 → OutputPassed m c due (block_count seed_size + 2)
unfolding write_number
write-passed m c due seed e =
    output-passed m c due (block_count seed_size + 2) (both-passed _ (output_state m c due (block_count seed_size + 2)) e).1

pub write-room : (m : Bool) (c : ℕ) (due : Bool) (seed : List ℕ) → write_number m c due seed ≡ 0
    → c + cond due 1 0 + (block_count seed_size + 2) ≤ max_counter
write-room m c due seed e = not-spent c due (block_count seed_size + 2) (write-passed m c due seed e).room

pub update-size : (m : Bool) (c : ℕ) (due : Bool) (seed : List ℕ) → update_number m c due seed ≡ 0 → length seed ≡ seed_size
unfolding update_number update_input seed_input and_then
update-size m c due seed e = sized seed (update_number m c due seed) (λ t. rw t) e

-- an accepted update is on a well-formed state with room, in whatever order the chain has its tests
record Accepts (Q : Type 0) (n : ℕ) : Type 0 where
  holds : n ≡ 0 → Q

module _ (Q : Type 0) where
  accepts-not : (n : ℕ) → eqb n 0 ≡ false → Accepts Q n
  accepts-not n h = record { holds = λ e. absurd (eqb-false n 0 h e) }

  accepts-first : (m n : ℕ) → Accepts Q m → Accepts Q (and_then m n)
  accepts-first m n a = record { holds = λ e. a.holds (both-passed m n e).0 }

  accepts-second : (m n : ℕ) → Accepts Q n → Accepts Q (and_then m n)
  accepts-second m n a = record { holds = λ e. a.holds (both-passed m n e).1 }

  accepts-refuse : (t : Bool) (n rest : ℕ) → Accepts Q n → (t ≡ false → Accepts Q rest) → Accepts Q (refuse t n rest)
  accepts-refuse t n rest a f = split (Accepts Q) t (λ h. a) f

update-accepts : (m : Bool) (c : ℕ) (due : Bool) (seed : List ℕ) → Accepts ((m ≡ false) × (spent c due 7 ≡ false)) (update_number m c due seed)
unfolding update_number update_input seed_input update_state
update-accepts m c due seed = search (accepts-not, accepts-first, accepts-second, accepts-refuse) depth 9

pub update-passed : (m : Bool) (c : ℕ) (due : Bool) (seed : List ℕ) → update_number m c due seed ≡ 0 → (m ≡ false) × (spent c due 7 ≡ false)
update-passed m c due seed e = (update-accepts m c due seed).holds e

pub update-room : (m : Bool) (c : ℕ) (due : Bool) (seed : List ℕ) → update_number m c due seed ≡ 0 → c + cond due 1 0 + 7 ≤ max_counter
update-room m c due seed e = not-spent c due 7 (update-passed m c due seed e).1

-- ---- an event

pub record EventPassed (source pool n : ℕ) : Type 0 where
  pub known : source ≤ max_source
  pub place : pool < pool_count
  pub some : 0 < n
  pub short : n ≤ max_data

pub input-passed : (source pool n : ℕ) → event_input source pool n ≡ 0 → EventPassed source pool n
unfolding event_input pool_count
input-passed source pool n e =
    let long : Bool = eqb n 0 || ltb max_data n in
    let p = passed (ltb max_source source) 11 (refuse (ltb 31 pool) 12 (refuse long 13 0)) (omega arith) e in
    let q = passed (ltb 31 pool) 12 (refuse long 13 0) (omega arith) p.1 in
    let l = passed long 13 0 (omega arith) q.1 in
    let sized = neither (eqb n 0) (ltb max_data n) l.0 in
    record {
      known = ltb-false max_source source p.0;
      place = omega (arith, ltb-false 31 pool q.0);
      some = pos_of_ne-zero (eqb-false n 0 sized.0);
      short = ltb-false max_data n sized.1;
    }

pub event-passed : (m : Bool) (size source pool n : ℕ) → event_number m size source pool n ≡ 0 → EventPassed source pool n
unfolding event_number
event-passed m size source pool n e = input-passed source pool n (both-passed (event_input source pool n) (event_state m size n) e).0

-- and the other way round
pub event-accepted :
    (size source pool n : ℕ) → EventPassed source pool n → size + gain n ≤ max_pool_length → event_number false size source pool n ≡ 0
unfolding event_number event_input event_state full pool_count and_then
event-accepted size source pool n p room =
    rw (
      le-ltb max_source source p.known,
      le-ltb 31 pool (omega (arith, p.place)),
      ne_eqb n 0 (λ z. omega (arith, p.some)),
      le-ltb max_data n p.short,
      le-ltb max_pool_length (size + gain n) room,
    )

pub event-room : (m : Bool) (size source pool n : ℕ) → event_number m size source pool n ≡ 0 → size + gain n ≤ max_pool_length
unfolding event_number event_state full
event-room m size source pool n e =
    let p = both-passed (event_input source pool n) (refuse m 21 (refuse (ltb max_pool_length (size + gain n)) 22 0)) e in
    let q = passed m 21 (refuse (ltb max_pool_length (size + gain n)) 22 0) (omega arith) p.1 in
    ltb-false max_pool_length (size + gain n) (passed (ltb max_pool_length (size + gain n)) 22 0 (omega arith) q.1).0

-- the size of a pool counts only where there is such a pool
pub event-size : (m : Bool) (size size' source pool n : ℕ) → (pool < pool_count → size ≡ size')
    → event_number m size source pool n ≡ event_number m size' source pool n
unfolding event_number
event-size m size size' source pool n h =
    then-cong (event_input source pool n) (event_state m size n) (event_state m size' n) (λ e. rw (h (input-passed source pool n e).place))

-- ---- a draw

-- a number from 1 to a limit
from_one : (n most : ℕ) → (eqb n 0 || ltb most n) ≡ false → (0 < n) × (n ≤ most)
from_one n most e =
    let p = neither (eqb n 0) (ltb most n) e in
    (pos_of_ne-zero (eqb-false n 0 p.0), ltb-false most n p.1)

pub draw-passed : (m : Bool) (c : ℕ) (due : Bool) (n d : ℕ) → draw_number m c due n d ≡ 0 → OutputPassed m c due (3 * d)
unfolding draw_number
draw-passed m c due n d e = output-passed m c due (3 * d) (both-passed (draw_input n d) (output_state m c due (3 * d)) e).1

pub draw-input : (n d : ℕ) → draw_input n d ≡ 0 → (0 < n) × (n ≤ max_below) × (0 < d) × (d ≤ max_tries)
unfolding draw_input
draw-input n d e =
    let tried : Bool = eqb d 0 || ltb max_tries d in
    let p = passed (eqb n 0 || ltb max_below n) 31 (refuse tried 32 0) (omega arith) e in
    let below = from_one n max_below p.0 in
    let times = from_one d max_tries (passed tried 32 0 (omega arith) p.1).0 in
    (below.0, below.1, times.0, times.1)

pub draw-bounds : (m : Bool) (c : ℕ) (due : Bool) (n d : ℕ) → draw_number m c due n d ≡ 0 → (0 < n) × (n ≤ max_below) × (0 < d) × (d ≤ max_tries)
unfolding draw_number
draw-bounds m c due n d e = draw-input n d (both-passed (draw_input n d) (output_state m c due (3 * d)) e).0

-- ---- a shuffle

pub shuffle-passed : (m : Bool) (c : ℕ) (due : Bool) (list : List ℕ) → shuffle_number m c due list ≡ 0 → 2 ≤ length list
    → OutputPassed m c due (192 * (length list - 1))
unfolding shuffle_number shuffle_state
shuffle-passed m c due list e h =
    let size : ℕ = length list in
    let b : ℕ = 192 * (size - 1) in
    let s = (both-passed (list_input list) (cond (ltb size 2) (refuse m 21 0) (output_state m c due b)) e).1 in
    output-passed m c due b (rw (le-ltb size 2 h) at s)

pub list-input : (list : List ℕ) → list_input list ≡ 0 → length list ≤ max_list
unfolding list_input
list-input list e =
    let p = passed (ltb max_list (length list) || has_repeat list) 31 0 (omega arith) e in
    ltb-false max_list (length list) (neither (ltb max_list (length list)) (has_repeat list) p.0).0

pub shuffle-bound : (m : Bool) (c : ℕ) (due : Bool) (list : List ℕ) → shuffle_number m c due list ≡ 0 → length list ≤ max_list
unfolding shuffle_number
shuffle-bound m c due list e = list-input list (both-passed (list_input list) (shuffle_state m c due (length list)) e).0
