-- What a draw or a shuffle that passes its one check leaves room for: so many tries, from any state.
-- Assumes nothing.
use Rattle.std.proofs.Common.{◌≡◌, ℕ, suc, ◌-◌, ◌*◌, ◌<◌, ◌≤◌, List, length, arith, lit≤, le-ltb}
use Rattle.generator.specs.Counter.{max_counter}
use Rattle.generator.specs.Refusals.{max_request}
use Rattle.generator.proofs.Laws.{small-request, try-blocks}
use Rattle.pools.specs.State.{counter_of, malformed, due}
use Rattle.pools.specs.Refusals.{and_then, max_below, max_tries, max_list, spent, request_input, output_state, request_number}
use Rattle.pools.specs.Draws.{try_size}
use Rattle.pools.specs.Calls.{request, draw, shuffle, call_number}
use Rattle.pools.specs.Tries.{Passing}
use Rattle.pools.specs.declared.Fortuna.{Fortuna}
use Rattle.pools.proofs.Acceptance.{not-spent, draw-passed, draw-bounds, shuffle-passed, shuffle-bound}

-- ---- what an accepted call has passed

pub draw-passing : (s : Fortuna) (clock n d : ℕ) → call_number s (draw clock n d) ≡ 0 → Passing s clock d
unfolding call_number
draw-passing s clock n d e =
    let p = draw-passed (malformed s) (counter_of s) (due s clock) n d e in
    record { formed = p.formed; keyed = p.keyed; room = p.room }

pub draw-range : (s : Fortuna) (clock n d : ℕ) → call_number s (draw clock n d) ≡ 0 → (0 < n) × (n ≤ max_below) × (0 < d) × (d ≤ max_tries)
unfolding call_number
draw-range s clock n d e = draw-bounds (malformed s) (counter_of s) (due s clock) n d e

pub shuffle-passing : (s : Fortuna) (clock : ℕ) (list : List ℕ) → call_number s (shuffle clock list) ≡ 0 → 2 ≤ length list
    → Passing s clock (max_tries * (length list - 1))
unfolding call_number max_tries
shuffle-passing s clock list e h =
    let p = shuffle-passed (malformed s) (counter_of s) (due s clock) list e h in
    let blocks : 3 * (64 * (length list - 1)) ≡ 192 * (length list - 1) = omega arith in
    record { formed = p.formed; keyed = p.keyed; room = rw blocks p.room }

pub shuffle-range : (s : Fortuna) (clock : ℕ) (list : List ℕ) → call_number s (shuffle clock list) ≡ 0 → length list ≤ max_list
unfolding call_number
shuffle-range s clock list e = shuffle-bound (malformed s) (counter_of s) (due s clock) list e

-- ---- a state in which k tries pass

pub passing-fewer : (s : Fortuna) (clock j k : ℕ) → j ≤ k → Passing s clock k → Passing s clock j
unfolding spent
passing-fewer s clock j k h p =
    let r = not-spent (counter_of s) (due s clock) (3 * k) p.room in
    record { formed = p.formed; keyed = p.keyed; room = le-ltb max_counter _ (omega arith) }

-- the first passes
pub try-passes : (s : Fortuna) (clock k : ℕ) (out : List ℕ) → Passing s clock (suc k) → length out ≡ try_size → call_number s (request clock out) ≡ 0
unfolding call_number request_number request_input output_state and_then try_size
try-passes s clock k out p e =
    let one = passing-fewer s clock 1 (suc k) (omega arith) p in
    rw (e, le-ltb max_request 4 (small-request 4 (lit≤ tt)), try-blocks, one.formed, one.keyed, one.room)
