-- What the code's checks ask: what is known of an input that is not refused, and the chains of some calls as the code walks them.
-- Assumes nothing.
use Rattle.std.proofs.Common.{◌≡◌, ℕ, ◌+◌, ◌-◌, ◌*◌, ◌≤◌, Bool, true, false, cond, ◌||◌, eqb, ltb, List, length, sym, refl, lit≤, le-ltb}
use Rattle.laws.specs.Refusals.{refuse}
use Rattle.laws.specs.Blocks.{block_count}
use Rattle.generator.specs.Refusals.{max_request}
use Rattle.generator.proofs.Laws.{few-blocks, small-request}
use Rattle.pools.specs.Events.{max_source, pool_count, max_data, header_length, gain}
use Rattle.pools.specs.Pool.{full}
use Rattle.pools.specs.Refusals.{and_then, seed_size, max_tries, max_list}
use Rattle.pools.specs.Refusals.{event_number, event_input, event_state, request_input, request_number, output_state}
use Rattle.pools.specs.Refusals.{seed_input, draw_input, list_input, shuffle_state, shuffle_number}
use Rattle.pools.proofs.Acceptance.{request-input, sized, draw-input, list-input}

-- ---- an input that is not refused

pub blocks : (n : ℕ) → 0 ≡ request_input n → block_count n ≤ 65536
blocks n e = few-blocks n (request-input n (sym e))

pub seed : (bytes : List ℕ) → 0 ≡ seed_input bytes → length bytes ≡ 64
unfolding seed_input seed_size
seed bytes e = sized bytes (seed_input bytes) (λ t. rw t) (sym e)

pub tries : (n d : ℕ) → 0 ≡ draw_input n d → d ≤ 64
unfolding max_tries
tries n d e = (draw-input n d (sym e)).3

pub listed : (list : List ℕ) → 0 ≡ list_input list → length list ≤ 256
unfolding max_list
listed list e = list-input list (sym e)

-- ---- chains

-- a test in front of two chains
then-refuse : (t : Bool) (n rest more : ℕ) → eqb n 0 ≡ false → and_then (refuse t n rest) more ≡ refuse t n (and_then rest more)
unfolding and_then
then-refuse true n rest more e = rw e
then-refuse false n rest more e = refl

pub event : (m : Bool) (size source pool n : ℕ) → event_number m size source pool n
    ≡ refuse (ltb 65535 source) 11 (refuse (ltb 31 pool) 12 (refuse (eqb n 0 || ltb 32 n) 13 (refuse m 21 (refuse (full size (3 + n)) 22 0))))
unfolding event_number event_input event_state max_source pool_count max_data gain header_length
event m size source pool n =
    let state : ℕ = refuse m 21 (refuse (full size (3 + n)) 22 0) in
    rw (then-refuse (ltb 65535 source) 11 _ state refl, then-refuse (ltb 31 pool) 12 _ state refl, then-refuse (eqb n 0 || ltb 32 n) 13 _ state refl)
    (unfold and_then in refl)

-- a request of a seed's size is not too long
pub page : (m : Bool) (c : ℕ) (due : Bool) → request_number m c due 64 ≡ output_state m c due (block_count seed_size + 2)
unfolding request_number request_input and_then seed_size
page m c due = rw (le-ltb max_request 64 (small-request 64 (lit≤ tt)))

pub shuffle : (m : Bool) (c : ℕ) (due : Bool) (list : List ℕ) → shuffle_number m c due list
    ≡ and_then (list_input list) (cond (ltb (length list) 2) (refuse m 21 0) (output_state m c due (192 * (length list - 1))))
unfolding shuffle_number shuffle_state
shuffle m c due list = refl
