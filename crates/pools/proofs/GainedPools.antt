-- One pool after an event, whichever pool it is.
-- Assumes nothing.
use Rattle.std.proofs.Common.{◌≡◌, ℕ, ◌+◌, ◌-◌, ◌≤◌, Bool, true, false, ◌||◌, eqb, ltb, List, length, arith}
use Rattle.laws.specs.Refusals.{refuse}
use Rattle.laws.proofs.Refusals.{passed, accepted}
use Rattle.hash.specs.Hasher.{absorb}
use Rattle.hash.specs.ShaD.{max_pool_length}
use Rattle.hash.specs.declared.hasher.Hasher.{Hasher}
use Rattle.pools.specs.Events.{max_source, pool_count, max_data, event_bytes, gain}
use Rattle.pools.specs.Pool.{full}
use Rattle.pools.specs.Refusals.{and_then, event_input, event_state, event_number, gained_pool}
use Rattle.pools.proofs.Chains.{both-passed}
use Rattle.pools.proofs.Acceptance.{event-passed, event-room}

-- k is the number that the code came to, d its test for an event that is done
pub gained-asks : (size source n k : ℕ) (d : Bool) → k ≡ event_number false size source 0 n → d ≡ eqb k 0 → d ≡ true
    → (source ≤ max_source) × (n ≤ max_data) × (size + gain n ≤ max_pool_length)
gained-asks size source n k d e f t =
    let ok = accepted (event_number false size source 0 n) k d e f t in
    let p = event-passed false size source 0 n ok in
    (p.known, p.short, event-room false size source 0 n ok)

chain : (size source n : ℕ) → ltb max_source source ≡ false → (eqb n 0 || ltb max_data n) ≡ false → full size (gain n) ≡ false
    → event_number false size source 0 n ≡ 0
unfolding event_number event_input event_state and_then pool_count
chain size source n a b c = rw (a, b, c)

-- an event that is accepted into a pool is accepted into the first
pub any-pool : (m : Bool) (size source pool n : ℕ) → event_number m size source pool n ≡ 0 → event_number false size source 0 n ≡ 0
any-pool m size source pool n e =
    let parts = both-passed (event_input source pool n) (event_state m size n) (unfold event_number in e) in
    let known = passed (ltb max_source source) 11 (refuse (ltb (pool_count - 1) pool) 12 (refuse (eqb n 0 || ltb max_data n) 13 0)) (omega arith)
    (unfold event_input in parts.0) in
    let placed = passed (ltb (pool_count - 1) pool) 12 (refuse (eqb n 0 || ltb max_data n) 13 0) (omega arith) known.1 in
    let sized = passed (eqb n 0 || ltb max_data n) 13 0 (omega arith) placed.1 in
    let formed = passed m 21 (refuse (full size (gain n)) 22 0) (omega arith) (unfold event_state in parts.1) in
    let room = passed (full size (gain n)) 22 0 (omega arith) formed.1 in
    chain size source n known.0 sized.0 room.0

-- so its pool gains its bytes
pub gained-pool-is : (m : Bool) (p : Hasher) (source pool : ℕ) (d : List ℕ) → event_number m p.length source pool (length d) ≡ 0
    → gained_pool p source d ≡ absorb p (event_bytes source d)
unfolding gained_pool
gained-pool-is m p source pool d e = rw (any-pool m p.length source pool (length d) e)
