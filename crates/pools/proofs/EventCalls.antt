-- An event, where the code reads pool i modulo 32: with no such pool the answer does not depend on what it reads.
-- Assumes nothing.
use Rattle.std.proofs.Common.{◌≡◌, ℕ, ◌+◌, ◌%◌, ◌<◌, ◌≤◌, Bool, true, false, eqb, List, [], length, set, sym, refl, ap, ◌∙◌, mod-eq_of_lt, arith, get_or-set_same, eqb-true}
use lib.Seq.{set-get_or}
use Rattle.hash.specs.Hasher.{absorb}
use Rattle.hash.specs.ShaD.{max_pool_length}
use Rattle.hash.specs.declared.hasher.Hasher.{Hasher}
use Rattle.pools.specs.Events.{max_source, pool_count, max_data, event_bytes, gain}
use Rattle.pools.specs.State.{pool_at, malformed}
use Rattle.pools.specs.Refusals.{event_number}
use Rattle.pools.specs.Effects.{with_pool, add_event}
use Rattle.pools.specs.Calls.{event, call_number, call_effect, step}
use Rattle.pools.specs.declared.Fortuna.{Fortuna}
use Rattle.pools.proofs.Acceptance.{EventPassed, event-passed, event-room, event-size}
use Rattle.pools.proofs.Outcomes.{gives-done, gives-kept}

in-range : (pool : ℕ) → pool < pool_count → pool % 32 ≡ pool
unfolding pool_count
in-range pool h = mod-eq_of_lt h

-- the pool that a store leaves at its place
pool-stored : (s : Fortuna) (i : ℕ) (q : Hasher) → length s.pools ≡ 32 → i < 32 → pool_at (with_pool s i q) i ≡ q
unfolding pool_at with_pool
pool-stored s i q long h = get_or-set_same s.pools i q _ (rw long h)

-- a store of the pool that stands there changes nothing
pub pool-kept : (s : Fortuna) (i : ℕ) → with_pool s i (pool_at s i) ≡ s
unfolding pool_at with_pool
pool-kept s i = rw (set-get_or s.pools i (record { chain = []; tail = []; length = 0 }))

-- k is the number that the code came to
module _ (s : Fortuna) (source pool : ℕ) (d : List ℕ) (m : Bool) (k : ℕ) (formed : m ≡ malformed s)
    (numbered : k ≡ event_number m (pool_at s (pool % 32)).length source pool (length d)) where
  same_size : pool < pool_count → (pool_at s (pool % 32)).length ≡ (pool_at s pool).length
  same_size h = ap (λ (i : ℕ). (pool_at s i).length) (in-range pool h)

  pub event-number : k ≡ call_number s (event source pool d)
  unfolding call_number
  event-number = numbered ∙ event-size m _ _ source pool (length d) same_size ∙ rw formed

  module _ (accepted : eqb k 0 ≡ true) where
    none : event_number m (pool_at s (pool % 32)).length source pool (length d) ≡ 0
    none = sym numbered ∙ eqb-true k 0 accepted

    passed : EventPassed source pool (length d)
    passed = event-passed m _ source pool (length d) none

    pub event-asks : (source ≤ max_source) × (length d ≤ max_data) × ((pool_at s (pool % 32)).length + gain (length d) ≤ max_pool_length)
    event-asks = (passed.known, passed.short, event-room m _ source pool (length d) none)

    pub event-effect : (q : Hasher) → q ≡ absorb (pool_at s (pool % 32)) (event_bytes source d)
        → (0 ≡ (call_effect s (event source pool d)).emptied)
        × (◌≡◌ {A = Fortuna}
        (record {
          generator = s.generator;
          pools = set s.pools (pool % 32) q;
          last_reseed = s.last_reseed;
          reseed_count = s.reseed_count;
          reseeded = s.reseeded;
          key_requests = s.key_requests;
        })
        (call_effect s (event source pool d)).next)
        × ([] ≡ (call_effect s (event source pool d)).buffer)
    unfolding call_effect add_event with_pool
    event-effect q e = (refl, rw (e, in-range pool passed.place), refl)

  -- t is the code's test for an event that is done: the pool gained, or is the one that stands there
  module _ (t : Bool) (tested : t ≡ eqb k 0) where
    abbrev Comes : Hasher → Type 0
    Comes q =
        let after = (step s (event source pool d)).effect in
        (k ≡ (step s (event source pool d)).number) × (after.emptied ≡ 0) × (pool % 32 ≡ pool % pool_count)
        × (with_pool s (pool % 32) q ≡ after.next) × (q ≡ pool_at after.next (pool % pool_count))

    pub comes-gained : length s.pools ≡ 32 → t ≡ true → (q : Hasher) → q ≡ absorb (pool_at s (pool % 32)) (event_bytes source d) → Comes q
    unfolding with_pool pool_count
    comes-gained long h q e =
        let given = (gives-done s (event source pool d) k t event-number tested tt 0 _ [] h (event-effect (sym tested ∙ h) q e)).0 in
        (given.0, sym given.1, refl, given.2, rw (← given.2) (sym (pool-stored s (pool % 32) q long (omega arith))))

    pub comes-kept : t ≡ false → (q : Hasher) → q ≡ pool_at s (pool % 32) → Comes q
    unfolding pool_count
    comes-kept h q e =
        let given = (gives-kept s (event source pool d) k t event-number tested tt h).0 in
        (given.0, sym given.1, refl, rw (e, pool-kept s (pool % 32)) given.2, rw (← given.2) e)

-- the place is one of the pools
pub gain-place : (pool place : ℕ) → place ≡ pool % pool_count → place < 32
unfolding pool_count
gain-place pool place e = omega arith
