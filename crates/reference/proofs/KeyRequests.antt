-- The number of requests on one key is the count of those made since the last pool reseed.
-- Assumes nothing.
use mathlib.Core.Path.{◌≡◌, refl, ap, ◌∙◌}
use mathlib.Core.Bool.{Bool, true, false, cond, ◌&&◌}
use mathlib.Core.List.{List, [], ◌∷◌, ◌++◌}
use Prim.Native.Nat.{ℕ, zero, suc, ◌+◌, ◌-◌, ◌≤◌, ◌<◌, min}
use native.Mathlib.Nat.{add-zero}
use native.Mathlib.Omega.{arith}
use lib.Dec.{eqb, ltb, eqb-suc-zero}
use lib.ListN.{length, length-append}
use borrow.Author.Tests.{ltb-true, ltb-false, lt-ltb}
use Rattle.laws.specs.Refusals.{guarded}
use Rattle.laws.proofs.Cases.{by-test, split}
use Rattle.slots.specs.Fair.{try_value}
use Rattle.slots.specs.Shuffle.{exchange}
use Rattle.pools.specs.declared.Fortuna.{Fortuna}
use Rattle.pools.specs.Schedule.{max_key_requests, count_request}
use Rattle.pools.specs.State.{fresh, due}
use Rattle.pools.specs.Refusals.{seed_size, max_tries}
use Rattle.pools.specs.Effects.{Effect, unchanged, with_pool, with_generator, with_request, add_event, pool_reseed, reseed_if_due, random_data, reseed_with_seed, update_seed, write_seed}
use Rattle.pools.specs.Draws.{Drawn, try_size, after, leaving, tries, shuffle_from, shuffled, try_at}
use Rattle.pools.specs.Calls.{Call, event, request, update, write, draw, shuffle, reading_of, input_buffer, call_effect, effect_of, outcome, state_from}
use Rattle.quotas.specs.Entries.{Entry, entry_number, entry_step}
use Rattle.reference.specs.Runs.{state_after}
use Rattle.pools.specs.Tries.{draw_tries, shuffle_tries, call_tries}
use Rattle.pools.proofs.EachTry.{Kept, Begun, begun-tries, begun-shuffled, idle-shuffle}
use Rattle.pools.proofs.OneReseed.{quiet-after}
use Rattle.reference.specs.Timer.{requests}
use Rattle.reference.specs.Provenance.{due_for}
use Rattle.reference.specs.KeyRequests.{requests_of, requests_made, since_reseed, OnOneKey, CountStep}
use Rattle.reference.proofs.Simulation.{count-concrete}
use Rattle.reference.proofs.Timer.{seeded-due, step-emptied}

-- ---- a request, and tries at one reading

module _ (clock : ℕ) where
  -- the number on the key once a due reseed was made
  abbrev Holds : Fortuna → ℕ → Type 0
  Holds s k = (reseed_if_due s clock).key_requests ≡ min max_key_requests k

  -- the key that a request finds: anew where a reseed is due
  holds-start : (s : Fortuna) (n : ℕ) → s.key_requests ≡ min max_key_requests n → Holds s (cond (due s clock) 0 n)
  unfolding reseed_if_due max_key_requests
  holds-start s n e = go (due s clock)
    where
      go : (d : Bool) → (cond d (pool_reseed s clock) s).key_requests ≡ min max_key_requests (cond d 0 n)
      go true = unfold pool_reseed in refl
      go false = e

  -- a request is one more
  one_more : (s : Fortuna) (n k : ℕ) → Holds s k → (random_data s clock n).next.key_requests ≡ min max_key_requests (k + 1)
  unfolding random_data with_request count_request
  one_more s n k h = rw h (count-concrete max_key_requests k)

  quiet-holds : (s : Fortuna) (k : ℕ) → due s clock ≡ false → s.key_requests ≡ min max_key_requests k → Holds s k
  unfolding reseed_if_due
  quiet-holds s k q e = rw q e

  try_holds : (s : Fortuna) (k : ℕ) → Holds s k → Holds (try_at clock s).next (k + 1)
  unfolding try_at
  try_holds s k h = quiet-holds _ (k + 1) (quiet-after s clock try_size) (one_more s try_size k h)

  -- a draw and a shuffle: one more for each try
  draw-holds :
      (b d : ℕ) (s : Fortuna) (k : ℕ) → Holds s k →
      Holds (tries (try_at clock) b d s).effect.next (k + length (draw_tries (try_at clock) b d s))
  unfolding unchanged leaving after tries draw_tries
  draw-holds b zero s k h = rw (add-zero k) h
  draw-holds b (suc d) s k h =
      let e = try_at clock s in
      let rest = length (draw_tries (try_at clock) b d e.next) in
      by-test (ltb (try_value b e.buffer) b) _
      (λ t. rw t (try_holds s k h))
      (λ t.
      let more = draw-holds b d e.next (k + 1) (try_holds s k h) in
      let sum : k + 1 + rest ≡ k + suc rest = omega arith in
      rw (t, ← sum) more)

  shuffle-holds :
      (p : ℕ) (list : List ℕ) (s : Fortuna) (k : ℕ) → Holds s k →
      Holds (shuffle_from (try_at clock) p list s).effect.next (k + length (shuffle_tries (try_at clock) p list s))
  unfolding unchanged leaving after shuffle_from shuffle_tries
  shuffle-holds zero list s k h = rw (add-zero k) h
  shuffle-holds (suc p) list s k h =
      let d = tries (try_at clock) (suc p + 1) max_tries s in
      let made = draw_tries (try_at clock) (suc p + 1) max_tries s in
      let drawn = draw-holds (suc p + 1) max_tries s k h in
      by-test d.found _
      (λ t.
      let rest = shuffle_tries (try_at clock) p (exchange (suc p) d.value list) d.effect.next in
      let more = shuffle-holds p (exchange (suc p) d.value list) d.effect.next (k + length made) drawn in
      let sum : k + length made + length rest ≡ k + length (made ++ rest) = omega (arith, length-append made rest) in
      rw (t, ← sum) more)
      (λ t.
      let sum : k + length made ≡ k + length (made ++ []) = omega (arith, length-append made []) in
      rw (t, ← sum) drawn)

  shuffled-holds :
      (list : List ℕ) (s : Fortuna) (k : ℕ) → Holds s k →
      Holds (shuffled (try_at clock) list s).effect.next (k + length (shuffle_tries (try_at clock) (length list - 1) list s))
  unfolding shuffled
  shuffled-holds list s k h =
      let o = shuffle_from (try_at clock) (length list - 1) list s in
      let count = k + length (shuffle_tries (try_at clock) (length list - 1) list s) in
      split (λ (x : Drawn Fortuna). (reseed_if_due x.effect.next clock).key_requests ≡ min max_key_requests count) o.found
      (λ t. shuffle-holds (length list - 1) list s k h)
      (λ t. unfold leaving in shuffle-holds (length list - 1) list s k h)

  -- after a try none is due, so the number stands in the state itself
  Still : Fortuna → Effect Fortuna → Type 0
  Still s e = due s clock ≡ false → due e.next clock ≡ false

  Quiet : Fortuna → Effect Fortuna → Type 0
  Quiet s e = due e.next clock ≡ false

  still : Kept (try_at clock) Still
  unfolding Still try_at
  still = record {
    idle = λ s l h. unfold unchanged in h;
    other = λ s e l q. unfold leaving in q;
    served = λ s h. quiet-after s clock try_size;
    next = λ s e f q r h. unfold after in r (q h);
  }

  quiet : Begun (try_at clock) Quiet Still
  unfolding Still Quiet try_at
  quiet = record {
    other = λ s e l q. unfold leaving in q;
    served = λ s. quiet-after s clock try_size;
    next = λ s e f q r. unfold after in r q;
  }

  held : (s : Fortuna) (k : ℕ) → due s clock ≡ false → Holds s k → s.key_requests ≡ min max_key_requests k
  unfolding reseed_if_due
  held s k q h = rw q at h

  draw-counts :
      (b d : ℕ) (s : Fortuna) (k : ℕ) → Holds s k →
      (tries (try_at clock) b (suc d) s).effect.next.key_requests ≡ min max_key_requests (k + length (draw_tries (try_at clock) b (suc d) s))
  unfolding Quiet
  draw-counts b d s k h = held _ _ (begun-tries (try_at clock) Still still Quiet quiet b d s) (draw-holds b (suc d) s k h)

  shuffle-counts :
      (list : List ℕ) (s : Fortuna) (k : ℕ) → 1 < length list → Holds s k →
      (shuffled (try_at clock) list s).effect.next.key_requests
      ≡ min max_key_requests (k + length (shuffle_tries (try_at clock) (length list - 1) list s))
  unfolding Quiet
  shuffle-counts list s k l h = held _ _ (begun-shuffled (try_at clock) Still still Quiet quiet list s l) (shuffled-holds list s k h)

-- ---- a call

module _ (s : Fortuna) (n : ℕ) (before : s.key_requests ≡ min max_key_requests n) where
  few-tries : (clock : ℕ) (list : List ℕ) → length list ≤ 1 → shuffle_tries (try_at clock) (length list - 1) list s ≡ []
  few-tries clock list h = let none : length list - 1 ≡ 0 = omega arith in rw none (unfold shuffle_tries in refl)

  draw-effect :
      (clock b d : ℕ) →
      (tries (try_at clock) b d s).effect.next.key_requests
      ≡ min max_key_requests (cond (ltb 0 d && due s clock) 0 n + length (draw_tries (try_at clock) b d s))
  draw-effect clock b zero = unfold tries draw_tries unchanged in rw (add-zero n) before
  draw-effect clock b (suc d) = rw (lt-ltb 0 (suc d) (omega arith)) (draw-counts clock b d s _ (holds-start clock s n before))

  shuffle-effect :
      (clock : ℕ) (list : List ℕ) →
      (shuffled (try_at clock) list s).effect.next.key_requests
      ≡ min max_key_requests (cond (ltb 1 (length list) && due s clock) 0 n + length (shuffle_tries (try_at clock) (length list - 1) list s))
  shuffle-effect clock list =
      by-test (ltb 1 (length list)) _
      (λ t. rw t (shuffle-counts clock list s _ (ltb-true 1 (length list) t) (holds-start clock s n before)))
      (λ t.
      let few = ltb-false 1 (length list) t in
      rw (t, idle-shuffle (try_at clock) list s few, few-tries clock list few) (unfold unchanged in rw (add-zero n) before))

  effect-counts : (c : Call) → (call_effect s c).next.key_requests ≡ min max_key_requests (cond (due_for s c) 0 n + requests_of s c)
  unfolding call_effect due_for requests reading_of requests_of call_tries
  effect-counts (event source pool content) = unfold add_event with_pool in rw (add-zero n) before
  effect-counts (request clock buffer) = one_more clock s _ _ (holds-start clock s n before)
  effect-counts (update clock seed) =
      rw (← seeded-due s seed clock)
      (unfold update_seed in
      one_more clock (reseed_with_seed s seed) seed_size _ (holds-start clock (reseed_with_seed s seed) n (unfold reseed_with_seed with_generator in before)))
  effect-counts (write clock seed) = unfold write_seed in one_more clock s seed_size _ (holds-start clock s n before)
  effect-counts (draw clock b d) = draw-effect clock b d ∙ ap (min max_key_requests) (omega arith)
  effect-counts (shuffle clock list) = shuffle-effect clock list ∙ ap (min max_key_requests) (omega arith)

  -- refused or not
  outcome-counts :
      (m : ℕ) (buffer : List ℕ) (x : Effect Fortuna) (d : Bool) (k : ℕ) → x.next.key_requests ≡ min max_key_requests (cond d 0 n + k) →
      (effect_of m buffer s x).next.key_requests ≡ min max_key_requests (cond (eqb m 0 && d) 0 n + guarded m k 0)
  unfolding effect_of
  outcome-counts zero buffer x d k h = h
  outcome-counts (suc m) buffer x d k h = rw (eqb-suc-zero m) (unfold unchanged in rw (add-zero n) before)

  step_counts :
      (e : Entry) →
      (entry_step s e).effect.next.key_requests ≡ min max_key_requests (cond (ltb 0 (entry_step s e).effect.emptied) 0 n + requests_made s e)
  unfolding requests_made
  step_counts e =
      let c = e.call in
      rw (step-emptied s e)
      (unfold entry_step outcome in
      outcome-counts (entry_number s e) (input_buffer c) (call_effect s c) (due_for s c) (requests_of s c) (effect-counts c))

-- ---- a run

run-counts :
    (calls : List Entry) (place : ℕ) (s : Fortuna) (n : ℕ) → s.key_requests ≡ min max_key_requests n →
    (state_from (λ place. entry_step) place s calls).key_requests ≡ min max_key_requests (since_reseed n s calls)
unfolding state_from since_reseed
run-counts [] place s n e = e
run-counts (c ∷ calls) place s n e =
    run-counts calls (suc place) (entry_step s c).effect.next _ (step_counts s n e c ∙ ap (min max_key_requests) (omega arith))

pub on-one-key : (calls : List Entry) → OnOneKey calls
unfolding state_after fresh max_key_requests
on-one-key calls = run-counts calls 0 fresh 0 refl

pub count-step : CountStep
unfolding max_key_requests
count-step s c n before = step_counts s n before c
