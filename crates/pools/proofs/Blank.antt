-- Blank flash: 36 refuses an update of 64 equal bytes and no other call; other updates and writes go by size and state alone.
-- Assumes nothing.
use Rattle.std.proofs.Common.{◌≡◌, ℕ, zero, suc, Bool, true, false, cond, not, eqb, ◌≢◌, List, [], length, get_or, replicate, sym, ap, ◌∙◌, arith, lit≤}
use lib.Dec.{eqb-suc-zero}
use lib.ListN.{get_or-replicate}
use Rattle.laws.specs.Lists.{count_of}
use Rattle.laws.specs.Refusals.{refuse}
use Rattle.laws.proofs.Cases.{by-test}
use Rattle.laws.proofs.Lists.{same_list-refl, same_list-equal}
use Rattle.pools.specs.declared.Fortuna.{Fortuna}
use Rattle.pools.specs.State.{counter_of, malformed, due}
use Rattle.pools.specs.Refusals.{and_then, seed_size, spent, seed_input, blank, update_input, update_state, update_number, write_number}
use Rattle.pools.specs.Effects.{unchanged}
use Rattle.pools.specs.Calls.{Call, event, request, update, write, draw, shuffle, input_buffer, call_number, call_effect, call_found, effect_of, outcome, step}
use Rattle.pools.specs.Promises.{call_numbers}
use Rattle.pools.proofs.Bounds.{call-numbers}
use Rattle.pools.proofs.Chains.{then-nothing}
use Rattle.pools.specs.Blank.{blank_update, BlankLaw}

-- ---- a page is blank exactly if it is 64 times one byte

blank-page : (b : ℕ) → blank (replicate 64 b) ≡ true
unfolding blank seed_size
blank-page b = rw (get_or-replicate 64 0 b 0 (lit≤ tt)) (same_list-refl (replicate 64 b))

blank-is : (seed : List ℕ) → blank seed ≡ true → seed ≡ replicate 64 (get_or seed 0 0)
unfolding blank seed_size
blank-is seed h = same_list-equal seed (replicate 64 (get_or seed 0 0)) h

pub not-blank : (seed : List ℕ) → ((b : ℕ) → seed ≢ replicate 64 b) → blank seed ≡ false
not-blank seed h = by-test (blank seed) (blank seed ≡ false) (λ t. absurd (h (get_or seed 0 0) (blank-is seed t))) (λ t. t)

-- ---- the number of an update

pub page-input : (b : ℕ) → update_input (replicate 64 b) ≡ 36
unfolding update_input seed_input seed_size and_then
page-input b = rw (blank-page b)

page-number : (m : Bool) (c : ℕ) (d : Bool) (b : ℕ) → update_number m c d (replicate 64 b) ≡ 36
unfolding update_number and_then
page-number m c d b = rw (page-input b)

other-number : (m : Bool) (c : ℕ) (d : Bool) (seed : List ℕ) → blank seed ≡ false
    → update_number m c d seed ≡ and_then (seed_input seed) (update_state m c d)
unfolding update_number update_input seed_input and_then
other-number m c d seed h =
    by-test (eqb (length seed) seed_size) (update_number m c d seed ≡ and_then (seed_input seed) (update_state m c d)) (λ t. rw (t, h)) (λ t. rw t)

not-by-36 : (size malformed spent : Bool) → and_then (refuse size 15 0) (refuse malformed 21 (refuse spent 24 0)) ≢ 36
unfolding and_then
not-by-36 true m x e = omega (arith, e)
not-by-36 false true x e = omega (arith, e)
not-by-36 false false true e = omega (arith, e)
not-by-36 false false false e = omega (arith, e)

other-not-by-36 : (m : Bool) (c : ℕ) (d : Bool) (seed : List ℕ) → and_then (seed_input seed) (update_state m c d) ≢ 36
unfolding seed_input update_state
other-not-by-36 m c d seed = not-by-36 (not (eqb (length seed) seed_size)) m (spent c d 7)

-- ---- which calls 36 refuses

-- 36 comes of the check, not of the tries
pub from-check : (n : ℕ) (found : Bool) → and_then n (cond found 0 33) ≡ 36 → n ≡ 36
unfolding and_then
from-check zero true e = absurd (omega (arith, e))
from-check zero false e = absurd (omega (arith, e))
from-check (suc n) found e = rw (eqb-suc-zero n) at e

-- the list of each call's numbers tells
listed-by-36 : (s : Fortuna) (c : Call) → call_number s c ≡ 36 → count_of 36 (call_numbers c) ≡ 1
listed-by-36 s c e = rw e at (call-numbers s c)

check-only : (s : Fortuna) (c : Call) → call_number s c ≡ 36 → (clock : ℕ) × (b : ℕ) × (c ≡ blank_update clock b)
unfolding call_number count_of call_numbers
check-only s (event source pool content) e = absurd (omega (arith, listed-by-36 s (event source pool content) e))
check-only s (request clock buffer) e = absurd (omega (arith, listed-by-36 s (request clock buffer) e))
check-only s (update clock seed) e =
    by-test (blank seed) ((clock' : ℕ) × (b : ℕ) × (update clock seed ≡ blank_update clock' b))
    (λ t. (clock, get_or seed 0 0, ap (update clock) (blank-is seed t)))
    (λ t. absurd (other-not-by-36 _ _ _ seed (sym (other-number _ _ _ seed t) ∙ e)))
check-only s (write clock seed) e = absurd (omega (arith, listed-by-36 s (write clock seed) e))
check-only s (draw clock n d) e = absurd (omega (arith, listed-by-36 s (draw clock n d) e))
check-only s (shuffle clock list) e = absurd (omega (arith, listed-by-36 s (shuffle clock list) e))

step-only : (s : Fortuna) (c : Call) → (step s c).number ≡ 36 → (clock : ℕ) × (b : ℕ) × (c ≡ blank_update clock b)
unfolding step outcome
step-only s c e = check-only s c (from-check (call_number s c) (call_found s c) e)

page-check : (s : Fortuna) (clock b : ℕ) → call_number s (blank_update clock b) ≡ 36
unfolding call_number
page-check s clock b = page-number (malformed s) (counter_of s) (due s clock) b

page-step : (s : Fortuna) (c : Call) → (clock : ℕ) × (b : ℕ) × (c ≡ blank_update clock b) → (step s c).number ≡ 36
unfolding step outcome and_then
page-step s c (clock, b, e) = rw (e, page-check s clock b)

page-effect : (s : Fortuna) (clock b : ℕ)
    → (step s (blank_update clock b)).effect ≡ record { emptied = 0; buffer = replicate 64 b; next = s; trace = [] }
unfolding step outcome effect_of unchanged input_buffer
page-effect s clock b = rw (page-check s clock b)

-- ---- writes

write-number : (m : Bool) (c : ℕ) (d : Bool) (held other : List ℕ) → length held ≡ length other → write_number m c d held ≡ write_number m c d other
unfolding write_number seed_input
write-number m c d held other e = rw e

write-check : (s : Fortuna) (clock : ℕ) (held other : List ℕ) → length held ≡ length other
    → call_number s (write clock held) ≡ call_number s (write clock other)
unfolding call_number
write-check s clock held other e = write-number (malformed s) (counter_of s) (due s clock) held other e

write_step : (s : Fortuna) (clock : ℕ) (held other : List ℕ) → length held ≡ length other
    → (step s (write clock held)).number ≡ (step s (write clock other)).number
unfolding step outcome call_found
write_step s clock held other e = rw (write-check s clock held other e)

write-effect : (s : Fortuna) (clock : ℕ) (held other : List ℕ) → length held ≡ length other
    → (step s (write clock held)).number ≡ 0 → (step s (write clock held)).effect ≡ (step s (write clock other)).effect
unfolding step outcome call_found call_effect effect_of
write-effect s clock held other e n =
    let same = write-check s clock held other e in
    let accepted : call_number s (write clock other) ≡ 0 = sym same ∙ sym (then-nothing (call_number s (write clock held))) ∙ n in
    rw (same, accepted)

pub blank-law : BlankLaw
blank-law =
    record {
      refused = λ s c. (step-only s c, page-step s c);
      untouched = page-effect;
      others = λ s clock seed h. unfold call_number in other-number (malformed s) (counter_of s) (due s clock) seed (not-blank seed h);
      writes = λ s clock held other e. (write_step s clock held other e, write-effect s clock held other e);
    }
