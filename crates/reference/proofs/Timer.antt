-- Each call makes a pool reseed exactly when due, and only that moves the mark.
-- Assumes nothing.
use mathlib.Core.Path.{◌≡◌, refl, sym, ap, ◌∙◌}
use mathlib.Core.Bool.{Bool, true, false, cond, not, ◌&&◌, ◌||◌}
use mathlib.Core.Logic.{◌⊎◌, inl, inr, ◌≢◌}
use mathlib.Core.List.{List}
use Prim.Native.Nat.{ℕ, zero, suc, ◌≤◌, ◌<◌}
use native.Mathlib.Omega.{arith}
use lib.Dec.{eqb, leb, ltb, eqb-suc-zero}
use lib.ListN.{length}
use borrow.Author.Tests.{ltb-true, ltb-false, lt-ltb, leb-true, le-leb, eqb-true}
use Rattle.laws.proofs.Cases.{by-test, both}
use Rattle.pools.specs.declared.Fortuna.{Fortuna}
use Rattle.pools.specs.Schedule.{elapsed, is_due}
use Rattle.pools.specs.State.{pool_at, due}
use Rattle.pools.specs.Refusals.{and_then}
use Rattle.pools.specs.Effects.{Effect, unchanged, with_pool, with_generator, with_request, add_event, next_reseed, pool_reseed, reseed_if_due, emptied_by, random_data, reseed_with_seed, update_seed, write_seed}
use Rattle.pools.specs.Draws.{try_size, after, leaving, tries, shuffled, try_at}
use Rattle.pools.specs.Calls.{Call, event, request, update, write, draw, shuffle, reading_of, input_buffer, call_effect, call_found, effect_of, outcome}
use Rattle.quotas.specs.Entries.{Entry, entry_number, entry_step}
use Rattle.quotas.proofs.Entries.{entry-not-33}
use Rattle.reference.specs.Runs.{state_after}
use Rattle.pools.proofs.EachTry.{Kept, Begun, begun-tries, begun-shuffled, idle-shuffle, draw-empties, shuffle-empties}
use Rattle.pools.proofs.OneReseed.{quiet-after, first-try, first-shuffled}
use Rattle.reference.specs.Agreement.{concrete}
use Rattle.reference.specs.Timer.{reseeds_after, requests, Later, ElapsedLaw, ReseedTold, TimerStep}
use Rattle.reference.specs.Provenance.{due_for}
use Rattle.reference.proofs.Schedule.{emptied-told}
use Rattle.reference.proofs.Advances.{reseeds-after}
use Rattle.reference.proofs.Agreement.{agrees}

-- ---- the clock

pub elapsed-law : ElapsedLaw
unfolding elapsed
elapsed-law reading mark = (omega arith, omega arith)

-- no other e is
elapsed-only : (reading mark e : ℕ) → Later mark e reading → elapsed reading mark ≡ e
unfolding elapsed
elapsed-only reading mark e (h, k) = omega arith

-- ---- due, spelled out: n pool reseeds were made

Waited : ℕ → ℕ → ℕ → Type 0
Waited n mark reading = (n ≡ 0) ⊎ ((e : ℕ) × Later mark e reading × (100 < e))

waited : (n mark reading : ℕ) → (not (ltb 0 n) || ltb 100 (elapsed reading mark)) ≡ true → Waited n mark reading
unfolding Waited
waited zero mark reading h = inl refl
waited (suc n) mark reading h =
    let k : ltb 100 (elapsed reading mark) ≡ true = rw (lt-ltb 0 (suc n) (omega arith)) at h in
    inr (elapsed reading mark, elapsed-law reading mark, ltb-true 100 (elapsed reading mark) k)

or-true : (x : Bool) → (x || true) ≡ true
or-true true = refl
or-true false = refl

waited-back : (n mark reading : ℕ) → Waited n mark reading → (not (ltb 0 n) || ltb 100 (elapsed reading mark)) ≡ true
unfolding Waited
waited-back n mark reading (inl e) = rw e
waited-back n mark reading (inr (e, l, h)) = rw (elapsed-only reading mark e l, lt-ltb 100 e h) (or-true (not (ltb 0 n)))

due-says : (size n mark reading : ℕ) → is_due size (ltb 0 n) mark reading ≡ true → (64 ≤ size) × Waited n mark reading
unfolding is_due
due-says size n mark reading h =
    let p = both (leb 64 size) (not (ltb 0 n) || ltb 100 (elapsed reading mark)) h in
    (leb-true 64 size p.0, waited n mark reading p.1)

due-holds : (size n mark reading : ℕ) → 64 ≤ size → Waited n mark reading → is_due size (ltb 0 n) mark reading ≡ true
unfolding is_due
due-holds size n mark reading h w = rw (le-leb 64 size h, waited-back n mark reading w)

-- ---- one step of a state

emptied-due : (clock : ℕ) (s : Fortuna) → ltb 0 (emptied_by s clock) ≡ due s clock
unfolding emptied_by
emptied-due clock s = emptied-told (next_reseed s) (due s clock)

pub seeded-due : (s : Fortuna) (seed : List ℕ) (clock : ℕ) → due (reseed_with_seed s seed) clock ≡ due s clock
unfolding due pool_at reseed_with_seed with_generator
seeded-due s seed clock = refl

random-data-emptied : (s : Fortuna) (clock n : ℕ) → ltb 0 (random_data s clock n).emptied ≡ due s clock
unfolding random_data
random-data-emptied s clock n = emptied-due clock s

effect-emptied : (s : Fortuna) (c : Call) → ltb 0 (call_effect s c).emptied ≡ due_for s c
unfolding call_effect due_for requests reading_of
effect-emptied s (event source pool content) = refl
effect-emptied s (request clock buffer) = random-data-emptied s clock (length buffer)
effect-emptied s (update clock seed) = unfold update_seed in random-data-emptied (reseed_with_seed s seed) clock _ ∙ seeded-due s seed clock
effect-emptied s (write clock seed) = unfold write_seed in random-data-emptied s clock _
effect-emptied s (draw clock n d) =
    draw-empties (try_at clock) (λ x. emptied_by x clock) (λ x. due x clock) (emptied-due clock) (λ n d x. (first-try clock n d x).0) n d s
effect-emptied s (shuffle clock list) =
    shuffle-empties (try_at clock) (λ x. emptied_by x clock) (λ x. due x clock) (emptied-due clock) (λ l x h. (first-shuffled clock l x h).0) list s

random-data-mark : (s : Fortuna) (clock n : ℕ) → (random_data s clock n).next.last_reseed ≡ cond (due s clock) clock s.last_reseed
unfolding random_data with_request reseed_if_due
random-data-mark s clock n = go (due s clock)
  where
    go : (d : Bool) → (cond d (pool_reseed s clock) s).last_reseed ≡ cond d clock s.last_reseed
    go true = unfold pool_reseed in refl
    go false = refl

-- a draw and a shuffle: as their first try, and no try after it
module _ (clock : ℕ) where
  -- the mark where none is due, and where one is
  Unmoved : Fortuna → Effect Fortuna → Type 0
  Unmoved s e = due s clock ≡ false → (due e.next clock ≡ false) × (e.next.last_reseed ≡ s.last_reseed)

  Marked : Fortuna → Effect Fortuna → Type 0
  Marked s e = (due e.next clock ≡ false) × (e.next.last_reseed ≡ cond (due s clock) clock s.last_reseed)

  unmoved : Kept (try_at clock) Unmoved
  unfolding Unmoved try_at
  unmoved = record {
    idle = λ s l h. unfold unchanged in (h, refl);
    other = λ s e l q. unfold leaving in q;
    served = λ s h. (quiet-after s clock try_size, random-data-mark s clock try_size ∙ rw h);
    next = λ s e f q r h. unfold after in let x = q h in let y = r x.0 in (y.0, y.1 ∙ x.1);
  }

  marked : Begun (try_at clock) Marked Unmoved
  unfolding Marked Unmoved try_at
  marked = record {
    other = λ s e l q. unfold leaving in q;
    served = λ s. (quiet-after s clock try_size, random-data-mark s clock try_size);
    next = λ s e f q r. unfold after in let y = r q.0 in (y.0, y.1 ∙ q.1);
  }

  draw-mark : (n d : ℕ) (s : Fortuna)
      → (tries (try_at clock) n d s).effect.next.last_reseed ≡ cond (ltb 0 d && due s clock) clock s.last_reseed
  unfolding Marked
  draw-mark n zero s = unfold tries unchanged in refl
  draw-mark n (suc d) s = rw (lt-ltb 0 (suc d) (omega arith)) (begun-tries (try_at clock) Unmoved unmoved Marked marked n d s).1

  shuffle-mark : (list : List ℕ) (s : Fortuna)
      → (shuffled (try_at clock) list s).effect.next.last_reseed ≡ cond (ltb 1 (length list) && due s clock) clock s.last_reseed
  unfolding Marked
  shuffle-mark list s =
      by-test (ltb 1 (length list)) _
      (λ t. rw t (begun-shuffled (try_at clock) Unmoved unmoved Marked marked list s (ltb-true 1 (length list) t)).1)
      (λ t. rw (t, idle-shuffle (try_at clock) list s (ltb-false 1 (length list) t)) (unfold unchanged in refl))

effect-mark : (s : Fortuna) (c : Call) → (call_effect s c).next.last_reseed ≡ cond (due_for s c) (reading_of c) s.last_reseed
unfolding call_effect due_for requests reading_of
effect-mark s (event source pool content) = unfold add_event with_pool in refl
effect-mark s (request clock buffer) = random-data-mark s clock (length buffer)
effect-mark s (update clock seed) =
    unfold update_seed in
    random-data-mark (reseed_with_seed s seed) clock _
    ∙ rw (seeded-due s seed clock) (unfold reseed_with_seed with_generator in refl)
effect-mark s (write clock seed) = unfold write_seed in random-data-mark s clock _
effect-mark s (draw clock n d) = draw-mark clock n d s
effect-mark s (shuffle clock list) = shuffle-mark clock list s

-- a refused call does nothing
outcome-emptied : (n : ℕ) (buffer : List ℕ) (s : Fortuna) (x : Effect Fortuna) (d : Bool) → ltb 0 x.emptied ≡ d
    → ltb 0 (effect_of n buffer s x).emptied ≡ (eqb n 0 && d)
unfolding effect_of unchanged
outcome-emptied zero buffer s x d h = h
outcome-emptied (suc n) buffer s x d h = rw (eqb-suc-zero n)

outcome-mark : (n : ℕ) (buffer : List ℕ) (s : Fortuna) (x : Effect Fortuna) (d : Bool) (t : ℕ)
    → x.next.last_reseed ≡ cond d t s.last_reseed
    → (effect_of n buffer s x).next.last_reseed ≡ cond (eqb n 0 && d) t s.last_reseed
unfolding effect_of unchanged
outcome-mark zero buffer s x d t h = h
outcome-mark (suc n) buffer s x d t h = rw (eqb-suc-zero n)

-- a call is not refused exactly if its number is 0 or 33
taken : (n : ℕ) (f : Bool) → n ≡ 0 → (and_then n (cond f 0 33) ≡ 0) ⊎ (and_then n (cond f 0 33) ≡ 33)
unfolding and_then
taken n true e = inl (rw e)
taken n false e = inr (rw e)

not-refused : (n : ℕ) (f : Bool) → n ≢ 33 → (and_then n (cond f 0 33) ≡ 0) ⊎ (and_then n (cond f 0 33) ≡ 33) → n ≡ 0
unfolding and_then
not-refused zero f h e = refl
not-refused (suc n) f h (inl e) = rw (eqb-suc-zero n) at e
not-refused (suc n) f h (inr e) = let k : suc n ≡ 33 = rw (eqb-suc-zero n) at e in absurd (h k)

step-taken : (s : Fortuna) (c : Entry) → entry_number s c ≡ 0 → ((entry_step s c).number ≡ 0) ⊎ ((entry_step s c).number ≡ 33)
unfolding entry_step outcome
step-taken s c e = taken (entry_number s c) (call_found s c.call) e

step-not-refused : (s : Fortuna) (c : Entry) → ((entry_step s c).number ≡ 0) ⊎ ((entry_step s c).number ≡ 33) → entry_number s c ≡ 0
unfolding entry_step outcome
step-not-refused s c n = not-refused (entry_number s c) (call_found s c.call) (entry-not-33 s c) n

pub step-emptied : (s : Fortuna) (c : Entry) → ltb 0 (entry_step s c).effect.emptied ≡ (eqb (entry_number s c) 0 && due_for s c.call)
unfolding entry_step outcome
step-emptied s c =
    outcome-emptied (entry_number s c) (input_buffer c.call) s (call_effect s c.call) (due_for s c.call) (effect-emptied s c.call)

step-mark : (s : Fortuna) (c : Entry)
    → (entry_step s c).effect.next.last_reseed ≡ cond (ltb 0 (entry_step s c).effect.emptied) (reading_of c.call) s.last_reseed
step-mark s c =
    rw (step-emptied s c)
    (unfold entry_step outcome in outcome-mark (entry_number s c) (input_buffer c.call) s (call_effect s c.call) (due_for s c.call)
    (reading_of c.call) (effect-mark s c.call))

-- a reseed is due only for a call that makes a request
pub due-parts : (s : Fortuna) (c : Call) → due_for s c ≡ true → (requests c ≡ true) × (due s (reading_of c) ≡ true)
unfolding due_for
due-parts s c h = both (requests c) (due s (reading_of c)) h

due-whole : (s : Fortuna) (c : Call) → requests c ≡ true → due s (reading_of c) ≡ true → due_for s c ≡ true
unfolding due_for
due-whole s c h k = rw (h, k)

-- ---- after every list of calls

-- the flag says whether a pool reseed was made
pub reseeded-after : (calls : List Entry) → (state_after calls).reseeded ≡ ltb 0 (reseeds_after calls)
reseeded-after calls =
    ap (λ (s : Fortuna). s.reseeded) (agrees calls).state
    ∙ (unfold concrete in ap (λ (n : ℕ). ltb 0 n) (sym (reseeds-after calls (agrees calls).outcomes)))

due-after : (calls : List Entry) (clock : ℕ)
    → due (state_after calls) clock
    ≡ is_due (pool_at (state_after calls) 0).length (ltb 0 (reseeds_after calls)) (state_after calls).last_reseed clock
unfolding due
due-after calls clock = ap (λ (made : Bool). is_due (pool_at (state_after calls) 0).length made (state_after calls).last_reseed clock) (reseeded-after calls)

pub reseed-told : ReseedTold
reseed-told s c = (says, holds)
  where
    Told : Type 0
    Told = (entry_number s c ≡ 0) × (requests c.call ≡ true) × (due s (reading_of c.call) ≡ true)

    says : 0 < (entry_step s c).effect.emptied → Told
    says h =
        let p = both (eqb (entry_number s c) 0) (due_for s c.call) (sym (step-emptied s c) ∙ lt-ltb 0 _ h) in
        let k = due-parts s c.call p.1 in
        (eqb-true _ 0 p.0, k.0, k.1)

    holds : Told → 0 < (entry_step s c).effect.emptied
    holds (n, k, d) = ltb-true 0 _ (step-emptied s c ∙ rw (n, due-whole s c.call k d))

pub timer-step : (calls : List Entry) (c : Entry) → TimerStep calls c
timer-step calls c = record { reseeds = (says, holds); mark = step-mark s c }
  where
    s : Fortuna
    s = state_after calls

    Told : Type 0
    Told =
        (((entry_step (state_after calls) c).number ≡ 0) ⊎ ((entry_step (state_after calls) c).number ≡ 33)) × (requests c.call ≡ true)
        × (64 ≤ (pool_at (state_after calls) 0).length)
        × ((reseeds_after calls ≡ 0) ⊎ ((e : ℕ) × Later (state_after calls).last_reseed e (reading_of c.call) × (100 < e)))

    says : 0 < (entry_step (state_after calls) c).effect.emptied → Told
    says h =
        unfold Waited in
        let made = sym (step-emptied (state_after calls) c) ∙ lt-ltb 0 _ h in
        let p = both (eqb (entry_number (state_after calls) c) 0) (due_for (state_after calls) c.call) made in
        let k = due-parts (state_after calls) c.call p.1 in
        let told = sym (due-after calls (reading_of c.call)) ∙ k.1 in
        let d = due-says (pool_at (state_after calls) 0).length (reseeds_after calls) (state_after calls).last_reseed (reading_of c.call) told in
        (step-taken (state_after calls) c (eqb-true _ 0 p.0), k.0, d.0, d.1)

    holds : Told → 0 < (entry_step (state_after calls) c).effect.emptied
    holds (n, k, size, w) =
        unfold Waited in
        let clock = reading_of c.call in
        let waited = due-holds (pool_at (state_after calls) 0).length (reseeds_after calls) (state_after calls).last_reseed clock size w in
        let d : due (state_after calls) clock ≡ true = due-after calls clock ∙ waited in
        let e = step-not-refused (state_after calls) c n in
        ltb-true 0 _ (step-emptied (state_after calls) c ∙ rw (e, due-whole (state_after calls) c.call k d))
