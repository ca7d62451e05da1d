-- Blank flash with and without a list.
-- Assumes nothing.
use mathlib.Core.Path.{◌≡◌, sym, ap, ◌∙◌}
use mathlib.Core.Bool.{false, cond}
use mathlib.Core.Logic.{◌≢◌}
use mathlib.Core.List.{List, []}
use Prim.Native.Nat.{ℕ}
use native.Mathlib.Omega.{arith}
use lib.Dec.{eqb}
use lib.ListN.{length, replicate}
use borrow.Author.Tests.{eqb-true, eqb-false}
use Rattle.laws.proofs.Cases.{by-test}
use Rattle.pools.specs.declared.Fortuna.{Fortuna}
use Rattle.pools.specs.State.{counter_of, malformed, due}
use Rattle.pools.specs.Refusals.{and_then, seed_input, blank, update_input, update_state}
use Rattle.pools.specs.Effects.{unchanged}
use Rattle.pools.specs.Calls.{Call, update, write, input_buffer, input_number, state_number, call_number, call_effect, call_found, call_value, effect_of, Outcome, outcome, step}
use Rattle.pools.specs.Blank.{blank_update}
use Rattle.pools.proofs.Blank.{not-blank, page-input, from-check, blank-law}
use Rattle.pools.proofs.Chains.{then-nothing, then-first, then-second, call-chains}
use Rattle.pools.proofs.Outcomes.{outcome-refused}
use Rattle.quotas.specs.Entries.{Quotas, without, within, Entry, taking, list_number, entry_number, entry_step}
use Rattle.quotas.proofs.Entries.{entry-number, list-holds}
use Rattle.reference.specs.BlankPages.{BlankPages}

-- ---- which calls 36 refuses

-- of three chains of which the second never gives 36
own-36 : (i l k : ℕ) → l ≢ 36 → (i ≢ 0 → k ≡ i) → and_then i (and_then l k) ≡ 36 → k ≡ 36
own-36 i l k h same e =
    by-test (eqb i 0) (k ≡ 36)
    (λ t.
    let later : and_then l k ≡ 36 = sym (then-second i (and_then l k) (eqb-true i 0 t)) ∙ e in
    by-test (eqb l 0) (k ≡ 36)
    (λ u. sym (then-second l k (eqb-true l 0 u)) ∙ later)
    (λ u. absurd (h (sym (then-first l k (eqb-false l 0 u)) ∙ later))))
    (λ t. let some = eqb-false i 0 t in same some ∙ sym (then-first i (and_then l k) some) ∙ e)

call-36 : (s : Fortuna) (e : Entry) → entry_number s e ≡ 36 → call_number s e.call ≡ 36
call-36 s e h =
    let c = e.call in
    own-36 (input_number c) (list_number e.quotas c) (call_number s c)
    (list-holds (λ (n : ℕ). n ≢ 36) (λ z. omega (arith, z)) (λ z. omega (arith, z)) (λ z. omega (arith, z)) (λ z. omega (arith, z)) e.quotas c)
    (λ some. call-chains s c ∙ then-first (input_number c) (state_number s c) some)
    (sym (entry-number s e) ∙ h)

step-36 : (s : Fortuna) (c : Call) → call_number s c ≡ 36 → (step s c).number ≡ 36
unfolding step outcome
step-36 s c h = rw h (then-first 36 (cond (call_found s c) 0 33) (λ z. omega (arith, z)))

by-36 : (s : Fortuna) (e : Entry) → (entry_step s e).number ≡ 36 → (clock : ℕ) × (b : ℕ) × (e.call ≡ blank_update clock b)
unfolding entry_step outcome
by-36 s e h = (blank-law.refused s e.call).0 (step-36 s e.call (call-36 s e (from-check (entry_number s e) (call_found s e.call) h)))

-- ---- what a blank page leaves

page-number : (s : Fortuna) (q : Quotas) (clock b : ℕ) → entry_number s (taking q (blank_update clock b)) ≡ 36
unfolding entry_number input_number
page-number s q clock b = rw (page-input b) (then-first 36 _ (λ z. omega (arith, z)))

page-outcome : (s : Fortuna) (q : Quotas) (clock b : ℕ)
    → entry_step s (taking q (blank_update clock b)) ≡ record { number = 36; value = 0; effect = unchanged (replicate 64 b) s }
unfolding entry_step input_buffer
page-outcome s q clock b =
    let c = blank_update clock b in
    rw (page-number s q clock b)
    (outcome-refused 36 (call_found s c) (call_value s c) (replicate 64 b) s (call_effect s c) (λ z. omega (arith, z)))

page-refused : (s : Fortuna) (e : Entry) (clock b : ℕ) → e.call ≡ blank_update clock b → (entry_step s e).number ≡ 36
page-refused s e clock b is =
    ap (λ (c : Call). (entry_step s (taking e.quotas c)).number) is ∙ ap (λ (o : Outcome Fortuna). o.number) (page-outcome s e.quotas clock b)

page-left : (s : Fortuna) (q : Quotas) (clock b : ℕ)
    → (entry_step s (taking q (blank_update clock b))).effect ≡ record { emptied = 0; buffer = replicate 64 b; next = s; trace = [] }
unfolding unchanged
page-left s q clock b = ap (λ (o : Outcome Fortuna). o.effect) (page-outcome s q clock b)

-- ---- other updates, and writes

other-input : (seed : List ℕ) → blank seed ≡ false → update_input seed ≡ seed_input seed
unfolding update_input
other-input seed h = rw h (then-nothing (seed_input seed))

other-number : (s : Fortuna) (q : Quotas) (clock : ℕ) (seed : List ℕ) → blank seed ≡ false
    → entry_number s (taking q (update clock seed))
    ≡ and_then (seed_input seed) (and_then (list_number q (update clock seed)) (update_state (malformed s) (counter_of s) (due s clock)))
unfolding entry_number input_number state_number
other-number s q clock seed h = rw (other-input seed h)

write-number : (s : Fortuna) (q : Quotas) (clock : ℕ) (held other : List ℕ) → length held ≡ length other
    → entry_number s (taking q (write clock held)) ≡ entry_number s (taking q (write clock other))
unfolding entry_number input_number state_number list_number seed_input
write-number s without clock held other h = rw h
write-number s (within rs) clock held other h = rw h

write-answer : (s : Fortuna) (q : Quotas) (clock : ℕ) (held : List ℕ)
    → (entry_step s (taking q (write clock held))).number ≡ entry_number s (taking q (write clock held))
unfolding entry_step outcome call_found
write-answer s q clock held = then-nothing (entry_number s (taking q (write clock held)))

write_done : (s : Fortuna) (q : Quotas) (clock : ℕ) (held : List ℕ) → entry_number s (taking q (write clock held)) ≡ 0
    → (entry_step s (taking q (write clock held))).effect ≡ call_effect s (write clock [])
unfolding entry_step outcome effect_of call_effect
write_done s q clock held h = rw h

pub blank-pages : BlankPages
blank-pages =
    record {
      refused = λ s e. (by-36 s e, λ h. page-refused s e h.0 h.1 h.2);
      untouched = page-left;
      others = λ s q clock seed h. other-number s q clock seed (not-blank seed h);
      writes = λ s q clock held other h.
          let same = write-number s q clock held other h in
          let answered = write-answer s q clock held ∙ same ∙ sym (write-answer s q clock other) in (
            answered,
            λ z.
                let held-done = sym (write-answer s q clock held) ∙ z in
                write_done s q clock held held-done ∙ sym (write_done s q clock other (sym same ∙ held-done)),
          );
    }
