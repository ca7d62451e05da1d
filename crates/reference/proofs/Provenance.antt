-- At which pool reseed the bytes of each event enter the key.
-- Assumes nothing.
use mathlib.Core.Path.{◌≡◌, refl, sym, ap, subst, subst₂, ◌∙◌}
use mathlib.Core.Logic.{◌↔◌}
use mathlib.Core.Bool.{Bool, false, true, cond, ◌&&◌}
use mathlib.Core.List.{List, [], ◌∷◌, ◌++◌, append-nil}
use Prim.Native.Nat.{ℕ, suc, ◌*◌, ◌^◌, ◌≤◌, ◌<◌}
use native.Mathlib.Omega.{arith}
use lib.Dec.{ltb, eqb}
use lib.ListN.{length}
use Rattle.generator.specs.Steps.{decode, encode, reseed}
use Rattle.generator.specs.declared.Generator.{Generator}
use Rattle.pools.specs.declared.Fortuna.{Fortuna}
use Rattle.pools.specs.Events.{pool_count, event_bytes}
use Rattle.pools.specs.State.{pool_at, due}
use Rattle.pools.specs.Effects.{next_reseed, digests, with_generator, pool_reseed, reseed_with_seed}
use Rattle.pools.specs.Calls.{Call, event, request, update, write, draw, shuffle, reading_of}
use Rattle.quotas.specs.Entries.{Quotas, Entry, entry_number, entry_step, taking}
use Rattle.reference.specs.Runs.{state_after}
use Rattle.reference.specs.Reference.{Accepted, due_at, scheduled_reseed, scheduled, reference_number, reference_after, reference_entry_number}
use Rattle.reference.specs.Timer.{reseeds_after}
use Rattle.reference.specs.Provenance.{Traced, traced_fresh, next_uses, traced_reseed, traced_accepted, traced_step, traced_from, traced}
use Rattle.reference.specs.Provenance.{Piece, piece_of, due_for, Faithful, at_reseed, made_from, TakenFrom, reseeded_by, EntersKey, EntersAt, EventEnters, NoEvent, OthersNever, Provenance}
use Rattle.pools.proofs.Acceptance.{event-passed}
use Rattle.reference.proofs.Agreement.{entry-agrees, sound-after, agrees, own-accepted}
use Rattle.reference.proofs.Advances.{reseeds-after}
use Rattle.reference.proofs.Places.{none-at, event-listed, event-alone}
use Rattle.reference.proofs.Uses.{entering-booked, booked-enters}
use Rattle.reference.proofs.Concrete.{due-concrete}
use Rattle.reference.proofs.Timer.{due-parts, step-emptied}
use Rattle.reference.proofs.Keys.{takes}
use Rattle.reference.proofs.Tracing.{Tied, tied-string, tied-digests, run-tied, run-state}

-- the pool reseeds of a run are the model's R
pub same-reseeds : (calls : List Entry) → reseeds_after calls ≡ (reference_after calls).reseeds
same-reseeds calls = reseeds-after calls (agrees calls).outcomes

-- ---- erasing the tags gives the station's own

pub faithful : (calls : List Entry) → Faithful calls
faithful calls =
    record {
      state = run-state calls;
      reseeds = t.tags.reseeds ∙ sym (same-reseeds calls);
      strings = λ i h. ap (λ (s : Fortuna). pool_at s i) (sym (run-state calls)) ∙ tied-string (traced calls) (reference_after calls) t i h;
      hashes = ap (λ (s : Fortuna). digests s (next_reseed s)) (sym (run-state calls)) ∙ tied-digests (traced calls) (reference_after calls) t;
    }
  where
    t : Tied (traced calls) (reference_after calls)
    t = run-tied calls

-- ---- the uses grow by those of a pool reseed, and by nothing else

step-uses :
    (place : ℕ) (t : Traced) (e : Entry) →
    (traced_step place t e).uses ≡ t.uses ++ cond (eqb (entry_number t.state e) 0 && due_for t.state e.call) (next_uses t) []
unfolding traced_step
step-uses place t e = go (eqb (entry_number t.state e) 0)
  where
    told : (d : Bool) → (cond d (traced_reseed t) t).uses ≡ t.uses ++ cond d (next_uses t) []
    told true = unfold traced_reseed in refl
    told false = sym (append-nil t.uses)

    go : (a : Bool) → (cond a (traced_accepted place t e.call) t).uses ≡ t.uses ++ cond (a && due_for t.state e.call) (next_uses t) []
    go true = unfold traced_accepted in told (due_for t.state e.call)
    go false = sym (append-nil t.uses)

grows_from :
    (before : List Entry) (e : Entry) (place : ℕ) (t : Traced) →
    let last = traced_from place t before in
    (traced_from place t (before ++ (e ∷ []))).uses
    ≡ last.uses ++ cond (eqb (entry_number last.state e) 0 && due_for last.state e.call) (next_uses last) []
unfolding traced_from
grows_from [] e place t = step-uses place t e
grows_from (b ∷ before) e place t = grows_from before e (suc place) (traced_step place t b)

uses-grow :
    (calls : List Entry) (e : Entry) →
    (traced (calls ++ (e ∷ []))).uses
    ≡ (traced calls).uses ++ cond (ltb 0 (entry_step (state_after calls) e).effect.emptied) (next_uses (traced calls)) []
unfolding traced
uses-grow calls e =
    grows_from calls e 0 traced_fresh
    ∙ ap (λ (made : Bool). (traced calls).uses ++ cond made (next_uses (traced calls)) [])
    (ap (λ (s : Fortuna). eqb (entry_number s e) 0 && due_for s e.call) (run-state calls) ∙ sym (step-emptied (state_after calls) e))

-- ---- what is used enters the key

-- a seed update's reseed leaves the pools and the next reseed's number
same-digests : (s : Fortuna) (c : Call) → digests (at_reseed s c) (next_reseed (at_reseed s c)) ≡ digests s (next_reseed s)
unfolding at_reseed reseed_with_seed with_generator digests next_reseed pool_at
same-digests s (event source pool content) = refl
same-digests s (request clock buffer) = refl
same-digests s (update clock seed) = refl
same-digests s (write clock seed) = refl
same-digests s (draw clock n d) = refl
same-digests s (shuffle clock list) = refl

reseed-key : (calls : List Entry) (c : Call) → (pool_reseed (at_reseed (state_after calls) c) (reading_of c)).generator ≡ reseeded_by calls c
unfolding pool_reseed reseeded_by
reseed-key calls c =
    ap
    (λ (d : List ℕ). encode (reseed (decode (at_reseed (state_after calls) c).generator) d))
    (same-digests (state_after calls) c ∙ (faithful calls).hashes)

pub same_number : (before : List Entry) (c : Entry) → entry_number (state_after before) c ≡ reference_entry_number (reference_after before) c
same_number before c =
    ap (λ (s : Fortuna). entry_number s c) (agrees before).state ∙ entry-agrees (reference_after before) (sound-after before) c

-- the outcome of a call that is accepted and makes a pool reseed
key-taken : (calls : List Entry) (c : Entry) → entry_number (state_after calls) c ≡ 0 → due_for (state_after calls) c.call ≡ true
    → TakenFrom (made_from (decode (reseeded_by calls c.call)) c.call) (entry_step (state_after calls) c)
key-taken calls c e d =
    let b = reference_after calls in
    let p = due-parts (state_after calls) c.call d in
    let due-now : due_at b (reading_of c.call) ≡ true =
    sym (due-concrete b (reading_of c.call)) ∙ ap (λ (s : Fortuna). due s (reading_of c.call)) (sym (agrees calls).state) ∙ p.1 in
    subst (λ (g : Generator). TakenFrom (made_from (decode g) c.call) (entry_step (state_after calls) c)) (reseed-key calls c.call)
    (subst (λ (s : Fortuna). TakenFrom (made_from (decode (pool_reseed (at_reseed s c.call) (reading_of c.call)).generator) c.call)
    (entry_step s c)) (sym (agrees calls).state)
    (takes b (sound-after calls) c (sym (same_number calls c) ∙ e) p.0 due-now))

pub enters-key : (calls : List Entry) (c : Entry) → EntersKey calls c
unfolding reseeded_by
enters-key calls c = record { grows = uses-grow calls c; key = reseed-key calls c.call; taken = key-taken calls c }

-- ---- each call of a list

-- no bytes enter at the place of a call that is refused or is no event
never-enters :
    (before : List Entry) (c : Entry) (later : List Entry) → (entry_number (state_after before) c ≡ 0 → NoEvent c) → (n i : ℕ) →
    EntersAt (before ++ (c ∷ later)) (length before) n i → ⊥
never-enters before c later h n i a =
    let calls = before ++ (c ∷ later) in
    let y = entering-booked calls (reference_after calls).events (reference_after calls).reseeds (run-tied calls).tags.uses (length before) n i a in
    none-at before c (λ e. h (same_number before c ∙ e)) later y.event y.listed y.own

module _ (before : List Entry) (q : Quotas) (source pool : ℕ) (content : List ℕ) (later : List Entry)
    (accepted : entry_number (state_after before) (taking q (event source pool content)) ≡ 0) where
  abbrev whole : List Entry
  whole = before ++ (taking q (event source pool content) ∷ later)

  model-accepts : reference_entry_number (reference_after before) (taking q (event source pool content)) ≡ 0
  model-accepts = sym (same_number before (taking q (event source pool content))) ∙ accepted

  one-of-the-pools : pool < pool_count
  one-of-the-pools =
      let own = own-accepted (reference_after before) (taking q (event source pool content)) model-accepts in
      unfold reference_number in (event-passed false _ source pool (length content) own).place

  -- in the model's words
  enters-booked :
      (n i : ℕ) →
      EntersAt whole (length before) n i
      ↔ ((i ≡ pool) × (n ≡ scheduled_reseed pool (reference_after before).reseeds) × (n ≤ (reference_after whole).reseeds))
  unfolding scheduled
  enters-booked n i = (
    λ a.
        let y = entering-booked whole (reference_after whole).events (reference_after whole).reseeds (run-tied whole).tags.uses (length before) n i a in
        let e = event-alone before q source pool content model-accepts later y.event y.listed y.own in
        (y.pool ∙ ap (λ (x : Accepted). x.pool) e, y.reseed_number ∙ ap scheduled e, y.reached),
    λ h.
        subst₂ (EntersAt whole (length before)) (sym h.1) (sym h.0)
        (booked-enters whole (reference_after whole).events (reference_after whole).reseeds (run-tied whole).tags.uses _
        (event-listed before q source pool content model-accepts later) one-of-the-pools
        (subst (λ k. k ≤ (reference_after whole).reseeds) h.1 h.2)),
  )

  enters-own : (n i : ℕ) (a : EntersAt whole (length before) n i) → a.piece.bytes ≡ event_bytes source content
  unfolding piece_of
  enters-own n i a =
      let y = entering-booked whole (reference_after whole).events (reference_after whole).reseeds (run-tied whole).tags.uses (length before) n i a in
      let e = event-alone before q source pool content model-accepts later y.event y.listed y.own in
      ap (λ (p : Piece). p.bytes) y.piece ∙ ap (λ (x : Accepted). x.bytes) e

  enters-once :
      (n i : ℕ) →
      EntersAt whole (length before) n i ↔ ((i ≡ pool) × (n ≡ scheduled_reseed pool (reseeds_after before)) × (n ≤ reseeds_after whole))
  enters-once n i = rw (same-reseeds before, same-reseeds whole) (enters-booked n i)

event-enters :
    (before : List Entry) (q : Quotas) (source pool : ℕ) (content : List ℕ) (later : List Entry) → EventEnters before q source pool content later
event-enters before q source pool content later =
    record {
      once = λ accepted n i.
          let enters = enters-once before q source pool content later accepted n i in (
            λ a. let h = enters.0 a in (h.0, h.1 ∙ (unfold scheduled_reseed in ap (λ (k : ℕ). 2 ^ pool * k) (omega arith)), h.2),
            λ h. enters.1 (h.0, h.1 ∙ (unfold scheduled_reseed in ap (λ (k : ℕ). 2 ^ pool * k) (omega arith)), h.2),
          );
      own = enters-own before q source pool content later;
      never = λ refused. never-enters before (taking q (event source pool content)) later (λ e. absurd (refused e));
    }

others-never : (before : List Entry) (c : Entry) (later : List Entry) → OthersNever before c later
others-never before c later none = never-enters before c later (λ _. none)

-- ---- the claim

pub provenance : (calls : List Entry) → Provenance calls
provenance calls =
    record {
      uses = (run-tied calls).tags.uses;
      faithful = faithful calls;
      key = λ before c later _. enters-key before c;
      events = λ before q source pool content later _. event-enters before q source pool content later;
      others = λ before c later _. others-never before c later;
    }
