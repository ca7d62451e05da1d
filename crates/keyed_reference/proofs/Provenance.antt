-- At which step the bytes of each event enter the key.
-- Assumes nothing.
use mathlib.Core.Path.{◌≡◌, refl, sym, ap, ap₂, subst, subst₂, ◌∙◌}
use mathlib.Core.Logic.{◌↔◌}
use mathlib.Core.Bool.{Bool, true, false, cond}
use mathlib.Core.List.{List, [], ◌∷◌, ◌++◌, map, append-nil}
use Prim.Native.Nat.{ℕ, suc, ◌+◌, ◌*◌, ◌^◌, ◌≤◌, ◌<◌}
use native.Mathlib.Omega.{arith}
use lib.Dec.{eqb}
use lib.ListN.{length}
use borrow.Author.Tests.{eqb-true, eqb-false}
use Rattle.laws.specs.Refusals.{guarded}
use Rattle.laws.specs.Lists.{select}
use Rattle.laws.proofs.Cases.{by-test, split}
use Rattle.hash.specs.ShaD.{D, pool_of}
use Rattle.generator.specs.Steps.{decode, encode, reseed}
use Rattle.pools.specs.Events.{event_bytes}
use Rattle.pools.specs.Effects.{Effect}
use Rattle.pools.specs.Calls.{Outcome, outcome}
use Rattle.pools.proofs.Runs.{outcome-done}
use Rattle.quotas.specs.Entries.{Quotas}
use Rattle.reference.specs.Provenance.{Piece, erased}
use Rattle.keyed.specs.declared.Keyed.{Keyed}
use Rattle.keyed.specs.Scheduler.{input_pool, empties, output_pool}
use Rattle.keyed.specs.State.{pool_at}
use Rattle.keyed.specs.Calls.{Call, event, request, update, write}
use Rattle.keyed.specs.Entries.{Entry, taking, entry_number, entry_step}
use Rattle.keyed_reference.specs.Runs.{state_after}
use Rattle.keyed_reference.specs.Reference.{Accepted, Reference, consumed_at, contents, pool_contents, noted, scheduled_step, scheduled, reference_event, reference_effect, reference_step, reference_after, reference_entry_number}
use Rattle.keyed_reference.specs.Agreement.{concrete}
use Rattle.keyed_reference.specs.Provenance.{Traced, traced_fresh, uses_now, traced_accepted, traced_step, traced_from, traced, Faithful, empties_now, reseed_with, EntersKey, NoEvent, UsesStay}
use Rattle.keyed_reference.specs.Provenance.{PoolUse, piece_of, scheduled_use, EntersAt, steps_after, EventEnters, OthersNever, Provenance}
use Rattle.keyed_reference.proofs.Schedule.{input-small, scheduled-from, scheduled-soon}
use Rattle.keyed_reference.proofs.Concrete.{pool-concrete, decode-concrete}
use Rattle.keyed_reference.proofs.Agreement.{step-agrees, sound-after, agrees, same_number, same-steps}
use Rattle.keyed_reference.proofs.Places.{events-ordered, none-at, event-listed, event-alone}
use Rattle.keyed_reference.proofs.Tracing.{erased-map, used-now, run-tied, run-state}
use Rattle.keyed_reference.proofs.Uses.{uses-ordered, entering-booked, booked-enters}

-- ---- the traced station, one call more

trace-more :
    (before : List Entry) (e : Entry) (place : ℕ) (t : Traced) →
    traced_from place t (before ++ (e ∷ [])) ≡ traced_step (place + length before) (traced_from place t before) e
unfolding traced_from
trace-more [] e place t = ap (λ (p : ℕ). traced_step p t e) (omega arith)
trace-more (b ∷ before) e place t =
    trace-more before e (suc place) (traced_step place t b)
    ∙ ap (λ (p : ℕ). traced_step p (traced_from (suc place) (traced_step place t b) before) e) (omega arith)

-- what a call adds to the uses
adds : ℕ → Traced → Call → List PoolUse
adds place t (event source content) = uses_now place t (event_bytes source content)
adds place t (request buffer) = []
adds place t (update seed) = []
adds place t (write seed) = []

accepted-uses : (place : ℕ) (t : Traced) (c : Call) → (traced_accepted place t c).uses ≡ t.uses ++ adds place t c
unfolding traced_accepted adds
accepted-uses place t (event source content) = refl
accepted-uses place t (request buffer) = sym (append-nil t.uses)
accepted-uses place t (update seed) = sym (append-nil t.uses)
accepted-uses place t (write seed) = sym (append-nil t.uses)

step-uses : (place : ℕ) (t : Traced) (e : Entry) → (traced_step place t e).uses ≡ t.uses ++ guarded (entry_number t.state e) (adds place t e.call) []
unfolding traced_step
step-uses place t e = go (eqb (entry_number t.state e) 0)
  where
    go : (a : Bool) → (cond a (traced_accepted place t e.call) t).uses ≡ t.uses ++ cond a (adds place t e.call) []
    go true = accepted-uses place t e.call
    go false = sym (append-nil t.uses)

module _ (key : List ℕ) (calls : List Entry) (e : Entry) where
  uses-more :
      (traced key (calls ++ (e ∷ []))).uses
      ≡ (traced key calls).uses ++ guarded (entry_number (state_after key calls) e) (adds (length calls) (traced key calls) e.call) []
  unfolding traced
  uses-more =
      ap (λ (t : Traced). t.uses) (trace-more calls e 0 (traced_fresh key))
      ∙ ap (λ (p : ℕ). (traced_step p (traced key calls) e).uses) (omega arith)
      ∙ step-uses (length calls) (traced key calls) e
      ∙ ap (λ (s : Keyed). (traced key calls).uses ++ guarded (entry_number s e) (adds (length calls) (traced key calls) e.call) []) (run-state key calls)

-- ---- the strings enter the key

-- the model's K and C after an accepted event: reseeded with what is booked for its step
model-enters :
    (key : List ℕ) (place : ℕ) (b : Reference) (bytes : List ℕ) →
    (reference_event key place b bytes).next.generator ≡ reseed_with b.generator (scheduled_use (noted key place b bytes) b.steps)
unfolding reference_event scheduled_use
model-enters key place b bytes = go (empties b.steps)
  where
    out : List Accepted
    out = select (consumed_at b.steps (output_pool b.steps)) (noted key place b bytes)

    go : (t : Bool) → cond t (reseed b.generator (D (contents out))) b.generator
        ≡ reseed_with b.generator (cond t (record { step = b.steps; pool = output_pool b.steps; pieces = map piece_of out } ∷ []) [])
    go true = unfold reseed_with in ap (λ (d : List ℕ). reseed b.generator (D d)) (sym (erased-map out))
    go false = unfold reseed_with in refl

module _ (key : List ℕ) (calls : List Entry) (q : Quotas) (source : ℕ) (content : List ℕ) where
  abbrev this : Entry
  this = taking q (event source content)

  abbrev model : Reference
  model = reference_after key calls

  abbrev bytes : List ℕ
  bytes = event_bytes source content

  -- the station's next generator is the model's
  next-generator :
      (entry_step (state_after key calls) this).effect.next.generator ≡ encode (reference_step key (length calls) model this).effect.next.generator
  unfolding concrete
  next-generator =
      ap (λ (x : Keyed). (entry_step x this).effect.next.generator) (agrees key calls).state
      ∙ ap (λ (o : Outcome Keyed). o.effect.next.generator) (step-agrees key (length calls) model (sound-after key calls) this)

  model-accepted :
      entry_number (state_after key calls) this ≡ 0 →
      (reference_step key (length calls) model this).effect.next.generator ≡ (reference_event key (length calls) model bytes).next.generator
  unfolding reference_step outcome reference_effect
  model-accepted accepted =
      ap (λ (o : Effect Reference). o.next.generator) (outcome-done _ _ _ _ (sym (same_number key calls this) ∙ accepted))

  same-generator : decode (state_after key calls).generator ≡ model.generator
  same-generator =
      ap (λ (s : Keyed). decode s.generator) (agrees key calls).state ∙ decode-concrete key model (sound-after key calls)

  same-uses : empties_now key calls bytes ≡ scheduled_use (noted key (length calls) model bytes) model.steps
  same-uses = used-now key (length calls) (traced key calls) model (sound-after key calls) (run-tied key calls) bytes

  strings-enter :
      entry_number (state_after key calls) this ≡ 0 →
      (entry_step (state_after key calls) this).effect.next.generator
      ≡ encode (reseed_with (decode (state_after key calls).generator) (empties_now key calls bytes))
  strings-enter accepted =
      next-generator
      ∙ ap encode (model-accepted accepted ∙ model-enters key (length calls) model bytes ∙ ap₂ reseed_with (sym same-generator) (sym same-uses))

  pub enters-key : EntersKey key calls q source content
  unfolding adds
  enters-key = record { grows = uses-more key calls this; enters = strings-enter }

pub uses-stay : (key : List ℕ) (calls : List Entry) (e : Entry) → UsesStay key calls e
uses-stay key calls e none =
    uses-more key calls e
    ∙ ap (λ (l : List PoolUse). (traced key calls).uses ++ l)
    (ap (λ (l : List PoolUse). guarded (entry_number (state_after key calls) e) l []) (nothing e.call none)
    ∙ split (λ (l : List PoolUse). l ≡ []) (eqb (entry_number (state_after key calls) e) 0) (λ _. refl) (λ _. refl))
    ∙ append-nil (traced key calls).uses
  where
    nothing : (c : Call) → ((source : ℕ) (content : List ℕ) → c ≡ event source content → ⊥) → adds (length calls) (traced key calls) c ≡ []
    nothing (event source content) h = absurd (h source content refl)
    nothing (request buffer) h = unfold adds in refl
    nothing (update seed) h = unfold adds in refl
    nothing (write seed) h = unfold adds in refl

-- ---- each call of a list

module _ (key : List ℕ) where
  faithful : (calls : List Entry) → Faithful key calls
  faithful calls =
      record {
        state = run-state key calls;
        strings = λ i h.
            ap (λ (s : Keyed). pool_at s i) (agrees key calls).state ∙ pool-concrete key (reference_after key calls) i h
            ∙ ap pool_of (string-of i);
      }
    where
      string-of : (i : ℕ) → pool_contents (reference_after key calls) i ≡ erased ((traced key calls).pieces i)
      string-of i = unfold pool_contents in sym (ap erased ((run-tied key calls).tags.pieces i) ∙ erased-map _)

  -- no bytes enter at the place of a call that is refused or is no event
  never-enters :
      (before : List Entry) (c : Entry) (later : List Entry) → (entry_number (state_after key before) c ≡ 0 → NoEvent c) → (n i : ℕ) →
      EntersAt key (before ++ (c ∷ later)) (length before) n i → ⊥
  never-enters before c later h n i a =
      let calls = before ++ (c ∷ later) in
      let y = entering-booked key calls (reference_after key calls).events (reference_after key calls).steps (run-tied key calls).tags.uses
      (length before) n i a in
      none-at key before c later (λ e. h (same_number key before c ∙ e)) y.event y.listed y.own

  module _ (before : List Entry) (q : Quotas) (source : ℕ) (content : List ℕ) (later : List Entry)
      (accepted : entry_number (state_after key before) (taking q (event source content)) ≡ 0) where
    abbrev whole : List Entry
    whole = before ++ (taking q (event source content) ∷ later)

    model-accepts : reference_entry_number key (reference_after key before) (taking q (event source content)) ≡ 0
    model-accepts = sym (same_number key before (taking q (event source content))) ∙ accepted

    -- its step
    abbrev t₀ : ℕ
    t₀ = (reference_after key before).steps

    -- in the model's words
    enters-booked :
        (n i : ℕ) →
        EntersAt key whole (length before) n i
        ↔ ((i ≡ input_pool key t₀) × (n ≡ scheduled_step i t₀) × (n < (reference_after key whole).steps))
    unfolding scheduled
    enters-booked n i = (
      λ a.
          let y = entering-booked key whole (reference_after key whole).events (reference_after key whole).steps (run-tied key whole).tags.uses
          (length before) n i a in
          let e = event-alone key before q source content later model-accepts y.event y.listed y.own in
          let p : i ≡ input_pool key t₀ = y.pool ∙ ap (λ (x : Accepted). x.pool) e in
          (p, y.at_step ∙ ap scheduled e ∙ ap (λ (j : ℕ). scheduled_step j t₀) (sym p), y.reached),
      λ h.
          let n-is : n ≡ scheduled_step (input_pool key t₀) t₀ = h.1 ∙ ap (λ (j : ℕ). scheduled_step j t₀) h.0 in
          subst₂ (EntersAt key whole (length before)) (sym n-is) (sym h.0)
          (booked-enters key whole (reference_after key whole).events (reference_after key whole).steps (run-tied key whole).tags.uses _
          (event-listed key before q source content later model-accepts) (input-small key t₀)
          (subst (λ k. k < (reference_after key whole).steps) n-is h.2)),
    )

    enters-own : (n i : ℕ) (a : EntersAt key whole (length before) n i) → a.piece.bytes ≡ event_bytes source content
    unfolding piece_of
    enters-own n i a =
        let y = entering-booked key whole (reference_after key whole).events (reference_after key whole).steps (run-tied key whole).tags.uses
        (length before) n i a in
        let e = event-alone key before q source content later model-accepts y.event y.listed y.own in
        ap (λ (p : Piece). p.bytes) y.piece ∙ ap (λ (x : Accepted). x.bytes) e

    enters-once :
        (n i : ℕ) →
        EntersAt key whole (length before) n i
        ↔ ((i ≡ input_pool key (steps_after key before)) × (n ≡ scheduled_step i (steps_after key before)) × (n < steps_after key whole))
    enters-once n i = rw (same-steps key before, same-steps key whole) (enters-booked n i)

    enters-soon :
        (n i : ℕ) → EntersAt key whole (length before) n i → (steps_after key before ≤ n) × (n < steps_after key before + 32 * 2 ^ (i + 1))
    enters-soon n i a =
        let p = (enters-once n i).0 a in
        (omega (arith, p.1, scheduled-from i (steps_after key before)), omega (arith, p.1, scheduled-soon i (steps_after key before)))

  event-enters :
      (before : List Entry) (q : Quotas) (source : ℕ) (content : List ℕ) (later : List Entry) → EventEnters key before q source content later
  event-enters before q source content later =
      let this : Entry = taking q (event source content) in
      record {
        once = enters-once before q source content later;
        soon = λ n i a.
            by-test (eqb (entry_number (state_after key before) this) 0) _
            (λ e. enters-soon before q source content later (eqb-true _ 0 e) n i a)
            (λ e. absurd (never-enters before this later (λ z. absurd (eqb-false _ 0 e z)) n i a));
        own = enters-own before q source content later;
        never = λ refused. never-enters before this later (λ e. absurd (refused e));
      }

  others-never : (before : List Entry) (c : Entry) (later : List Entry) → OthersNever key before c later
  others-never before c later none = never-enters before c later (λ _. none)

  -- ---- the claim

  pub provenance : (calls : List Entry) → Provenance key calls
  provenance calls =
      record {
        uses = (run-tied key calls).tags.uses;
        order =
            uses-ordered key calls (reference_after key calls).events (reference_after key calls).steps (run-tied key calls).tags.uses
            (events-ordered key calls);
        faithful = faithful calls;
        strings = λ before q source content later _. enters-key key before q source content;
        stay = λ before c later _. uses-stay key before c;
        events = λ before q source content later _. event-enters before q source content later;
        others = λ before c later _. others-never before c later;
      }
