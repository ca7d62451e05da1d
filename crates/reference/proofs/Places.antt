-- The accepted events of the reference model by the place of their call: an accepted event stands in the list once, at its place, and no
-- other call puts one there.
-- Assumes nothing.
use mathlib.Core.Path.{◌≡◌, refl, ap, ◌∙◌}
use mathlib.Core.List.{List, [], ◌∷◌, ◌++◌, Memᴰ}
use Prim.Native.Nat.{ℕ}
use lib.ListN.{length}
use Rattle.laws.proofs.Selections.{Every}
use Rattle.pools.specs.Events.{event_bytes}
use Rattle.pools.specs.Effects.{Effect}
use Rattle.pools.specs.Calls.{Call, event, input_buffer, outcome, state_from}
use Rattle.pools.proofs.Runs as Runs
use Rattle.pools.proofs.Runs.{outcome-done, outcome-keeps, state-more, after-cut, Grows, stays, gains, record-listed, record-alone}
use Rattle.quotas.specs.Entries.{Quotas, Entry, taking}
use Rattle.reference.specs.Reference.{Accepted, Reference, empty, reference_effect, reference_step, reference_after, reference_entry_number}
use Rattle.reference.specs.Provenance.{NoEvent}
use Rattle.reference.proofs.Invariant.{events-noted}
use Rattle.reference.proofs.Advances.{Shape, appended, moved, effect-shape}

-- ---- one event more, or none

-- the event that a call at a place adds
abbrev pub new_event : ℕ → Reference → ℕ → ℕ → List ℕ → Accepted
new_event place b source pool content =
    record { place = place; pool = pool; bytes = event_bytes source content; reseeds_before = b.reseeds }

abbrev noted : Reference → List Accepted
noted b = b.events

abbrev place_of : Accepted → ℕ
place_of e = e.place

shape-grows : (place : ℕ) (b : Reference) (c : Call) (x : Reference) → Shape place b c x → Grows place_of place b.events x.events
shape-grows place b c x (appended source pool content q e) =
    gains (new_event place b source pool content) refl (ap noted e ∙ events-noted place b pool (event_bytes source content))
shape-grows place b c x (moved _ a) = stays a.events

shape-stays : (place : ℕ) (b : Reference) (c : Entry) (x : Reference) → NoEvent c → Shape place b c.call x → x.events ≡ b.events
shape-stays place b c x none (appended source pool content q e) = absurd (none source pool content q)
shape-stays place b c x none (moved _ a) = a.events

module _ (place : ℕ) (b : Reference) (c : Entry) where
  step-grows : Grows place_of place b.events (reference_step place b c).effect.next.events
  unfolding reference_step outcome
  step-grows =
      outcome-keeps (λ (x : Reference). Grows place_of place b.events x.events) (reference_entry_number b c) (input_buffer c.call) b
      (reference_effect place b c.call) (stays refl) (λ _. shape-grows place b c.call _ (effect-shape place b c.call))

  -- a call that is refused or is no event adds none
  step_stays : (reference_entry_number b c ≡ 0 → NoEvent c) → (reference_step place b c).effect.next.events ≡ b.events
  unfolding reference_step outcome
  step_stays none =
      outcome-keeps (λ (x : Reference). x.events ≡ b.events) (reference_entry_number b c) (input_buffer c.call) b
      (reference_effect place b c.call) refl (λ z. shape-stays place b c _ (none z) (effect-shape place b c.call))

-- an accepted event adds its own
step-adds :
    (place : ℕ) (b : Reference) (q : Quotas) (source pool : ℕ) (content : List ℕ) →
    reference_entry_number b (taking q (event source pool content)) ≡ 0 →
    (reference_step place b (taking q (event source pool content))).effect.next.events ≡ b.events ++ (new_event place b source pool content ∷ [])
unfolding reference_step reference_effect outcome
step-adds place b q source pool content accepted =
    ap (λ (o : Effect Reference). o.next.events) (outcome-done _ _ _ _ accepted) ∙ events-noted place b pool (event_bytes source content)

-- ---- in a run

no-event : noted empty ≡ []
unfolding empty
no-event = refl

module _ (before : List Entry) (c : Entry) (h : reference_entry_number (reference_after before) c ≡ 0 → NoEvent c) where
  -- no event stands at the place of a call that is refused or is no event
  pub none-at : (later : List Entry) → Every (λ e. e.place ≡ length before → ⊥) (reference_after (before ++ (c ∷ later))).events
  unfolding reference_after
  none-at later =
      Runs.none-at reference_step noted place_of step-grows empty no-event before c later (step_stays (length before) (reference_after before) c h)

  -- such a call leaves the events as they were
  pub none-added : (reference_after (before ++ (c ∷ []))).events ≡ (reference_after before).events
  unfolding reference_after
  none-added = ap noted (state-more reference_step before 0 empty c) ∙ step_stays _ (reference_after before) c h

module _ (before : List Entry) (q : Quotas) (source pool : ℕ) (content : List ℕ)
    (accepted : reference_entry_number (reference_after before) (taking q (event source pool content)) ≡ 0) where
  abbrev this : Entry
  this = taking q (event source pool content)

  -- an accepted event is noted, with the R before it
  abbrev own : Accepted
  own = new_event (length before) (reference_after before) source pool content

  left : (reference_step (length before) (reference_after before) this).effect.next.events ≡ (reference_after before).events ++ (own ∷ [])
  left = step-adds (length before) (reference_after before) q source pool content accepted

  -- the one event more
  pub event-added : (reference_after (before ++ (this ∷ []))).events ≡ (reference_after before).events ++ (own ∷ [])
  unfolding reference_after
  event-added = ap noted (after-cut reference_step before this [] empty) ∙ (unfold state_from in left)

  -- it is listed
  pub event-listed : (later : List Entry) → Memᴰ own (reference_after (before ++ (this ∷ later))).events
  unfolding reference_after
  event-listed later = record-listed reference_step noted place_of step-grows empty no-event before this later own left

  -- and alone at its place
  pub event-alone : (later : List Entry) → Every (λ e. e.place ≡ length before → e ≡ own) (reference_after (before ++ (this ∷ later))).events
  unfolding reference_after
  event-alone later = record-alone reference_step noted place_of step-grows empty no-event before this later own left
