-- The accepted events of the reference model by the place of their call: an accepted event stands in the list once, at its place, and no
-- other call puts one there.
-- Assumes nothing.
use mathlib.Core.Path.{◌≡◌, refl, ap}
use mathlib.Core.List.{List, [], ◌∷◌, ◌++◌, Memᴰ}
use Prim.Native.Nat.{ℕ}
use lib.ListN.{length}
use Rattle.laws.proofs.Selections.{Every, Ordered}
use Rattle.pools.specs.Events.{event_bytes}
use Rattle.pools.specs.Effects.{Effect}
use Rattle.pools.specs.Calls.{outcome}
use Rattle.pools.proofs.Runs as Runs
use Rattle.pools.proofs.Runs.{outcome-done, outcome-keeps, after-ordered, Grows, stays, gains, record-listed, record-alone}
use Rattle.quotas.specs.Entries.{Quotas}
use Rattle.keyed.specs.Calls.{Call, event, request, update, write, input_buffer}
use Rattle.keyed.specs.Entries.{Entry, taking}
use Rattle.keyed_reference.specs.Reference.{Accepted, Reference, empty, noted, reference_event, reference_request, reference_effect, reference_step, reference_after, reference_entry_number}
use Rattle.keyed_reference.specs.Provenance.{NoEvent}
use Rattle.keyed_reference.proofs.Invariant.{new_event}

abbrev events : Reference → List Accepted
events b = b.events

abbrev place_of : Accepted → ℕ
place_of e = e.place

module _ (key : List ℕ) where
  effect-grows : (place : ℕ) (b : Reference) (c : Call) → Grows place_of place b.events (reference_effect key place b c).next.events
  unfolding reference_effect reference_event reference_request noted
  effect-grows place b (event source content) = gains (new_event key place b (event_bytes source content)) refl refl
  effect-grows place b (request buffer) = stays refl
  effect-grows place b (update seed) = stays refl
  effect-grows place b (write seed) = stays refl

  effect-stays :
      (place : ℕ) (b : Reference) (c : Call) → ((source : ℕ) (content : List ℕ) → c ≡ event source content → ⊥) →
      (reference_effect key place b c).next.events ≡ b.events
  unfolding reference_effect reference_request
  effect-stays place b (event source content) none = absurd (none source content refl)
  effect-stays place b (request buffer) none = refl
  effect-stays place b (update seed) none = refl
  effect-stays place b (write seed) none = refl

  module _ (place : ℕ) (b : Reference) (c : Entry) where
    step-grows : Grows place_of place b.events (reference_step key place b c).effect.next.events
    unfolding reference_step outcome
    step-grows =
        outcome-keeps (λ (x : Reference). Grows place_of place b.events x.events) (reference_entry_number key b c) (input_buffer c.call) b
        (reference_effect key place b c.call) (stays refl) (λ _. effect-grows place b c.call)

    -- a call that is refused or is no event adds none
    step_stays : (reference_entry_number key b c ≡ 0 → NoEvent c) → (reference_step key place b c).effect.next.events ≡ b.events
    unfolding reference_step outcome
    step_stays none =
        outcome-keeps (λ (x : Reference). x.events ≡ b.events) (reference_entry_number key b c) (input_buffer c.call) b
        (reference_effect key place b c.call) refl (λ z. effect-stays place b c.call (none z))

  -- an accepted event adds its own
  step-adds :
      (place : ℕ) (b : Reference) (q : Quotas) (source : ℕ) (content : List ℕ) →
      reference_entry_number key b (taking q (event source content)) ≡ 0 →
      (reference_step key place b (taking q (event source content))).effect.next.events
      ≡ b.events ++ (new_event key place b (event_bytes source content) ∷ [])
  unfolding reference_step outcome reference_effect reference_event noted
  step-adds place b q source content accepted = ap (λ (o : Effect Reference). o.next.events) (outcome-done _ _ _ _ accepted)

  -- ---- in a run

  no-event : empty.events ≡ []
  unfolding empty
  no-event = refl

  -- the events stand in the order of their calls
  pub events-ordered : (calls : List Entry) → Ordered place_of (reference_after key calls).events
  unfolding reference_after
  events-ordered calls = after-ordered (reference_step key) events place_of step-grows empty no-event calls

  -- no event stands at the place of a call that is refused or is no event
  pub none-at :
      (before : List Entry) (c : Entry) (later : List Entry) → (reference_entry_number key (reference_after key before) c ≡ 0 → NoEvent c) →
      Every (λ e. e.place ≡ length before → ⊥) (reference_after key (before ++ (c ∷ later))).events
  unfolding reference_after
  none-at before c later h =
      Runs.none-at (reference_step key) events place_of step-grows empty no-event before c later
      (step_stays (length before) (reference_after key before) c h)

  module _ (before : List Entry) (q : Quotas) (source : ℕ) (content : List ℕ) (later : List Entry)
      (accepted : reference_entry_number key (reference_after key before) (taking q (event source content)) ≡ 0) where
    abbrev this : Entry
    this = taking q (event source content)

    -- an accepted event is noted, with its step
    abbrev own : Accepted
    own = new_event key (length before) (reference_after key before) (event_bytes source content)

    left : (reference_step key (length before) (reference_after key before) this).effect.next.events ≡ (reference_after key before).events ++ (own ∷ [])
    left = step-adds (length before) (reference_after key before) q source content accepted

    -- it is listed
    pub event-listed : Memᴰ own (reference_after key (before ++ (this ∷ later))).events
    unfolding reference_after
    event-listed = record-listed (reference_step key) events place_of step-grows empty no-event before this later own left

    -- and alone at its place
    pub event-alone : Every (λ e. e.place ≡ length before → e ≡ own) (reference_after key (before ++ (this ∷ later))).events
    unfolding reference_after
    event-alone = record-alone (reference_step key) events place_of step-grows empty no-event before this later own left
