-- The traced station beside the reference model: its pieces are the events pending in each pool, and its emptyings are the schedule's.
-- Assumes nothing.
use mathlib.Core.Path.{◌≡◌, refl, sym, ap, ap₂, subst, ◌∙◌}
use mathlib.Core.Bool.{Bool, true, false, cond}
use mathlib.Core.List.{List, [], ◌∷◌, ◌++◌, map}
use Prim.Native.Nat.{ℕ, zero, suc, ◌+◌, ◌≤◌}
use native.Mathlib.Numerals.{add-one}
use native.Mathlib.Omega.{arith}
use lib.Dec.{eqb}
use Rattle.laws.specs.Lists.{select}
use Rattle.laws.proofs.Cases.{split}
use Rattle.pools.specs.Events.{event_bytes}
use Rattle.pools.specs.Calls.{Outcome, outcome}
use Rattle.pools.proofs.Runs.{outcome-beside, from-beside}
use Rattle.reference.specs.Provenance.{Piece, erased}
use Rattle.reference.proofs.Tracing.{erased-pieces}
use Rattle.keyed.specs.declared.Keyed.{Keyed}
use Rattle.keyed.specs.Scheduler.{input_pool, empties, output_pool, takes}
use Rattle.keyed.specs.State.{fresh, picked}
use Rattle.keyed.specs.Calls.{Call, event, request, update, write, input_buffer}
use Rattle.keyed.specs.Entries.{Entry, entry_number, entry_step}
use Rattle.keyed_reference.specs.Runs.{state_after}
use Rattle.keyed_reference.specs.Reference.{Accepted, Reference, empty, pending, consumed_at, contents, noted, reference_event, reference_request, reference_effect, reference_step, reference_after, reference_entry_number}
use Rattle.keyed_reference.specs.Agreement.{concrete}
use Rattle.keyed_reference.specs.Provenance.{PoolUse, Traced, traced_fresh, gains, uses_now, traced_accepted, traced_step, traced_from, traced, piece_of, scheduled_use, scheduled_uses}
use Rattle.keyed_reference.proofs.Bookings.{pending-pieces, consumed-new, pending-consumed, pending-gone, pending-stays}
use Rattle.keyed_reference.proofs.Invariant.{Sound, sound_empty, new_event, past-noted}
use Rattle.keyed_reference.proofs.Simulation.{output-taken}
use Rattle.keyed_reference.proofs.Agreement.{picked-concrete, step-concrete, entry-agrees, step-agrees, step-sound, fresh-concrete}

pub erased-map : (es : List Accepted) → erased (map piece_of es) ≡ contents es
unfolding contents piece_of
erased-map es = erased-pieces piece_of es

-- ---- what the model says of the pieces

pub record Tags (t : Traced) (b : Reference) : Type 0 where
  pub pieces : (i : ℕ) → t.pieces i ≡ map piece_of (select (pending b.steps i) b.events)
  pub uses : t.uses ≡ scheduled_uses b.events b.steps

pub record Tied (key : List ℕ) (t : Traced) (b : Reference) : Type 0 where
  pub state : t.state ≡ concrete key b
  pub tags : Tags t b

-- ---- an event

-- the emptyings of the steps before an event do not depend on it
uses-before : (es : List Accepted) (e : Accepted) (n : ℕ) → n ≤ e.step → scheduled_uses (es ++ (e ∷ [])) n ≡ scheduled_uses es n
unfolding scheduled_uses scheduled_use
uses-before es e zero h = refl
uses-before es e (suc n) h =
    ap₂ (λ (x y : List PoolUse). x ++ y) (uses-before es e n (omega arith)) (ap one (consumed-new (output_pool n) es e n (omega arith)))
  where
    one : List Accepted → List PoolUse
    one l = cond (empties n) (record { step = n; pool = output_pool n; pieces = map piece_of l } ∷ []) []

module _ (key : List ℕ) (place : ℕ) (t : Traced) (b : Reference) (s : Sound b) (tied : Tied key t b) (bytes : List ℕ) where
  abbrev events-now : List Accepted
  events-now = noted key place b bytes

  same_step : t.state.step ≡ b.steps
  same_step = ap (λ (x : Keyed). x.step) tied.state ∙ step-concrete key b

  same-picked : picked t.state ≡ input_pool key b.steps
  same-picked = ap picked tied.state ∙ picked-concrete key b

  -- the pieces once the event is in its pool
  pub gained-pieces : (i : ℕ) → gains place t bytes i ≡ map piece_of (select (pending b.steps i) events-now)
  unfolding gains noted
  gained-pieces i =
      ap₂ (λ (l : List Piece) (p : ℕ). l ++ cond (eqb p i) (record { place = place; bytes = bytes } ∷ []) []) (tied.tags.pieces i) same-picked
      ∙ sym (pending-pieces i b.events (new_event key place b bytes) ∙ (unfold piece_of in refl))

  left-pieces :
      (i : ℕ) → cond (takes t.state.step i) [] (gains place t bytes i) ≡ map piece_of (select (pending (b.steps + 1) i) events-now)
  left-pieces i =
      let past = past-noted key place b bytes s.past in
      ap (λ (n : ℕ). cond (takes n i) [] (gains place t bytes i)) same_step
      ∙ split (λ (p : List Piece). p ≡ map piece_of (select (pending (b.steps + 1) i) events-now)) (takes b.steps i)
      (λ u. sym (ap (map piece_of) (pending-gone b.steps i events-now past u)))
      (λ u. gained-pieces i ∙ sym (ap (map piece_of) (pending-stays b.steps i events-now past u)))

  -- what the step empties is what was booked for it
  pub used-now : uses_now place t bytes ≡ scheduled_use events-now b.steps
  unfolding uses_now scheduled_use
  used-now = ap now-at same_step ∙ go (empties b.steps) (λ u. u)
    where
      now-at : ℕ → List PoolUse
      now-at n = cond (empties n) (record { step = n; pool = output_pool n; pieces = gains place t bytes (output_pool n) } ∷ []) []

      use-of : List Piece → List PoolUse
      use-of l = record { step = b.steps; pool = output_pool b.steps; pieces = l } ∷ []

      go : (d : Bool) → (d ≡ true → empties b.steps ≡ true)
          → cond d (use-of (gains place t bytes (output_pool b.steps))) []
          ≡ cond d (use-of (map piece_of (select (consumed_at b.steps (output_pool b.steps)) events-now))) []
      go true q =
          ap use-of
          (gained-pieces (output_pool b.steps)
          ∙ ap (map piece_of) (pending-consumed b.steps (output_pool b.steps) events-now (past-noted key place b bytes s.past)
          (output-taken b.steps (q refl))))
      go false q = refl

  used_all : t.uses ++ uses_now place t bytes ≡ scheduled_uses events-now (b.steps + 1)
  used_all =
      ap₂ (λ (x y : List PoolUse). x ++ y) (tied.tags.uses ∙ sym before) used-now
      ∙ (unfold scheduled_uses in ap (scheduled_uses events-now) (sym (add-one b.steps)))
    where
      before : scheduled_uses events-now b.steps ≡ scheduled_uses b.events b.steps
      before = unfold noted in uses-before b.events (new_event key place b bytes) b.steps (omega arith)

-- ---- a call

accepted-tags :
    (key : List ℕ) (place : ℕ) (t : Traced) (b : Reference) → Sound b → Tied key t b → (c : Call) →
    Tags (traced_accepted place t c) (reference_effect key place b c).next
unfolding traced_accepted reference_effect reference_event reference_request
accepted-tags key place t b s tied (event source content) =
    record {
      pieces = left-pieces key place t b s tied (event_bytes source content);
      uses = used_all key place t b s tied (event_bytes source content);
    }
accepted-tags key place t b s tied (request buffer) = record { pieces = tied.tags.pieces; uses = tied.tags.uses }
accepted-tags key place t b s tied (update seed) = record { pieces = tied.tags.pieces; uses = tied.tags.uses }
accepted-tags key place t b s tied (write seed) = record { pieces = tied.tags.pieces; uses = tied.tags.uses }

step-tied :
    (key : List ℕ) (place : ℕ) (t : Traced) (b : Reference) → Sound b → Tied key t b → (c : Entry) →
    Tied key (traced_step place t c) (reference_step key place b c).effect.next
step-tied key place t b s tied c =
    record {
      state =
          unfold traced_step in
          ap (λ (o : Outcome Keyed). o.effect.next) (ap (λ (x : Keyed). entry_step x c) tied.state ∙ step-agrees key place b s c);
      tags = unfold traced_step in record { pieces = after.pieces; uses = after.uses };
    }
  where
    same_number : entry_number t.state c ≡ reference_entry_number key b c
    same_number = ap (λ (x : Keyed). entry_number x c) tied.state ∙ entry-agrees key b s c

    after : Tags (cond (eqb (entry_number t.state c) 0) (traced_accepted place t c.call) t) (reference_step key place b c).effect.next
    after =
        subst
        (λ (n : ℕ). Tags (cond (eqb n 0) (traced_accepted place t c.call) t) (reference_step key place b c).effect.next)
        (sym same_number)
        (unfold reference_step outcome in
        outcome-beside Tags (reference_entry_number key b c) (input_buffer c.call) b (reference_effect key place b c.call) t _ tied.tags
        (λ e. accepted-tags key place t b s tied c.call))

-- ---- every run

fresh-tied : (key : List ℕ) → Tied key (traced_fresh key) empty
unfolding traced_fresh
fresh-tied key =
    record {
      state = fresh-concrete key;
      tags = unfold empty select scheduled_uses in record { pieces = λ i. refl; uses = refl };
    }

module _ (key : List ℕ) where
  pub run-tied : (calls : List Entry) → Tied key (traced key calls) (reference_after key calls)
  unfolding traced traced_from reference_after
  run-tied calls =
      (from-beside traced_step traced_from (λ place t. refl) (λ place t c later. refl) (reference_step key)
      (λ (t : Traced) (b : Reference). Sound b × Tied key t b)
      (λ place t b h c. (step-sound key place b h.0 c, step-tied key place t b h.0 h.1 c)) calls 0 (traced_fresh key) empty
      (sound_empty, fresh-tied key)).1

  -- the traced station's state is the station's
  pub run-state : (calls : List Entry) → (traced key calls).state ≡ state_after key calls
  unfolding traced traced_from state_after
  run-state calls =
      from-beside traced_step traced_from (λ place t. refl) (λ place t c later. refl) (λ place. entry_step)
      (λ (t : Traced) (s : Keyed). t.state ≡ s) (λ place t s h c. unfold traced_step in ap (λ (x : Keyed). (entry_step x c).effect.next) h)
      calls 0 (traced_fresh key) (fresh key) (unfold traced_fresh in refl)
