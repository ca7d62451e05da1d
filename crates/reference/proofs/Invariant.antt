-- What holds of the reference model throughout a run.
-- Assumes nothing.
use mathlib.Core.Path.{◌≡◌, refl, ap, ap₂, subst₂, ◌∙◌}
use mathlib.Core.Bool.{Bool, true, false, cond}
use mathlib.Core.List.{List, [], ◌∷◌, ◌++◌}
use Prim.Native.Nat.{ℕ, ◌+◌, ◌≤◌, ◌<◌, zero-le}
use native.Mathlib.Omega.{arith}
use lib.Dec.{eqb}
use lib.ListN.{length}
use Rattle.laws.specs.Lists.{joined, select}
use Rattle.laws.proofs.Cases.{by-test}
use Rattle.laws.proofs.Selections.{every-none, every_append}
use Rattle.hash.specs.ShaD.{max_pool_length}
use Rattle.generator.specs.Counter.{max_counter}
use Rattle.generator.specs.Steps.{GeneratorState, reseed}
use Rattle.pools.specs.Schedule.{used, used_pools}
use Rattle.pools.proofs.Held.{Held, held-empty, fits-gained, held-keyed, held-other}
use Rattle.reference.specs.Reference.{Accepted, Reference, empty, pending, consumed_at, contents, pool_contents, due_at, append_event, with_state, requested_state, reference_reseed, reference_reseed_if_due, reference_count}
use Rattle.reference.proofs.Bookings.{Past, pending-contents, pending-consumed, pending-gone, pending-stays}

pub record Sound (b : Reference) : Type 0 where
  pub past : Past b.reseeds b.events
  pub held : Held (pool_contents b) b.generator b.key_requests
  pub seeds : b.generator.count ≡ 0 → b.reseeds ≡ 0
  pub marked : b.reseeds ≡ 0 → b.last_reseed ≡ 0

-- nothing is in a pool yet
pub empty-contents : (i : ℕ) → pool_contents empty i ≡ []
unfolding empty pool_contents select contents joined
empty-contents i = refl

pub sound_empty : Sound empty
sound_empty =
    record {
      past = unfold empty in every-none _;
      held = unfold empty in held-empty (pool_contents empty) empty-contents;
      seeds = λ h. unfold empty in refl;
      marked = λ h. unfold empty in refl;
    }

-- ---- the model's words, read once: what it notes of an event, and how many pools a reseed uses

pub events-noted :
    (place : ℕ) (b : Reference) (i : ℕ) (bytes : List ℕ) →
    (append_event place b i bytes).events ≡ b.events ++ (record { place = place; pool = i; bytes = bytes; reseeds_before = b.reseeds } ∷ [])
unfolding append_event
events-noted place b i bytes =
    ap₂ {C = List Accepted} (λ (p r : ℕ). b.events ++ (record { place = place; pool = p; bytes = bytes; reseeds_before = r } ∷ []))
    (omega arith) (omega arith)

pub count-is : (b : Reference) (clock : ℕ) → reference_count b clock ≡ cond (due_at b clock) (length (used_pools (b.reseeds + 1))) 0
unfolding reference_count
count-is b clock = ap (λ (n : ℕ). cond (due_at b clock) (length (used_pools n)) 0) (omega arith)

-- ---- what a pool holds

pub contents-event : (place : ℕ) (b : Reference) (pool : ℕ) (bytes : List ℕ) (i : ℕ)
    → pool_contents (append_event place b pool bytes) i ≡ pool_contents b i ++ cond (eqb pool i) bytes []
unfolding pool_contents append_event
contents-event place b pool bytes i =
    ap (λ (es : List Accepted). contents (select (pending b.reseeds i) es)) (events-noted place b pool bytes)
    ∙ pending-contents i b.events (record { place = place; pool = pool; bytes = bytes; reseeds_before = b.reseeds })

module _ (b : Reference) (t : ℕ) (p : Past b.reseeds b.events) where
  pub contents-used : (i : ℕ) → used (b.reseeds + 1) i ≡ true → pool_contents (reference_reseed b t) i ≡ []
  unfolding pool_contents reference_reseed contents joined
  contents-used i u = ap contents (pending-gone b.reseeds i b.events p u)

  pub contents-unused : (i : ℕ) → used (b.reseeds + 1) i ≡ false → pool_contents (reference_reseed b t) i ≡ pool_contents b i
  unfolding pool_contents reference_reseed
  contents-unused i u = ap contents (pending-stays b.reseeds i b.events p u)

  -- a used pool holds the bytes of the events booked for the next reseed
  pub contents-consumed : (i : ℕ) → used (b.reseeds + 1) i ≡ true → pool_contents b i ≡ contents (select (consumed_at (b.reseeds + 1) i) b.events)
  unfolding pool_contents
  contents-consumed i u = ap contents (pending-consumed b.reseeds i b.events p u)

-- ---- each step keeps it

pub sound-event : (place : ℕ) (b : Reference) (pool : ℕ) (bytes : List ℕ) → length (pool_contents b pool) + length bytes ≤ max_pool_length
    → Sound b → Sound (append_event place b pool bytes)
sound-event place b pool bytes h s =
    record {
      past = rw (events-noted place b pool bytes) (unfold append_event in every_append _ b.events _ s.past (omega arith));
      held = event-held;
      seeds = unfold append_event in s.seeds;
      marked = unfold append_event in s.marked;
    }
  where
    same-requests : b.key_requests ≡ (append_event place b pool bytes).key_requests
    same-requests = unfold append_event in omega arith

    grown : Held (pool_contents (append_event place b pool bytes)) b.generator b.key_requests
    grown =
        held-other s.held (pool_contents (append_event place b pool bytes))
        (λ i. rw (contents-event place b pool bytes i) (fits-gained s.held pool bytes h i))

    same-generator : b.generator ≡ (append_event place b pool bytes).generator
    same-generator = unfold append_event in refl

    event-held :
        let next = append_event place b pool bytes in Held (pool_contents next) next.generator next.key_requests
    event-held = subst₂ (Held (pool_contents (append_event place b pool bytes))) same-generator same-requests grown

pub sound-state : (b : Reference) (w : GeneratorState) → w.count ≤ max_counter → 0 < w.count → Sound b → Sound (with_state b w)
unfolding with_state pool_contents
sound-state b w h pos s =
    record { past = s.past; held = held-keyed s.held w _ h pos; seeds = λ z. absurd (omega arith); marked = s.marked }

pub sound-request : (b : Reference) (w : GeneratorState) → w.count ≤ max_counter → 0 < w.count → Sound b → Sound (requested_state b w)
unfolding requested_state pool_contents
sound-request b w h pos s =
    record { past = s.past; held = held-keyed s.held w _ h pos; seeds = λ z. absurd (omega arith); marked = s.marked }

pub sound-reseed : (b : Reference) (t : ℕ) → b.generator.count + 1 ≤ max_counter → Sound b → Sound (reference_reseed b t)
unfolding reference_reseed reseed
sound-reseed b t h s =
    record {
      past = λ e m. omega (arith, s.past e m);
      held = held-keyed (held-other s.held (pool_contents (reference_reseed b t)) left) _ _ h (omega arith);
      seeds = λ z. absurd (omega arith);
      marked = λ z. absurd (omega arith);
    }
  where
    left : (i : ℕ) → length (pool_contents (reference_reseed b t) i) ≤ max_pool_length
    left i =
        by-test (used (b.reseeds + 1) i) (length (pool_contents (reference_reseed b t) i) ≤ max_pool_length)
        (λ u. rw (contents-used b t s.past i u) zero-le)
        (λ u. rw (contents-unused b t s.past i u) (s.held.fits i))

-- ---- a pool reseed if due

pub count-reseed-if-due : (b : Reference) (t : ℕ) → (reference_reseed_if_due b t).generator.count ≡ b.generator.count + cond (due_at b t) 1 0
unfolding reference_reseed_if_due reference_reseed reseed
count-reseed-if-due b t = go (due_at b t)
  where
    go : (d : Bool) → (cond d (reference_reseed b t) b).generator.count ≡ b.generator.count + cond d 1 0
    go true = refl
    go false = omega arith

pub sound-reseed-if-due : (b : Reference) (t : ℕ) → b.generator.count + cond (due_at b t) 1 0 ≤ max_counter
    → Sound b → Sound (reference_reseed_if_due b t)
unfolding reference_reseed_if_due
sound-reseed-if-due b t h s = go (due_at b t) h
  where
    go : (d : Bool) → b.generator.count + cond d 1 0 ≤ max_counter → Sound (cond d (reference_reseed b t) b)
    go true k = sound-reseed b t k s
    go false k = s
