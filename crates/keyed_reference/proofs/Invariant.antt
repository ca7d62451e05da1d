-- What holds of the reference model throughout a run, and what its pools hold after an event.
-- Assumes nothing.
use mathlib.Core.Path.{◌≡◌, refl, ap}
use mathlib.Core.Bool.{Bool, true, false, cond}
use mathlib.Core.List.{List, [], ◌∷◌, ◌++◌}
use Prim.Native.Nat.{ℕ, ◌+◌, ◌≤◌, ◌<◌, zero-le}
use native.Mathlib.Omega.{arith}
use lib.Dec.{eqb}
use lib.ListN.{length}
use borrow.Author.Tests.{eqb-true, eqb-false}
use Rattle.laws.specs.Lists.{joined, select}
use Rattle.laws.proofs.Cases.{by-test}
use Rattle.laws.proofs.Selections.{every-none, every_append}
use Rattle.hash.specs.ShaD.{max_pool_length}
use Rattle.generator.specs.Counter.{max_counter}
use Rattle.generator.specs.Steps.{GeneratorState, reseed}
use Rattle.generator.proofs.Laws.{reseed-count}
use Rattle.pools.proofs.Held.{Held, held-empty, fits-gained, held-keyed, held-other}
use Rattle.keyed.specs.Scheduler.{input_pool, empties, takes}
use Rattle.keyed.specs.Refusals.{max_step}
use Rattle.keyed_reference.specs.Reference.{Accepted, Reference, empty, pending, contents, pool_contents, noted, reference_event}
use Rattle.keyed_reference.proofs.Schedule.{input-small}
use Rattle.keyed_reference.proofs.Bookings.{Past, pending-contents, pending-gone, pending-stays}

pub record Sound (b : Reference) : Type 0 where
  pub past : Past b.steps b.events
  pub held : Held (pool_contents b) b.generator b.key_requests
  pub left : b.steps ≤ max_step

pub empty-contents : (i : ℕ) → pool_contents empty i ≡ []
unfolding empty pool_contents select contents joined
empty-contents i = refl

pub sound_empty : Sound empty
sound_empty =
    record {
      past = unfold empty in every-none _;
      held = unfold empty in held-empty (pool_contents empty) empty-contents;
      left = unfold empty in zero-le;
    }

-- ---- an event

-- the event that a call at a place notes
abbrev pub new_event : List ℕ → ℕ → Reference → List ℕ → Accepted
new_event key place b bytes = record { place = place; pool = input_pool key b.steps; bytes = bytes; step = b.steps }

module _ (key : List ℕ) (place : ℕ) (b : Reference) (bytes : List ℕ) where
  pub noted-is : noted key place b bytes ≡ b.events ++ (new_event key place b bytes ∷ [])
  unfolding noted
  noted-is = refl

  -- what pool i holds once the event is in its pool, and nothing is emptied yet
  unfoldable pub gained_contents : ℕ → List ℕ
  gained_contents i = contents (select (pending b.steps i) (noted key place b bytes))

  pub contents-gained : (i : ℕ) → gained_contents i ≡ pool_contents b i ++ cond (eqb (input_pool key b.steps) i) bytes []
  unfolding gained_contents pool_contents noted
  contents-gained i = pending-contents i b.events (new_event key place b bytes)

  module _ (p : Past b.steps b.events) where
    pub past-noted : Past (b.steps + 1) (noted key place b bytes)
    unfolding noted
    past-noted =
        every_append (λ (e : Accepted). (e.step < b.steps + 1) × (e.pool < 32)) b.events (new_event key place b bytes)
        (λ e m. let h = p e m in (omega arith, h.1)) (omega arith, input-small key b.steps)

    pub contents-taken : (i : ℕ) → takes b.steps i ≡ true → pool_contents (reference_event key place b bytes).next i ≡ []
    unfolding pool_contents reference_event contents joined
    contents-taken i u = ap contents (pending-gone b.steps i (noted key place b bytes) past-noted u)

    pub contents-kept : (i : ℕ) → takes b.steps i ≡ false → pool_contents (reference_event key place b bytes).next i ≡ gained_contents i
    unfolding pool_contents reference_event gained_contents
    contents-kept i u = ap contents (pending-stays b.steps i (noted key place b bytes) past-noted u)

  -- the strings after the event
  event-fits :
      length (pool_contents b (input_pool key b.steps)) + length bytes ≤ max_pool_length → Sound b →
      (i : ℕ) → length (pool_contents (reference_event key place b bytes).next i) ≤ max_pool_length
  event-fits h s i =
      by-test (takes b.steps i) _
      (λ u. rw (contents-taken s.past i u) zero-le)
      (λ u. rw (contents-kept s.past i u, contents-gained i) (fits-gained s.held (input_pool key b.steps) bytes h i))

  -- K, C and the requests once it has emptied a pool, or none
  event-held :
      (held : ℕ → List ℕ) → Held held b.generator b.key_requests → (t : Bool) (d : List ℕ) →
      (t ≡ true → b.generator.count + 1 ≤ max_counter) →
      Held held (cond t (reseed b.generator d) b.generator) (cond t 0 b.key_requests)
  event-held held h true d room =
      held-keyed h (reseed b.generator d) 0 (rw (reseed-count b.generator d) (room refl)) (omega (arith, reseed-count b.generator d))
  event-held held h false d room = h

  pub sound-event :
      length (pool_contents b (input_pool key b.steps)) + length bytes ≤ max_pool_length →
      (empties b.steps ≡ true → b.generator.count + 1 ≤ max_counter) → (b.steps ≡ max_step → ⊥) → Sound b →
      Sound (reference_event key place b bytes).next
  sound-event h room more s =
      record {
        past = unfold reference_event in past-noted s.past;
        held = after-held;
        left = unfold reference_event in one_left;
      }
    where
      one_left : b.steps + 1 ≤ max_step
      one_left =
          by-test (eqb b.steps max_step) _
          (λ e. absurd (more (eqb-true b.steps max_step e)))
          (λ e. omega (arith, s.left, eqb-false b.steps max_step e))

      after-held :
          let next = (reference_event key place b bytes).next in Held (pool_contents next) next.generator next.key_requests
      after-held =
          let contents-now : ℕ → List ℕ = pool_contents (reference_event key place b bytes).next in
          let fit : Held contents-now b.generator b.key_requests = held-other s.held contents-now (event-fits h s) in
          unfold reference_event in event-held _ fit (empties b.steps) _ room

-- ---- a request

unfoldable pub requested_state : Reference → GeneratorState → Reference
requested_state b w = record { generator = w; steps = b.steps; events = b.events; key_requests = b.key_requests + 1 }

pub sound-requested : (b : Reference) (w : GeneratorState) → w.count ≤ max_counter → 0 < w.count → Sound b → Sound (requested_state b w)
unfolding requested_state pool_contents
sound-requested b w h pos s = record { past = s.past; held = held-keyed s.held w _ h pos; left = s.left }
