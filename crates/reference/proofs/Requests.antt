-- A request with room for its blocks: the station's is the model's, and the model stays sound.
-- Assumes nothing.
use mathlib.Core.Path.{◌≡◌, refl}
use mathlib.Core.Bool.{cond}
use mathlib.Core.List.{List}
use Prim.Native.Nat.{ℕ, ◌+◌, ◌≤◌}
use native.Mathlib.Omega.{arith}
use Rattle.laws.specs.Blocks.{block_count}
use Rattle.generator.specs.Counter.{max_counter}
use Rattle.generator.specs.Steps.{reseed}
use Rattle.generator.specs.Closed.{rekeyed, closed_random_data}
use Rattle.pools.specs.Refusals.{seed_size}
use Rattle.pools.specs.Effects.{random_data, update_seed}
use Rattle.reference.specs.Reference.{Reference, due_at, with_state, reference_reseed_if_due, reference_request}
use Rattle.reference.specs.Agreement.{concrete}
use Rattle.reference.proofs.Invariant.{Sound, sound-state, sound-request, sound-reseed-if-due, count-reseed-if-due}
use Rattle.reference.proofs.Moves.{state-due}
use Rattle.reference.proofs.Simulation.{concrete_effect, random-data-concrete, reseed-with-seed-concrete}

module _ (b : Reference) (t n : ℕ) (s : Sound b) (room : b.generator.count + cond (due_at b t) 1 0 + (block_count n + 2) ≤ max_counter) where
  reseeded-sound : Sound (reference_reseed_if_due b t)
  reseeded-sound = sound-reseed-if-due b t (omega arith) s

  pub request-agrees : random_data (concrete b) t n ≡ concrete_effect (reference_request b t n)
  request-agrees = random-data-concrete b t n s reseeded-sound

  pub request-sound : Sound (reference_request b t n).next
  unfolding reference_request closed_random_data
  request-sound =
      let r = reference_reseed_if_due b t in
      sound-request r (rekeyed r.generator n) (unfold rekeyed in omega (arith, count-reseed-if-due b t)) (unfold rekeyed in omega arith) reseeded-sound

-- ---- a seed update

-- its reseed, before its request
abbrev pub seeded : Reference → List ℕ → Reference
seeded b seed = with_state b (reseed b.generator seed)

module _ (b : Reference) (seed : List ℕ) where
  seeded-count : (seeded b seed).generator.count ≡ b.generator.count + 1
  unfolding with_state reseed
  seeded-count = refl

  -- with room for its reseed and its blocks
  module _ (t : ℕ) (s : Sound b) (room : b.generator.count + cond (due_at b t) 1 0 + 7 ≤ max_counter) where
    seeded-sound : Sound (seeded b seed)
    unfolding reseed
    seeded-sound = sound-state b (reseed b.generator seed) (omega arith) (omega arith) s

    seeded-room : (seeded b seed).generator.count + cond (due_at (seeded b seed) t) 1 0 + (block_count seed_size + 2) ≤ max_counter
    unfolding block_count seed_size
    seeded-room = rw (state-due b (reseed b.generator seed) t, seeded-count) (omega arith)

    pub update_agrees : update_seed (concrete b) t seed ≡ concrete_effect (reference_request (seeded b seed) t seed_size)
    unfolding update_seed
    update_agrees = rw (reseed-with-seed-concrete b seed s) (request-agrees (seeded b seed) t seed_size seeded-sound seeded-room)

    pub update-sound : Sound (reference_request (seeded b seed) t seed_size).next
    update-sound = request-sound (seeded b seed) t seed_size seeded-sound seeded-room
