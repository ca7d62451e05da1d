-- Draws and shuffles with room for their tries: the station's are the model's, and the model stays sound.
-- Assumes nothing.
use mathlib.Core.Path.{◌≡◌, refl, ap}
use mathlib.Core.Bool.{false, cond}
use mathlib.Core.List.{List}
use Prim.Native.Nat.{ℕ, suc, ◌+◌, ◌-◌, ◌*◌, ◌≤◌}
use native.Mathlib.Omega.{arith}
use lib.ListN.{length}
use Rattle.laws.specs.Blocks.{block_count}
use Rattle.laws.proofs.Cases.{split}
use Rattle.generator.specs.Counter.{max_counter}
use Rattle.generator.specs.Closed.{rekeyed, closed_random_data}
use Rattle.pools.specs.declared.Fortuna.{Fortuna}
use Rattle.pools.specs.Refusals.{max_tries}
use Rattle.pools.specs.Effects.{unchanged}
use Rattle.pools.specs.Draws.{Drawn, try_size, after, leaving, tries, shuffled, try_at}
use Rattle.reference.specs.Reference.{Reference, due_at, requested_state, reference_request, reference_try}
use Rattle.reference.specs.Agreement.{concrete}
use Rattle.reference.proofs.Invariant.{Sound, count-reseed-if-due}
use Rattle.reference.proofs.Carried.{kept_list, shuffled-kept, Carries, carried, Follows, tries-follow, shuffle-follows, shuffled-carried}
use Rattle.reference.proofs.Moves.{request-quiet}
use Rattle.reference.proofs.Simulation.{concrete_effect}
use Rattle.reference.proofs.Requests.{request-agrees, request-sound}

concrete-carries : Carries concrete concrete_effect
unfolding concrete_effect unchanged leaving after
concrete-carries = record { buffer = λ e. refl; next = λ e. refl; idle = λ l s. refl; leaves = λ l e. refl; joins = λ e f. refl }

-- what a draw of the model comes to, with the state that it says
abbrev pub concrete_drawn : Drawn Reference → Drawn Fortuna
concrete_drawn o = carried concrete_effect o

module _ (clock : ℕ) where
  -- a model with room for k more tries
  pub record Ready (b : Reference) (k : ℕ) : Type 0 where
    pub sound : Sound b
    pub room : b.generator.count + cond (due_at b clock) 1 0 + 3 * k ≤ max_counter

  pub ready-fewer : (b : Reference) (j k : ℕ) → j ≤ k → Ready b k → Ready b j
  ready-fewer b j k h r = record { sound = r.sound; room = omega (arith, r.room) }

  -- ---- a try

  try-blocks : block_count try_size + 2 ≡ 3
  unfolding block_count try_size
  try-blocks = refl

  module _ (b : Reference) (k : ℕ) (r : Ready b (suc k)) where
    try-room : b.generator.count + cond (due_at b clock) 1 0 + (block_count try_size + 2) ≤ max_counter
    try-room = rw try-blocks (omega (arith, r.room))

    try-agrees : try_at clock (concrete b) ≡ concrete_effect (reference_try clock b)
    unfolding try_at reference_try
    try-agrees = request-agrees b clock try_size r.sound try-room

    try-count : (reference_try clock b).next.generator.count ≡ b.generator.count + cond (due_at b clock) 1 0 + 3
    unfolding reference_try reference_request requested_state closed_random_data rekeyed
    try-count = rw try-blocks (ap (λ (c : ℕ). c + 3) (count-reseed-if-due b clock))

    try-ready : Ready (reference_try clock b).next k
    try-ready =
        let quiet : due_at (reference_try clock b).next clock ≡ false = unfold reference_try in request-quiet b clock try_size in
        record {
          sound = unfold reference_try in request-sound b clock try_size r.sound try-room;
          room = rw quiet (omega (arith, try-count, r.room));
        }

  follows : Follows concrete concrete_effect concrete-carries (reference_try clock) (try_at clock) Ready
  follows = record { same = try-agrees; ready = try-ready; fewer = ready-fewer }

  -- the draws agree, and what is left is sound
  abbrev pub Agreed : Drawn Fortuna → Drawn Reference → Type 0
  Agreed x y = (x ≡ concrete_drawn y) × Sound y.effect.next

  pub tries-agree : (n d : ℕ) (b : Reference) → Ready b d → Agreed (tries (try_at clock) n d (concrete b)) (tries (reference_try clock) n d b)
  tries-agree n d b r =
      let a = tries-follow concrete concrete_effect concrete-carries (reference_try clock) (try_at clock) Ready follows n d 0 b
      (ready-fewer b (d + 0) d (omega arith) r) in
      (a.0, a.1.sound)

  kept-sound : (list : List ℕ) (o : Drawn Reference) → Sound o.effect.next → Sound (kept_list list o).effect.next
  unfolding kept_list leaving
  kept-sound list o s = split (λ (x : Drawn Reference). Sound x.effect.next) o.found (λ t. s) (λ t. s)

  pub shuffle-agrees : (list : List ℕ) (b : Reference) → Ready b (max_tries * (length list - 1))
      → Agreed (shuffled (try_at clock) list (concrete b)) (shuffled (reference_try clock) list b)
  shuffle-agrees list b r =
      let a = shuffle-follows concrete concrete_effect concrete-carries (reference_try clock) (try_at clock) Ready follows (length list - 1) list b r in (
        shuffled-carried concrete concrete_effect concrete-carries (reference_try clock) (try_at clock) Ready follows list b (concrete b) a.0,
        rw (shuffled-kept (reference_try clock) list b) (kept-sound list _ a.1.sound),
      )
