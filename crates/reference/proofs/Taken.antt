-- What a call draws from the generator: in the model a draw and a shuffle are those of K and C alone, from the first try's reseed on.
-- Assumes nothing.
use mathlib.Core.Path.{◌≡◌, refl, sym, ap, ◌∙◌}
use mathlib.Core.Bool.{Bool, false, cond}
use mathlib.Core.List.{List}
use Prim.Native.Nat.{ℕ, suc, ◌-◌, ◌<◌}
use native.Mathlib.Omega.{arith}
use lib.ListN.{length}
use Rattle.generator.specs.Steps.{GeneratorState, Generated}
use Rattle.generator.proofs.Steps.{random-data-closed}
use Rattle.pools.specs.Effects.{Effect, unchanged}
use Rattle.pools.specs.Draws.{try_size, after, leaving, tries, shuffle_from, shuffled}
use Rattle.reference.specs.Reference.{Reference, due_at, requested_state, reference_reseed, reference_reseed_if_due, reference_request, reference_try}
use Rattle.reference.specs.Provenance.{served}
use Rattle.reference.proofs.Carried.{Carries, carried, Follows, tries-from, shuffle-from, shuffled-carried}
use Rattle.reference.proofs.Moves.{request-quiet}

-- an effect, of K and C alone
unfoldable pub alone : Effect Reference → Effect GeneratorState
alone e = record { emptied = 0; buffer = e.buffer; next = e.next.generator; trace = e.trace }

abbrev key_of : Reference → GeneratorState
key_of b = b.generator

alone-carries : Carries key_of alone
unfolding alone unchanged leaving after
alone-carries = record { buffer = λ e. refl; next = λ e. refl; idle = λ l b. refl; leaves = λ l e. refl; joins = λ e f. refl }

pub request-alone : (b : Reference) (clock n : ℕ) → served n (reference_reseed_if_due b clock).generator ≡ alone (reference_request b clock n)
unfolding alone reference_request served requested_state
request-alone b clock n =
    ap (λ (made : Generated). record { emptied = 0; buffer = made.bytes; next = made.next; trace = made.trace })
    (random-data-closed (reference_reseed_if_due b clock).generator n)

module _ (clock : ℕ) where
  -- no reseed is due at the reading
  Quiet : Reference → ℕ → Type 0
  Quiet b k = due_at b clock ≡ false

  try-alone : (b : Reference) → served try_size (reference_reseed_if_due b clock).generator ≡ alone (reference_try clock b)
  unfolding reference_try
  try-alone b = request-alone b clock try_size

  quiet-key : (b : Reference) → due_at b clock ≡ false → b.generator ≡ (reference_reseed_if_due b clock).generator
  unfolding reference_reseed_if_due
  quiet-key b q = sym (ap (λ (t : Bool). (cond t (reference_reseed b clock) b).generator) q)

  quiet_next : (b : Reference) → due_at (reference_try clock b).next clock ≡ false
  unfolding reference_try
  quiet_next b = request-quiet b clock try_size

  follows : Follows key_of alone alone-carries (reference_try clock) (served try_size) Quiet
  unfolding Quiet
  follows = record {
    same = λ b k q. ap (served try_size) (quiet-key b q) ∙ try-alone b;
    ready = λ b k q. quiet_next b;
    fewer = λ b j k l q. q;
  }

  pub draw-alone : (n d : ℕ) (b : Reference) → tries (served try_size) n (suc d) (reference_reseed_if_due b clock).generator
      ≡ carried alone (tries (reference_try clock) n (suc d) b)
  unfolding Quiet
  draw-alone n d b = (tries-from key_of alone alone-carries (reference_try clock) (served try_size) Quiet follows n d 0 b
      (reference_reseed_if_due b clock).generator (try-alone b) (quiet_next b)).0

  places-alone : (p : ℕ) (list : List ℕ) (b : Reference) → shuffle_from (served try_size) (suc p) list (reference_reseed_if_due b clock).generator
      ≡ carried alone (shuffle_from (reference_try clock) (suc p) list b)
  unfolding Quiet
  places-alone p list b = shuffle-from key_of alone alone-carries (reference_try clock) (served try_size) Quiet follows p list b
      (reference_reseed_if_due b clock).generator (try-alone b) (quiet_next b)

  pub shuffle-alone : (list : List ℕ) (b : Reference) → 1 < length list → shuffled (served try_size) list (reference_reseed_if_due b clock).generator
      ≡ carried alone (shuffled (reference_try clock) list b)
  shuffle-alone list b h =
      let last : length list - 1 ≡ suc (length list - 2) = omega arith in
      shuffled-carried key_of alone alone-carries (reference_try clock) (served try_size) Quiet follows list b (reference_reseed_if_due b clock).generator
      (rw last (places-alone (length list - 2) list b))
