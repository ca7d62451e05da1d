-- What a request, a draw and a shuffle do to R, to the mark and to the events of the reference model.
-- Assumes nothing.
use mathlib.Core.Path.{◌≡◌, refl, sym, ap, ◌∙◌}
use mathlib.Core.Bool.{Bool, true, false, cond, and-false}
use mathlib.Core.List.{List}
use Prim.Native.Nat.{ℕ, suc, ◌+◌, ◌-◌, ◌%◌, ◌^◌, ◌<◌}
use native.Mathlib.Omega.{arith}
use lib.Dec.{leb, ltb}
use lib.ListN.{length}
use borrow.Author.Tests.{lt-ltb}
use Rattle.laws.proofs.Cases.{by-test}
use Rattle.generator.specs.Steps.{GeneratorState}
use Rattle.pools.specs.Schedule.{elapsed, is_due}
use Rattle.pools.specs.Effects.{Effect, unchanged}
use Rattle.pools.specs.Draws.{try_size, after, leaving, tries, shuffled}
use Rattle.pools.proofs.EachTry.{Kept, Begun, begun-tries, begun-shuffled}
use Rattle.reference.specs.Reference.{Reference, pool_contents, waited_at, due_at, with_state, requested_state, reference_reseed, reference_reseed_if_due, reference_count, reference_request, reference_try}
use Rattle.reference.proofs.Invariant.{count-is}
use Rattle.reference.proofs.Concrete.{due-is}

-- where d tells whether a pool reseed was made, at a reading
pub record Moved (b : Reference) (d : Bool) (clock : ℕ) (x : Reference) : Type 0 where
  pub reseeds : x.reseeds ≡ b.reseeds + cond d 1 0
  pub mark : x.last_reseed ≡ cond d clock b.last_reseed
  pub events : x.events ≡ b.events

-- ---- a request

pub reseed-moves : (b : Reference) (clock : ℕ) (d : Bool) → Moved b d clock (cond d (reference_reseed b clock) b)
unfolding reference_reseed
reseed-moves b clock true = record { reseeds = refl; mark = omega arith; events = refl }
reseed-moves b clock false = record { reseeds = omega arith; mark = refl; events = refl }

pub request-moves : (b : Reference) (clock n : ℕ) → Moved b (due_at b clock) clock (reference_request b clock n).next
unfolding reference_request reference_reseed_if_due requested_state
request-moves b clock n =
    let m = reseed-moves b clock (due_at b clock) in
    record { reseeds = m.reseeds; mark = m.mark; events = m.events }

module _ (b : Reference) (w : GeneratorState) (clock : ℕ) where
  pub state-due : due_at (with_state b w) clock ≡ due_at b clock
  unfolding with_state waited_at due_at pool_contents
  state-due = refl

  pub state-moves : (n : ℕ) → Moved b (due_at b clock) clock (reference_request (with_state b w) clock n).next
  unfolding with_state
  state-moves n =
      let m = request-moves (with_state b w) clock n in
      record {
        reseeds = m.reseeds ∙ ap (λ (d : Bool). b.reseeds + cond d 1 0) state-due;
        mark = m.mark ∙ ap (λ (d : Bool). cond d clock b.last_reseed) state-due;
        events = m.events;
      }

-- ---- after it none is due at the same reading

-- no time went by since a reseed
made-now : (size n mark clock : ℕ) → mark ≡ clock → is_due size (ltb 0 (n + 1)) mark clock ≡ false
unfolding is_due elapsed
made-now size n mark clock e =
    let none : (clock % 2 ^ 32 + (2 ^ 32 - mark % 2 ^ 32)) % 2 ^ 32 ≡ 0 = omega arith in
    rw (lt-ltb 0 (n + 1) (omega arith), none) (and-false (leb 64 size))

just-reseeded : (b : Reference) (clock : ℕ) → due_at (reference_reseed b clock) clock ≡ false
unfolding reference_reseed
just-reseeded b clock = sym (due-is (reference_reseed b clock) clock) ∙ made-now _ b.reseeds _ clock (omega arith)

requested-due : (b : Reference) (w : GeneratorState) (clock : ℕ) → due_at (requested_state b w) clock ≡ due_at b clock
unfolding requested_state waited_at due_at pool_contents
requested-due b w clock = refl

pub request-quiet : (b : Reference) (clock n : ℕ) → due_at (reference_request b clock n).next clock ≡ false
unfolding reference_request reference_reseed_if_due
request-quiet b clock n =
    by-test (due_at b clock) _
    (λ t. rw t (requested-due (reference_reseed b clock) _ clock ∙ just-reseeded b clock))
    (λ t. rw t (requested-due b _ clock ∙ t))

-- ---- draws and shuffles: the reseed of the first try

module _ (clock : ℕ) where
  moved_on : (b x y : Reference) (d : Bool) → Moved b d clock x → Moved x false clock y → Moved b d clock y
  moved_on b x y d p q =
      record { reseeds = q.reseeds ∙ rw p.reseeds (omega arith); mark = q.mark ∙ p.mark; events = q.events ∙ p.events }

  Still : Reference → Effect Reference → Type 0
  Still b e = due_at b clock ≡ false → Moved b false clock e.next × (due_at e.next clock ≡ false) × (e.emptied ≡ 0)

  First : Reference → Effect Reference → Type 0
  First b e = Moved b (due_at b clock) clock e.next × (due_at e.next clock ≡ false) × (e.emptied ≡ reference_count b clock)

  still : Kept (reference_try clock) Still
  unfolding Still reference_try
  still = record {
    idle = λ b l h. unfold unchanged in (reseed-moves b clock false, h, refl);
    other = λ b e l q. unfold leaving in q;
    served = λ b h. (rw h at (request-moves b clock try_size), request-quiet b clock try_size, unfold reference_request in rw (count-is b clock, h));
    next = λ b e f q r h. unfold after in
        let x = q h in
        let y = r x.1 in
        (moved_on b e.next f.next false x.0 y.0, y.1, rw (x.2, y.2));
  }

  first : Begun (reference_try clock) First Still
  unfolding First Still reference_try
  first = record {
    other = λ b e l q. unfold leaving in q;
    served = λ b. (request-moves b clock try_size, request-quiet b clock try_size, unfold reference_request in refl);
    next = λ b e f q r. unfold after in
        let y = r q.1 in
        (moved_on b e.next f.next (due_at b clock) q.0 y.0, y.1, rw y.2 (omega (arith, q.2)));
  }

  pub draw-first : (n d : ℕ) (b : Reference) →
      Moved b (due_at b clock) clock (tries (reference_try clock) n (suc d) b).effect.next
      × ((tries (reference_try clock) n (suc d) b).effect.emptied ≡ reference_count b clock)
  unfolding First
  draw-first n d b = let f = begun-tries (reference_try clock) Still still First first n d b in (f.0, f.2)

  pub shuffle-first : (list : List ℕ) (b : Reference) → 1 < length list →
      Moved b (due_at b clock) clock (shuffled (reference_try clock) list b).effect.next
      × ((shuffled (reference_try clock) list b).effect.emptied ≡ reference_count b clock)
  unfolding First
  shuffle-first list b h = let f = begun-shuffled (reference_try clock) Still still First first list b h in (f.0, f.2)
