-- From what the tries come to, to the outcome of a draw or a shuffle.
-- Assumes nothing.
use mathlib.Core.Path.{◌≡◌, sym, ap, ◌∙◌}
use mathlib.Core.Bool.{Bool, true, false, cond}
use mathlib.Core.List.{List}
use Prim.Native.Nat.{ℕ, ◌≤◌}
use lib.Dec.{eqb}
use lib.ListN.{length}
use borrow.Author.Tests.{eqb-true}
use Rattle.pools.specs.Refusals.{and_then}
use Rattle.pools.specs.Effects.{Effect, unchanged}
use Rattle.pools.specs.Draws.{Drawn, tries, shuffled, try_at}
use Rattle.pools.specs.Calls.{Call, draw, shuffle, input_buffer, call_number, call_effect, call_found, call_value, outcome, step}
use Rattle.pools.specs.Promises.{GivesValue, GivesBytes}
use Rattle.pools.specs.declared.Fortuna.{Fortuna}
use Rattle.pools.specs.declared.Outcome.{Outcome}
use Rattle.pools.proofs.EachTry.{idle-shuffle}
use Rattle.pools.proofs.Outcomes.{done, kept}
use Rattle.draws.specs.Drawing.{DrawsValue, DrawsList}
use Rattle.draws.specs.declared.draw.Draw.{Draw}

-- ---- k is the number that the code came to, d its test for a call that is done

module _ (s : Fortuna) (call : Call) (k : ℕ) (d : Bool) (numbered : k ≡ call_number s call) (tested : d ≡ eqb k 0) where
  done-number : d ≡ true → (step s call).number ≡ cond (call_found s call) 0 33
  unfolding step outcome and_then
  done-number t = rw (← numbered, ← tested, t)

  done-value : d ≡ true → (step s call).value ≡ call_value s call
  unfolding step outcome
  done-value t = rw (← numbered, ← tested, t)

  kept-number : d ≡ false → (step s call).number ≡ k
  unfolding step outcome and_then
  kept-number t = rw (← numbered, ← tested, t)

  kept-value : d ≡ false → (step s call).value ≡ 0
  unfolding step outcome
  kept-value t = rw (← numbered, ← tested, t)

-- ---- a draw

module _ (s : Fortuna) (clock n times k : ℕ) (d : Bool) (numbered : k ≡ call_number s (draw clock n times)) (tested : d ≡ eqb k 0) where
  pub draw-done : (r : Draw) → d ≡ true → DrawsValue (tries (try_at clock) n times s) r → GivesValue (step s (draw clock n times)) r.answer r.emptied r.next
  unfolding call_effect call_found call_value
  draw-done r t (answer, emptied, value, next) =
      let is = done s (draw clock n times) k d numbered tested t in (
        answer ∙ sym (done-number s (draw clock n times) k d numbered tested t),
        emptied ∙ ap (λ (e : Effect Fortuna). e.emptied) is,
        value ∙ sym (done-value s (draw clock n times) k d numbered tested t),
        next ∙ ap (λ (e : Effect Fortuna). e.next) is,
      )

  pub draw-kept : d ≡ false
      → (k ≡ (step s (draw clock n times)).number)
      × (0 ≡ (step s (draw clock n times)).effect.emptied)
      × (0 ≡ (step s (draw clock n times)).value)
      × (s ≡ (step s (draw clock n times)).effect.next)
  unfolding unchanged
  draw-kept t =
      let is = kept s (draw clock n times) k d numbered tested t in (
        sym (kept-number s (draw clock n times) k d numbered tested t),
        ap (λ (e : Effect Fortuna). e.emptied) is,
        sym (kept-value s (draw clock n times) k d numbered tested t),
        ap (λ (e : Effect Fortuna). e.next) is,
      )

-- ---- a shuffle

module _ (s : Fortuna) (clock : ℕ) (list : List ℕ) (k : ℕ) (d : Bool) (numbered : k ≡ call_number s (shuffle clock list)) (tested : d ≡ eqb k 0) where
  pub shuffle-done : (r : Outcome Fortuna) (out : List ℕ) → d ≡ true → DrawsList (shuffled (try_at clock) list s) r out
      → GivesBytes (step s (shuffle clock list)) r out
  unfolding call_effect call_found
  shuffle-done r out t (answer, emptied, next, buffer) =
      let is = done s (shuffle clock list) k d numbered tested t in (
        (
          answer ∙ sym (done-number s (shuffle clock list) k d numbered tested t),
          emptied ∙ ap (λ (e : Effect Fortuna). e.emptied) is,
          next ∙ ap (λ (e : Effect Fortuna). e.next) is,
        ),
        buffer ∙ ap (λ (e : Effect Fortuna). e.buffer) is,
      )

  abbrev Same : Type 0
  Same =
      ((k ≡ (step s (shuffle clock list)).number) × (0 ≡ (step s (shuffle clock list)).effect.emptied) × (s ≡ (step s (shuffle clock list)).effect.next))
      × (list ≡ (step s (shuffle clock list)).effect.buffer)

  same : k ≡ (step s (shuffle clock list)).number → unchanged list s ≡ (step s (shuffle clock list)).effect → Same
  unfolding unchanged
  same answer is = (
    (answer, ap (λ (e : Effect Fortuna). e.emptied) is, ap (λ (e : Effect Fortuna). e.next) is),
    ap (λ (e : Effect Fortuna). e.buffer) is,
  )

  pub shuffle-short : d ≡ true → length list ≤ 1 → Same
  unfolding call_effect call_found
  shuffle-short t h =
      let idle = idle-shuffle (try_at clock) list s h in
      let zero : k ≡ 0 = eqb-true k 0 (sym tested ∙ t) in
      same
      (zero ∙ sym (done-number s (shuffle clock list) k d numbered tested t ∙ ap (λ (o : Drawn Fortuna). cond o.found 0 33) idle))
      (sym (ap (λ (o : Drawn Fortuna). o.effect) idle) ∙ done s (shuffle clock list) k d numbered tested t)

  pub shuffle-kept : d ≡ false → Same
  unfolding input_buffer
  shuffle-kept t = same (sym (kept-number s (shuffle clock list) k d numbered tested t)) (kept s (shuffle clock list) k d numbered tested t)
