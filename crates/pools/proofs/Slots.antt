-- The answers of draws and shuffles: a value below n, and the list as the shuffle's own draws leave it, or as it was.
-- Assumes nothing.
use Rattle.std.proofs.Common.{◌≡◌, ℕ, zero, suc, ◌+◌, ◌-◌, ◌<◌, Bool, true, false, cond, ◌&&◌, ltb, List, [], ◌∷◌, length, sym, refl, ◌∙◌, true≢false, arith, ltb-true}
use lib.Dec.{eqb-suc-zero}
use Rattle.laws.proofs.Cases.{split}
use Rattle.slots.specs.Fair.{try_value}
use Rattle.slots.specs.Shuffle.{exchange, shuffled_from, DrawsFor}
use Rattle.slots.proofs.Rearrange.{rearranges}
use Rattle.slots.proofs.Laws.{draws-none, draws-more, shuffled-none, shuffled-more, shuffled-whole}
use Rattle.pools.specs.Refusals.{and_then, max_tries}
use Rattle.pools.specs.Effects.{Effect, unchanged}
use Rattle.pools.specs.Draws.{Drawn, after, leaving, tries, shuffle_from, shuffled, try_at}
use Rattle.pools.specs.Calls.{draw, shuffle, input_buffer, call_number, call_effect, call_found, call_value, effect_of, outcome, step}
use Rattle.pools.specs.Slots.{DrawLaw, draws_of, draws_found, Shuffled, ShuffleLaw}
use Rattle.pools.specs.declared.Fortuna.{Fortuna}

-- ---- the rule

module _ {S : Type 0} (serve : S → Effect S) where
  -- a value that is found is below n
  found_below : (n d : ℕ) (s : S) → (tries serve n d s).found ≡ true → (tries serve n d s).value < n
  unfolding tries
  found_below n zero s e = absurd (true≢false (sym e))
  found_below n (suc d) s e =
      split (λ (o : Drawn S). o.found ≡ true → o.value < n) (ltb (try_value n (serve s).buffer) n)
      (λ t _. ltb-true (try_value n (serve s).buffer) n t)
      (λ t h. found_below n d (serve s).next h)
      e

  -- an order that these draws, in range for the places p down to 1, give
  ByDraws : ℕ → List ℕ → List ℕ → List ℕ → Type 0
  ByDraws p draws list order = DrawsFor p draws × (order ≡ shuffled_from p draws list)

  by-draws :
      (p : ℕ) (list : List ℕ) (s : S) → (shuffle_from serve p list s).found ≡ true →
      ByDraws p (draws_of serve p s) list (shuffle_from serve p list s).effect.buffer
  unfolding shuffle_from draws_of ByDraws unchanged after
  by-draws zero list s e = (draws-none, sym (shuffled-none [] list))
  by-draws (suc p) list s e =
      let d = tries serve (suc p + 1) max_tries s in
      let draws = draws_of serve p d.effect.next in
      split (λ (o : Drawn S). o.found ≡ true → ByDraws (suc p) (d.value ∷ draws) list o.effect.buffer) d.found
      (λ t h.
      let more = by-draws p (exchange (suc p) d.value list) d.effect.next h in
      let below = found_below (suc p + 1) max_tries s t in
      (draws-more p d.value draws (omega arith) more.0, more.1 ∙ sym (shuffled-more p d.value draws list)))
      (λ t h. absurd (true≢false (sym h)))
      e

  -- it is finished if they all find a value
  all_found : (p : ℕ) (list : List ℕ) (s : S) → (shuffle_from serve p list s).found ≡ draws_found serve p s
  unfolding shuffle_from draws_found
  all_found zero list s = refl
  all_found (suc p) list s =
      let d = tries serve (suc p + 1) max_tries s in
      split (λ (o : Drawn S). o.found ≡ (d.found && draws_found serve p d.effect.next)) d.found
      (λ t. rw t (all_found p (exchange (suc p) d.value list) d.effect.next))
      (λ t. rw t)

  shuffle-found : (list : List ℕ) (s : S) → (shuffled serve list s).found ≡ draws_found serve (length list - 1) s
  unfolding shuffled
  shuffle-found list s =
      split (λ (o : Drawn S). o.found ≡ draws_found serve (length list - 1) s) (shuffle_from serve (length list - 1) list s).found
      (λ t. all_found (length list - 1) list s)
      (λ t. sym t ∙ all_found (length list - 1) list s)

  finished :
      (list : List ℕ) (s : S) → (shuffled serve list s).found ≡ true →
      Shuffled (draws_of serve (length list - 1) s) list (shuffled serve list s).effect.buffer
  unfolding shuffled ByDraws
  finished list s e =
      let draws = draws_of serve (length list - 1) s in
      split (λ (o : Drawn S). o.found ≡ true → Shuffled draws list o.effect.buffer) (shuffle_from serve (length list - 1) list s).found
      (λ t h.
      let by = by-draws (length list - 1) list s t in
      let gives = by.1 ∙ sym (shuffled-whole draws list) in
      record { in_range = by.0; gives = gives; rearranged = rw gives (rearranges draws list by.0) })
      (λ t h. absurd (true≢false (sym h)))
      e

  unfinished : (list : List ℕ) (s : S) → (shuffled serve list s).found ≡ false → (shuffled serve list s).effect.buffer ≡ list
  unfolding shuffled leaving
  unfinished list s e =
      split (λ (o : Drawn S). o.found ≡ false → o.effect.buffer ≡ list) (shuffle_from serve (length list - 1) list s).found
      (λ t h. absurd (true≢false (sym t ∙ h)))
      (λ t h. refl)
      e

-- ---- a call's number tells whether it was refused, and whether its draws found a value

done-both : (n : ℕ) (f : Bool) → and_then n (cond f 0 33) ≡ 0 → (n ≡ 0) × (f ≡ true)
unfolding and_then
done-both zero true e = (refl, refl)
done-both zero false e = absurd (omega arith)
done-both (suc n) f e = absurd (not-zero (rw (eqb-suc-zero n) at e))
  where
    not-zero : suc n ≡ 0 → ⊥
    not-zero h = omega arith

pub draw-law : (s : Fortuna) (clock n d : ℕ) → DrawLaw s clock n d
unfolding step outcome effect_of call_found call_value and_then
draw-law s clock n d =
    record {
      answer = λ e. rw e;
      value = λ e. rw e;
      below = λ e.
          let p = done-both (call_number s (draw clock n d)) (tries (try_at clock) n d s).found e in
          rw p.0 (found_below (try_at clock) n d s p.1);
    }

module _ (s : Fortuna) (clock : ℕ) (list : List ℕ) where
  shuffle-done :
      (step s (shuffle clock list)).number ≡ 0 →
      Shuffled (draws_of (try_at clock) (length list - 1) s) list (step s (shuffle clock list)).effect.buffer
  unfolding step outcome effect_of call_found call_effect
  shuffle-done e =
      let p = done-both (call_number s (shuffle clock list)) (shuffled (try_at clock) list s).found e in
      rw p.0 (finished (try_at clock) list s p.1)

  shuffle-answer :
      call_number s (shuffle clock list) ≡ 0 →
      (step s (shuffle clock list)).number ≡ cond (draws_found (try_at clock) (length list - 1) s) 0 33
  unfolding step outcome call_found and_then
  shuffle-answer e = rw (e, shuffle-found (try_at clock) list s)

  shuffle-kept : ((step s (shuffle clock list)).number ≡ 0 → ⊥) → (step s (shuffle clock list)).effect.buffer ≡ list
  unfolding step outcome effect_of call_found call_effect input_buffer and_then
  shuffle-kept h = go (call_number s (shuffle clock list)) (shuffled (try_at clock) list s).found refl h
    where
      go :
          (n : ℕ) (f : Bool) → (shuffled (try_at clock) list s).found ≡ f → (and_then n (cond f 0 33) ≡ 0 → ⊥) →
          (effect_of n list s (shuffled (try_at clock) list s).effect).buffer ≡ list
      go zero true e k = absurd (k refl)
      go zero false e k = unfinished (try_at clock) list s e
      go (suc n) f e k = rw (eqb-suc-zero n) (unfold unchanged in refl)

pub shuffle_law : (s : Fortuna) (clock : ℕ) (list : List ℕ) → ShuffleLaw s clock list
shuffle_law s clock list = record { answer = shuffle-answer s clock list; done = shuffle-done s clock list; kept = shuffle-kept s clock list }
