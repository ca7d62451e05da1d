-- What holds of each try, and of one effect after another, holds of a draw and of a shuffle.
-- Assumes nothing.
use mathlib.Core.Path.{refl}
use mathlib.Core.Bool.{Bool, ◌&&◌}
use borrow.Author.Tests.{lt-ltb, ltb-true, ltb-false}
use Rattle.std.proofs.Common.{◌≡◌, ℕ, zero, suc, ◌+◌, ◌-◌, ◌<◌, ◌≤◌, true, ltb, List, [], length, arith}
use Rattle.laws.proofs.Cases.{split, by-test}
use Rattle.slots.specs.Fair.{try_value}
use Rattle.slots.specs.Shuffle.{exchange}
use Rattle.pools.specs.Refusals.{max_tries}
use Rattle.pools.specs.Effects.{Effect, unchanged}
use Rattle.pools.specs.Draws.{Drawn, after, leaving, tries, shuffle_from, shuffled}

module _ {S : Type 0} (serve : S → Effect S) where
  -- of the effects from each state
  pub record Kept (Q : S → Effect S → Type 0) : Type 0 where
    pub idle : (s : S) (l : List ℕ) → Q s (unchanged l s)
    pub other : (s : S) (e : Effect S) (l : List ℕ) → Q s e → Q s (leaving l e)
    pub served : (s : S) → Q s (serve s)
    pub next : (s : S) (e f : Effect S) → Q s e → Q e.next f → Q s (after e f)

  -- of the effects that begin with a try
  pub record Begun (Q₁ Q : S → Effect S → Type 0) : Type 0 where
    pub other : (s : S) (e : Effect S) (l : List ℕ) → Q₁ s e → Q₁ s (leaving l e)
    pub served : (s : S) → Q₁ s (serve s)
    pub next : (s : S) (e f : Effect S) → Q₁ s e → Q e.next f → Q₁ s (after e f)

  module _ (Q : S → Effect S → Type 0) (k : Kept Q) where
    pub kept-tries : (n d : ℕ) (s : S) → Q s (tries serve n d s).effect
    unfolding tries
    kept-tries n zero s = k.idle s []
    kept-tries n (suc d) s =
        split (λ (o : Drawn S). Q s o.effect) (ltb (try_value n (serve s).buffer) n)
        (λ t. k.other s (serve s) [] (k.served s))
        (λ t. k.next s (serve s) _ (k.served s) (kept-tries n d (serve s).next))

    pub kept-shuffle : (p : ℕ) (list : List ℕ) (s : S) → Q s (shuffle_from serve p list s).effect
    unfolding shuffle_from
    kept-shuffle zero list s = k.idle s list
    kept-shuffle (suc p) list s =
        let d = tries serve (suc p + 1) max_tries s in
        let drawn = kept-tries (suc p + 1) max_tries s in
        split (λ (o : Drawn S). Q s o.effect) d.found
        (λ t. k.next s d.effect _ drawn (kept-shuffle p (exchange (suc p) d.value list) d.effect.next))
        (λ t. k.other s d.effect list drawn)

    pub kept-shuffled : (list : List ℕ) (s : S) → Q s (shuffled serve list s).effect
    unfolding shuffled
    kept-shuffled list s =
        let o = shuffle_from serve (length list - 1) list s in
        let kept = kept-shuffle (length list - 1) list s in
        split (λ (x : Drawn S). Q s x.effect) o.found (λ t. kept) (λ t. k.other s o.effect list kept)

    module _ (Q₁ : S → Effect S → Type 0) (b : Begun Q₁ Q) where
      pub begun-tries : (n d : ℕ) (s : S) → Q₁ s (tries serve n (suc d) s).effect
      unfolding tries
      begun-tries n d s =
          split (λ (o : Drawn S). Q₁ s o.effect) (ltb (try_value n (serve s).buffer) n)
          (λ t. b.other s (serve s) [] (b.served s))
          (λ t. b.next s (serve s) _ (b.served s) (kept-tries n d (serve s).next))

      begun-draw : (n : ℕ) (s : S) → Q₁ s (tries serve n max_tries s).effect
      unfolding max_tries
      begun-draw n s = begun-tries n 63 s

      pub begun-shuffle : (p : ℕ) (list : List ℕ) (s : S) → Q₁ s (shuffle_from serve (suc p) list s).effect
      unfolding shuffle_from
      begun-shuffle p list s =
          let d = tries serve (suc p + 1) max_tries s in
          let drawn = begun-draw (suc p + 1) s in
          split (λ (o : Drawn S). Q₁ s o.effect) d.found
          (λ t. b.next s d.effect _ drawn (kept-shuffle p (exchange (suc p) d.value list) d.effect.next))
          (λ t. b.other s d.effect list drawn)

      pub begun-shuffled : (list : List ℕ) (s : S) → 1 < length list → Q₁ s (shuffled serve list s).effect
      unfolding shuffled
      begun-shuffled list s h =
          let last : length list - 1 ≡ suc (length list - 2) = omega arith in
          let o = shuffle_from serve (length list - 1) list s in
          let begun : Q₁ s o.effect = rw last (begun-shuffle (length list - 2) list s) in
          split (λ (x : Drawn S). Q₁ s x.effect) o.found (λ t. begun) (λ t. b.other s o.effect list begun)

  -- a list of fewer than 2 numbers makes no try
  pub idle-shuffle : (list : List ℕ) (s : S) → length list ≤ 1 → shuffled serve list s ≡ record { found = true; value = 0; effect = unchanged list s }
  unfolding shuffled shuffle_from
  idle-shuffle list s h = let none : length list - 1 ≡ 0 = omega arith in rw none

  -- whether a draw and a shuffle empty pools, where their first try tells how many it empties and a state tells whether one does
  module _ (count : S → ℕ) (is_due : S → Bool) (told : (s : S) → ltb 0 (count s) ≡ is_due s) where
    pub draw-empties :
        ((n d : ℕ) (s : S) → (tries serve n (suc d) s).effect.emptied ≡ count s)
        → (n d : ℕ) (s : S) → ltb 0 (tries serve n d s).effect.emptied ≡ (ltb 0 d && is_due s)
    draw-empties first n zero s = unfold tries unchanged in refl
    draw-empties first n (suc d) s = rw (lt-ltb 0 (suc d) (omega arith), first n d s) (told s)

    pub shuffle-empties :
        ((list : List ℕ) (s : S) → 1 < length list → (shuffled serve list s).effect.emptied ≡ count s)
        → (list : List ℕ) (s : S) → ltb 0 (shuffled serve list s).effect.emptied ≡ (ltb 1 (length list) && is_due s)
    shuffle-empties first list s =
        by-test (ltb 1 (length list)) _
        (λ t. rw (t, first list s (ltb-true 1 (length list) t)) (told s))
        (λ t. rw (t, idle-shuffle list s (ltb-false 1 (length list) t)) (unfold unchanged in refl))
