-- From a shuffle in a copy to what it leaves in the list.
-- Assumes nothing.
use mathlib.Core.Path.{◌≡◌, refl, ◌∙◌, ap}
use mathlib.Core.Bool.{Bool, true, false, cond}
use mathlib.Core.List.{List, ◌++◌}
use Prim.Native.Nat.{ℕ, ◌-◌, zero, suc, ◌+◌, ◌<◌}
use lib.Dec.{eqb}
use lib.ListN.{length}
use Rattle.pools.specs.Draws.{leaving, shuffle_from, shuffled, try_at, Drawn, after, tries}
use Rattle.pools.specs.Promises.{number}
use Rattle.pools.specs.declared.Fortuna.{Fortuna}
use Rattle.pools.specs.declared.Outcome.{Outcome}
use Rattle.draws.specs.Drawing.{DrawsList}
use Rattle.draws.proofs.Shuffling.{found-is, tries-below}
use native.Mathlib.Omega.{arith}
use Rattle.slots.specs.Shuffle.{exchange}
use Rattle.slots.proofs.Laws.{length-exchange, exchange-append}
use Rattle.pools.specs.Refusals.{max_tries}
use Rattle.pools.specs.Effects.{Effect, unchanged}

module _ (clock : ℕ) (s : Fortuna) (list order : List ℕ) (r : Outcome Fortuna)
    (drawn : DrawsList (shuffle_from (try_at clock) (length list - 1) list s) r order) (done : Bool) (tested : done ≡ eqb (number r.answer) 0) where
  is_found : (shuffle_from (try_at clock) (length list - 1) list s).found ≡ done
  is_found = found-is _ _ done drawn.0 tested

  -- every draw found a value: the list becomes what stands in the copy
  pub copy_done : done ≡ true → DrawsList (shuffled (try_at clock) list s) r order
  unfolding shuffled
  copy_done t =
      let f = is_found ∙ t in
      rw f (drawn.0 ∙ rw f, drawn.1, drawn.2, drawn.3)

  -- a draw found none, and the list was left alone
  pub copy-kept : done ≡ false → DrawsList (shuffled (try_at clock) list s) r list
  unfolding shuffled leaving
  copy-kept t =
      let f = is_found ∙ t in
      rw f (drawn.0 ∙ rw f, drawn.1, drawn.2, refl)

-- ---- a list that has more behind the part that is shuffled

-- the same shuffle with ys behind the list, which is n long
abbrev pub Behind : {S : Type 0} → ℕ → List ℕ → Drawn S → Drawn S → Type 0
Behind n ys o longer =
    (longer.found ≡ o.found)
    × (longer.effect.emptied ≡ o.effect.emptied)
    × (longer.effect.next ≡ o.effect.next)
    × (longer.effect.buffer ≡ o.effect.buffer ++ ys)
    × (length o.effect.buffer ≡ n)

behind-case :
    {S : Type 0} (n : ℕ) (ys : List ℕ) (t : Bool) (a b c d : Drawn S) → (t ≡ true → Behind n ys a b) → (t ≡ false → Behind n ys c d) →
    Behind n ys (cond t a c) (cond t b d)
behind-case n ys true a b c d f g = f refl
behind-case n ys false a b c d f g = g refl

pub shuffle-behind :
    {S : Type 0} (serve : S → Effect S) (p : ℕ) (xs ys : List ℕ) (s : S) → p < length xs →
    Behind (length xs) ys (shuffle_from serve p xs s) (shuffle_from serve p (xs ++ ys) s)
unfolding shuffle_from unchanged after leaving
shuffle-behind serve zero xs ys s h = (refl, refl, refl, refl, refl)
shuffle-behind serve (suc p) xs ys s h =
    let d = tries serve (suc p + 1) max_tries s in
    behind-case (length xs) ys d.found _ _ _ _
    (λ t.
    let low = tries-below serve (suc p + 1) max_tries s t in
    let long = length-exchange (suc p) d.value xs in
    let (found, emptied, next, buffer, same) = shuffle-behind serve p (exchange (suc p) d.value xs) ys d.effect.next (rw long (omega arith)) in
    rw (exchange-append (suc p) d.value xs ys h (omega arith)) (found, ap (λ (e : ℕ). d.effect.emptied + e) emptied, next, buffer, same ∙ long))
    (λ t. (refl, refl, refl, refl, refl))
