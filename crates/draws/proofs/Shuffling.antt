-- The draws of a shuffle, one place at a time.
-- Assumes nothing.
use mathlib.Core.Path.{◌≡◌, refl, sym, ap, ◌∙◌, subst}
use mathlib.Core.Bool.{Bool, true, false, cond}
use mathlib.Core.List.{List}
use Prim.Native.Nat.{ℕ, zero, suc, ◌+◌, ◌-◌, ◌*◌, ◌≤◌, ◌<◌}
use native.Mathlib.Nat.{zero-add, not-suc-le-zero}
use native.Mathlib.Omega.{arith}
use lib.Dec.{eqb, ltb}
use borrow.Author.Tests.{ltb-true}
use Rattle.laws.proofs.Cases.{split}
use Rattle.slots.specs.Fair.{try_value}
use Rattle.slots.specs.Shuffle.{exchange}
use Rattle.pools.specs.Refusals.{max_tries}
use Rattle.pools.specs.Effects.{Effect, unchanged}
use Rattle.pools.specs.Draws.{Drawn, after, leaving, tries, shuffle_from, try_at}
use Rattle.pools.specs.Promises.{number, value_of}
use Rattle.pools.specs.Tries.{Passing}
use Rattle.pools.specs.declared.Fortuna.{Fortuna}
use Rattle.pools.proofs.Tries.{tries-pools, tries-passing}
use Rattle.draws.specs.Drawing.{DrawsValue}
use Rattle.draws.specs.declared.draw.Draw.{Draw}
use Rattle.draws.proofs.Trying.{Ready}

-- ---- a draw's answer

-- the code's test of the answer is whether a value was found
pub found-is : (k : ℕ) (found done : Bool) → k ≡ cond found 0 33 → done ≡ eqb k 0 → found ≡ done
found-is k true done h t = sym (rw h at t)
found-is k false done h t = sym (rw h at t)

-- a value that was found is below n
pub tries-below : {S : Type 0} (serve : S → Effect S) (n d : ℕ) (s : S) → (tries serve n d s).found ≡ true → (tries serve n d s).value < n
unfolding tries
tries-below serve n zero s f = let z : ◌≡◌ {A = ℕ} 0 1 = cc in absurd (omega arith)
tries-below {S} serve n (suc d) s f =
    split (λ (o : Drawn S). o.found ≡ true → o.value < n) (ltb (try_value n (serve s).buffer) n)
    (λ t g. ltb-true (try_value n (serve s).buffer) n t)
    (λ t g. tries-below serve n d (serve s).next g) f

-- ---- e pools were emptied before what is left of a shuffle

abbrev pub LeftList : Drawn Fortuna → ℕ → Drawn Fortuna → Type 0
LeftList whole e rest =
    (whole.found ≡ rest.found)
    × (whole.effect.emptied ≡ e + rest.effect.emptied)
    × (whole.effect.next ≡ rest.effect.next)
    × (whole.effect.buffer ≡ rest.effect.buffer)

pub left-whole : (o : Drawn Fortuna) → LeftList o 0 o
left-whole o = (refl, sym (zero-add o.effect.emptied), refl, refl)

-- one place
place_is : (clock p : ℕ) (xs : List ℕ) (s : Fortuna) → 0 < p
    → let d = tries (try_at clock) (p + 1) 64 s in
    let more = shuffle_from (try_at clock) (p - 1) (exchange p d.value xs) d.effect.next in
    shuffle_from (try_at clock) p xs s
    ≡ cond d.found
    (record { found = more.found; value = 0; effect = after d.effect more.effect })
    (record { found = false; value = 0; effect = leaving xs d.effect })
unfolding shuffle_from max_tries
place_is clock zero xs s h = absurd (not-suc-le-zero h)
place_is clock (suc p) xs s h = let q : suc p - 1 ≡ p = omega arith in rw q

-- the shuffle has come down to place p, and the state is now s
module _ (clock p e : ℕ) (whole : Drawn Fortuna) (xs : List ℕ) (s : Fortuna) (left : LeftList whole e (shuffle_from (try_at clock) p xs s)) where
  module _ (r : Draw) (done : Bool) (some : 0 < p) (drawn : DrawsValue (tries (try_at clock) (p + 1) 64 s) r) (tested : done ≡ eqb (number r.answer) 0) where
    is_found : (tries (try_at clock) (p + 1) 64 s).found ≡ done
    is_found = found-is _ _ done drawn.0 tested

    -- no value for it ends the shuffle
    pub place-missed : done ≡ false
        → (number r.answer ≡ cond whole.found 0 33)
        × (e + r.emptied ≡ whole.effect.emptied)
        × (r.next ≡ whole.effect.next)
        × (xs ≡ whole.effect.buffer)
    unfolding leaving
    place-missed t =
        let f = is_found ∙ t in
        let d = tries (try_at clock) (p + 1) 64 s in
        let is : shuffle_from (try_at clock) p xs s ≡ record { found = false; value = 0; effect = leaving xs d.effect } = place_is clock p xs s some ∙ rw f in
        let (found, emptied, next, buffer) = subst (LeftList whole e) is left in
        (rw found (drawn.0 ∙ rw f), rw drawn.1 (sym emptied), drawn.3 ∙ sym next, sym buffer)

    pub place-drawn : done ≡ true → value_of r.answer < p + 1
    place-drawn t = rw drawn.2 (tries-below (try_at clock) (p + 1) 64 s (is_found ∙ t))

    pub place-next : (ys : List ℕ) → done ≡ true → ys ≡ exchange p (value_of r.answer) xs
        → LeftList whole (e + r.emptied) (shuffle_from (try_at clock) (p - 1) ys r.next)
    unfolding after
    place-next ys t changed =
        let f = is_found ∙ t in
        let d = tries (try_at clock) (p + 1) 64 s in
        let more = shuffle_from (try_at clock) (p - 1) (exchange p d.value xs) d.effect.next in
        let is : shuffle_from (try_at clock) p xs s ≡ record { found = more.found; value = 0; effect = after d.effect more.effect } =
        place_is clock p xs s some ∙ rw f in
        let (found, emptied, next, buffer) = subst (LeftList whole e) is left in
        rw (changed, drawn.1, drawn.2, drawn.3) (found, omega (arith, emptied), next, buffer)

  -- place 0 is the last
  pub place-last : p ≤ 0 → (◌≡◌ {A = ℕ} 0 (cond whole.found 0 33)) × (e ≡ whole.effect.emptied) × (s ≡ whole.effect.next) × (xs ≡ whole.effect.buffer)
  unfolding shuffle_from unchanged
  place-last h =
      let z : p ≡ 0 = omega arith in
      let (found, emptied, next, buffer) = subst (LeftList whole e) (ap (λ (k : ℕ). shuffle_from (try_at clock) k xs s) z) left in
      (rw found, omega (arith, emptied), sym next, sym buffer)

-- the tries of the next places pass
pub ready-below : (s : Fortuna) (clock p : ℕ) (r : Draw) → 0 < p → DrawsValue (tries (try_at clock) (p + 1) 64 s) r → Ready s clock (max_tries * p)
    → Ready r.next clock (max_tries * (p - 1))
unfolding max_tries
ready-below s clock p r h drawn (all, pass) =
    let m : 64 * p ≡ 64 + 64 * (p - 1) = omega arith in
    rw drawn.3 (tries-pools clock (p + 1) 64 s all, tries-passing clock (p + 1) 64 (64 * (p - 1)) s all (subst (Passing s clock) m pass))
