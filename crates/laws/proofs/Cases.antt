-- Case distinction on a test.
-- Assumes nothing.
use mathlib.Core.Path.{◌≡◌, refl, sym}
use mathlib.Core.Bool.{Bool, true, false, cond, ◌&&◌, ◌||◌, true≢false}

module _ {A : Type 0} where
  -- what holds of each branch where its test passes holds of `cond`
  pub split : (P : A → Type 0) (t : Bool) {x y : A} → (t ≡ true → P x) → (t ≡ false → P y) → P (cond t x y)
  split P true f g = f refl
  split P false f g = g refl

  -- equal branches, each where its test passes
  pub cond-cong : (t : Bool) {x y u v : A} → (t ≡ true → x ≡ u) → (t ≡ false → y ≡ v) → cond t x y ≡ cond t u v
  cond-cong true f g = f refl
  cond-cong false f g = g refl

-- either value of a test
pub by-test : (t : Bool) (C : Type 0) → (t ≡ true → C) → (t ≡ false → C) → C
by-test true C f g = f refl
by-test false C f g = g refl

-- a test that fails in both parts
pub neither : (a b : Bool) → (a || b) ≡ false → (a ≡ false) × (b ≡ false)
neither true b e = absurd (true≢false e)
neither false b e = (refl, e)

-- and one that holds in both
pub both : (a b : Bool) → (a && b) ≡ true → (a ≡ true) × (b ≡ true)
both true b e = (refl, e)
both false b e = absurd (true≢false (sym e))
