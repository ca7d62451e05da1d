-- Chains of refusals: what an answer of a chain says of its tests.
-- Assumes nothing.
use mathlib.Core.Path.{◌≡◌, refl, sym, ◌∙◌}
use mathlib.Core.Bool.{Bool, true, false}
use Prim.Native.Nat.{ℕ, ◌<◌}
use native.Mathlib.Omega.{arith}
use lib.Dec.{eqb}
use borrow.Author.Tests.{eqb-true, ne_eqb}
use Rattle.std.specs.Prelude.{Result, Ok, Err}
use Rattle.std.specs.Result.{is_ok}
use Rattle.laws.specs.Refusals.{refuse, guarded, number_of}

-- a test that holds refuses, one that fails leaves it to those after it
pub refused : (t : Bool) (n rest : ℕ) → t ≡ true → refuse t n rest ≡ n
refused t n rest e = rw e

pub not-refused : (t : Bool) (n rest : ℕ) → t ≡ false → refuse t n rest ≡ rest
not-refused t n rest e = rw e

-- an accepted call has passed each test
pub passed : (t : Bool) (n rest : ℕ) → 0 < n → refuse t n rest ≡ 0 → (t ≡ false) × (rest ≡ 0)
passed true n rest h e = absurd (omega arith)
passed false n rest h e = (refl, e)

-- k is the number that the code came to, and d its test for an accepted call
pub accepted : (n k : ℕ) (d : Bool) → k ≡ n → d ≡ eqb k 0 → d ≡ true → n ≡ 0
accepted n k d h e t = sym h ∙ eqb-true k 0 (sym e ∙ t)

module _ {A : Type 0} where
  -- the effect of an accepted call, and of a refused one
  pub guarded-done : (n k : ℕ) (d : Bool) (x y : A) → k ≡ n → d ≡ eqb k 0 → d ≡ true → x ≡ guarded n x y
  guarded-done n k d x y h e t = rw (← h, ← e, t)

  pub guarded-refused : (n k : ℕ) (d : Bool) (x y : A) → k ≡ n → d ≡ eqb k 0 → d ≡ false → y ≡ guarded n x y
  guarded-refused n k d x y h e t = rw (← h, ← e, t)

-- what the test of an answer, d, says of its number
module _ {T R : Type 0} (code : R → ℕ) (above-0 : (refusal : R) → 0 < code refusal) where
  pub tested : (d : Bool) (answer : Result T R) → d ≡ is_ok answer → d ≡ eqb (number_of code answer) 0
  tested d (Ok x) e = e
  tested d (Err refusal) e = e ∙ sym (ne_eqb (code refusal) 0 (λ z. omega (arith, above-0 refusal, z)))

  pub number-done : (answer : Result T R) → is_ok answer ≡ true → number_of code answer ≡ 0
  number-done answer e = eqb-true (number_of code answer) 0 (sym (tested true answer (sym e)))

  pub number-refused : (answer : Result T R) → is_ok answer ≡ false → eqb (number_of code answer) 0 ≡ false
  number-refused answer e = sym (tested false answer (sym e))
