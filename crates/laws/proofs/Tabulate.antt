-- Lists given by a function of the place: the loop that fills one from the front, one store a turn, and the array that a closure
-- makes of the places.
-- Assumes nothing.
use mathlib.Core.Path.{◌≡◌, refl, sym, ap₂, subst, ◌∙◌, ap}
use mathlib.Core.List.{List, [], ◌∷◌, ◌++◌}
use mathlib.Core.Logic.{⊎_elim}
use Prim.Native.Nat.{ℕ, zero, suc, ◌+◌, ◌≤◌, ◌<◌}
use native.Mathlib.Nat.{not-suc-le-zero, eq-or-lt_of_le, le_of_suc-le-suc, le_refl, le_antisymm}
use native.Mathlib.Decide.{dec_le}
use native.Mathlib.Numerals.{add-one}
use native.Mathlib.Omega.{arith}
use lib.ListN.{length, get_or, take, set, length-set, length-append, get_or-append}
use lib.Seq.{get_or_at, take-suc-set, take-length}
use denote.Param.Members.{Mut, Called}
use Rattle.std.specs.Array.{IsFromFnResultFrom, IsFromFnResult}
use Rattle.std.proofs.lemmas.List.{ext_get_or}
use Rattle.laws.specs.Lists.{tabulate}

module _ {A : Type 0} where
  pub length-tabulate : (f : ℕ → A) (n : ℕ) → length (tabulate f n) ≡ n
  unfolding tabulate
  length-tabulate f zero = refl
  length-tabulate f (suc n) = rw (length-append, length-tabulate f n) (add-one n)

  pub get_d_tabulate : (f : ℕ → A) (d : A) (n i : ℕ) → i < n → get_or (tabulate f n) i d ≡ f i
  unfolding tabulate
  get_d_tabulate f d zero i h = absurd (not-suc-le-zero h)
  get_d_tabulate f d (suc n) i h =
      ⊎_elim
      (λ (e : i ≡ n). rw e (get_or_at (tabulate f n) (f n) [] d n (length-tabulate f n)))
      (λ (l : i < n). get_or-append (tabulate f n) (f n ∷ []) d i (rw length-tabulate l) ∙ get_d_tabulate f d n i l)
      (eq-or-lt_of_le (le_of_suc-le-suc h))

  pub tabulate-ext : (f g : ℕ → A) (n : ℕ) → ((i : ℕ) → i < n → f i ≡ g i) → tabulate f n ≡ tabulate g n
  unfolding tabulate
  tabulate-ext f g zero h = refl
  tabulate-ext f g (suc n) h =
      ap₂ (λ (l : List A) (x : A). l ++ (x ∷ [])) (tabulate-ext f g n (λ i l. h i (omega arith))) (h n (le_refl (suc n)))

  -- the first i of the n elements of r are stored
  abbrev pub Filled : (ℕ → A) → ℕ → List A → ℕ → Type 0
  Filled f n r i = (i ≤ n) × (length r ≡ n) × (take i r ≡ tabulate f i)

  pub filled_none : (f : ℕ → A) (n : ℕ) (r : List A) → length r ≡ n → Filled f n r 0
  unfolding tabulate
  filled_none f n r e = (omega arith, e, refl)

  pub filled_more : (f : ℕ → A) (n : ℕ) (r : List A) (i : ℕ) (v : A) → Filled f n r i → i < n → v ≡ f i → Filled f n (set r i v) (i + 1)
  unfolding tabulate
  filled_more f n r i v (b, e, h) l ev =
      let k : i < length r = omega arith in
      (omega arith, length-set r i v ∙ e, rw add-one (take-suc-set r i v k ∙ rw (h, ev) refl))

  pub filled-all : (f : ℕ → A) (n : ℕ) (r : List A) (i : ℕ) → Filled f n r i → n ≤ i → r ≡ tabulate f n
  filled-all f n r i (b, e, h) l = sym (take-length r) ∙ ap (λ (m : ℕ). take m r) e ∙ rw (← le_antisymm b l) h

-- an array that a closure makes, which gives f i at each place i and changes nothing that it has
module _ {F B : Type 0} (g : Mut F (ℕ × Unit {0}) B) (f : ℕ → B) (d : B) (p : F) (r : List B)
    (each : (i : ℕ) (y : B) (q : F) → Called g p (i, tt) y q → (y ≡ f i) × (q ≡ p)) where
  made-from : (n i j : ℕ) (s : F) → s ≡ p → IsFromFnResultFrom g s r i n → i ≤ j → j < i + n → get_or r j d ≡ f j
  made-from zero i j s same made h l = absurd (omega arith)
  made-from (suc n) i j s same made h l =
      let (q, y, stands, called, rest) = made in
      let one = each i y q (subst (λ (t : F). Called g t (i, tt) y q) same called) in
      elim (dec_le (i + 1) j) [
        | yes m ↦ made-from n (i + 1) j q one.1 rest m (omega arith)
        | no m ↦
            let e : j ≡ i = omega arith in
            rw e (stands.1 d ∙ one.0)
      ]

  pub made-by : (n : ℕ) → IsFromFnResult g p r n → r ≡ tabulate f n
  made-by n made =
      ext_get_or d r (tabulate f n) (made.long ∙ sym (length-tabulate f n)) (λ i h.
      let below : i < n = omega (arith, made.long) in
      made-from n 0 i p refl made.each (omega arith) (omega arith) ∙ sym (get_d_tabulate f d n i below))
