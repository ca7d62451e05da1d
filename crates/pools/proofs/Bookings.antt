-- Records booked for a moment, each through a pool: which of them wait at a moment, and which a moment that takes their pool takes. Over any type
-- of record and any rule that says which pools a moment takes.
-- Assumes nothing.
use Rattle.std.proofs.Common.{◌≡◌, ℕ, ◌+◌, ◌<◌, ◌≤◌, Bool, true, false, cond, ◌&&◌, eqb, leb, List, [], ◌∷◌, ◌++◌, map, sym, refl, ap, ◌∙◌, subst, ap₂, true≢false, append-nil, arith, eq-eqb, ne_eqb, eqb-true, le-leb, leb-false, leb-true}
use mathlib.Core.Bool.{and-true}
use mathlib.Core.List.{map-append}
use borrow.Author.Tests.{lt-leb}
use Rattle.laws.specs.Lists.{joined, select}
use Rattle.laws.proofs.Cases.{by-test}
use Rattle.laws.proofs.Lists.{joined-append, joined-one}
use Rattle.laws.proofs.Selections.{Every, select-ext, select-none, select-append}

-- tests on records of pool i that agree there agree
of-pool : (pool i : ℕ) {x y : Bool} → (pool ≡ i → x ≡ y) → (eqb pool i && x) ≡ (eqb pool i && y)
of-pool pool i {x} {y} h = go (eqb pool i) (eqb-true pool i)
  where
    go : (t : Bool) → (t ≡ true → pool ≡ i) → (t && x) ≡ (t && y)
    go true q = h (q refl)
    go false q = refl

none-of-pool : (t : Bool) → (t && false) ≡ false
none-of-pool true = refl
none-of-pool false = refl

module _ {A : Type 0} (pool booked : A → ℕ) where
  -- of pool i, booked for moment n or later; of pool i, booked for n
  abbrev pub waits : ℕ → ℕ → A → Bool
  waits n i e = eqb (pool e) i && leb n (booked e)

  abbrev pub taken : ℕ → ℕ → A → Bool
  taken n i e = eqb (pool e) i && eqb (booked e) n

  -- ---- a new record, booked for a moment to come

  waits-new :
      (n i : ℕ) (es : List A) (e : A) → n ≤ booked e →
      select (waits n i) (es ++ (e ∷ [])) ≡ select (waits n i) es ++ cond (eqb (pool e) i) (e ∷ []) []
  waits-new n i es e h =
      select-append (waits n i) es e
      ∙ ap (λ (t : Bool). select (waits n i) es ++ cond t (e ∷ []) [])
      (ap (λ (t : Bool). eqb (pool e) i && t) (le-leb n (booked e) h) ∙ and-true (eqb (pool e) i))

  module _ {B : Type 0} (n i : ℕ) (es : List A) (e : A) (h : n ≤ booked e) where
    -- what f makes of those that wait
    pub waits-mapped :
        (f : A → B) → map f (select (waits n i) (es ++ (e ∷ []))) ≡ map f (select (waits n i) es) ++ cond (eqb (pool e) i) (f e ∷ []) []
    waits-mapped f =
        ap (map f) (waits-new n i es e h)
        ∙ map-append f (select (waits n i) es) (cond (eqb (pool e) i) (e ∷ []) [])
        ∙ ap (λ (l : List B). map f (select (waits n i) es) ++ l) (one (eqb (pool e) i))
      where
        one : (t : Bool) → map f (cond t (e ∷ []) []) ≡ cond t (f e ∷ []) []
        one true = refl
        one false = refl

    pub waits-joined :
        (f : A → List B) → joined f (select (waits n i) (es ++ (e ∷ []))) ≡ joined f (select (waits n i) es) ++ cond (eqb (pool e) i) (f e) []
    waits-joined f =
        ap (joined f) (waits-new n i es e h)
        ∙ joined-append f (select (waits n i) es) (cond (eqb (pool e) i) (e ∷ []) [])
        ∙ ap (λ (l : List B). joined f (select (waits n i) es) ++ l) (one (eqb (pool e) i))
      where
        one : (t : Bool) → joined f (cond t (e ∷ []) []) ≡ cond t (f e) []
        one true = joined-one f e
        one false = unfold joined in refl

  pub taken-new : (n i : ℕ) (es : List A) (e : A) → n < booked e → select (taken n i) (es ++ (e ∷ [])) ≡ select (taken n i) es
  taken-new n i es e h =
      select-append (taken n i) es e
      ∙ rw (ne_eqb (booked e) n (λ q. omega (arith, q)), none-of-pool (eqb (pool e) i)) (append-nil (select (taken n i) es))

  -- ---- at a moment

  module _ (takes : ℕ → ℕ → Bool) where
    -- a record is booked for a moment that takes its pool, and for no later one than n where n takes it
    pub record BookedBy (n : ℕ) (e : A) : Type 0 where
      pub in-time : takes n (pool e) ≡ true → booked e ≤ n
      pub own : takes (booked e) (pool e) ≡ true

    -- `now` and `next` are the moment n and the one after it, as the tests write them
    module _ (now n next i : ℕ) (same : now ≡ n) (after : next ≡ n + 1) where
      this-eq : (b : ℕ) → b ≤ n → leb now b ≡ eqb b n
      this-eq b h =
          by-test (leb now b) (leb now b ≡ eqb b n)
          (λ q. q ∙ sym (eq-eqb b n (omega (arith, leb-true now b q))))
          (λ q. q ∙ sym (ne_eqb b n (λ r. omega (arith, leb-false now b q))))

      next_le : (b : ℕ) → (b ≡ n → ⊥) → leb next b ≡ leb now b
      next_le b h =
          by-test (leb now b) (leb next b ≡ leb now b)
          (λ q. le-leb next b (omega (arith, leb-true now b q)) ∙ sym q)
          (λ q. lt-leb next b (omega (arith, leb-false now b q)) ∙ sym q)

      module _ (es : List A) (due : Every (BookedBy n) es) where
        in-time-of : takes n i ≡ true → (e : A) → BookedBy n e → pool e ≡ i → booked e ≤ n
        in-time-of u e d q = d.in-time (subst (λ k. takes n k ≡ true) (sym q) u)

        -- where the moment takes pool i, those that wait there are taken, and wait no longer
        pub waits-taken : takes n i ≡ true → select (waits now i) es ≡ select (taken n i) es
        waits-taken u =
            select-ext (waits now i) (taken n i) es
            (λ e m. of-pool (pool e) i (λ q. this-eq (booked e) (in-time-of u e (due e m) q)))

        pub waits-gone : takes n i ≡ true → select (waits next i) es ≡ []
        waits-gone u =
            select-none (waits next i) es
            (λ e m.
            of-pool (pool e) i (λ q. lt-leb next (booked e) (omega (arith, in-time-of u e (due e m) q))) ∙ none-of-pool (eqb (pool e) i))

        -- where it does not, none is booked for it, and those that wait still do
        pub waits-stays : takes n i ≡ false → select (waits next i) es ≡ select (waits now i) es
        waits-stays u =
            select-ext (waits next i) (waits now i) es
            (λ e m. of-pool (pool e) i (λ q. next_le (booked e) (λ r. true≢false (sym (due e m).own ∙ ap₂ takes r q ∙ u))))
