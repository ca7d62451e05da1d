-- What holds of each element of a list, which elements a test selects, and what stands in a list that is made of parts.
-- Assumes nothing.
use mathlib.Core.Path.{◌≡◌, refl, sym, ap, subst, ◌∙◌}
use mathlib.Core.Logic.{⊎_elim}
use mathlib.Core.Bool.{Bool, true, false, cond}
use mathlib.Core.List.Memᴰ
use mathlib.Core.List.{List, [], ◌∷◌, ◌++◌, map, Memᴰ}
use Prim.Native.Nat.{ℕ, zero, suc, ◌<◌}
use native.Mathlib.Omega.{arith}
use lib.Dec.{eqb}
use borrow.Author.Tests.{eqb-true, eqb-false}
use Rattle.laws.specs.Lists.{joined, select}
use Rattle.laws.proofs.Cases.{by-test}

module _ {A : Type 0} where
  -- ---- what holds of each element

  abbrev pub Every : (A → Type 0) → List A → Type 0
  Every P l = (x : A) → Memᴰ x l → P x

  pub every-none : (P : A → Type 0) → Every P []
  every-none P x m = absurd (Memᴰ.not-nil m)

  pub every_append : (P : A → Type 0) (l : List A) (y : A) → Every P l → P y → Every P (l ++ (y ∷ []))
  every_append P l y h k x m =
      ⊎_elim (λ n. h x n) (λ n. subst P (sym (Memᴰ.eq_of_singleton n)) k) (Memᴰ.append_cases l m)

  -- ---- selected by a test

  -- two tests that agree on the elements select the same
  pub select-ext : (t u : A → Bool) (l : List A) → Every (λ x. t x ≡ u x) l → select t l ≡ select u l
  unfolding select
  select-ext t u [] h = refl
  select-ext t u (x ∷ l) h = rw (h x (Memᴰ.head refl), select-ext t u l (λ y m. h y (Memᴰ.tail m)))

  pub select-none : (t : A → Bool) (l : List A) → Every (λ x. t x ≡ false) l → select t l ≡ []
  unfolding select
  select-none t [] h = refl
  select-none t (x ∷ l) h = rw (h x (Memᴰ.head refl)) (select-none t l (λ y m. h y (Memᴰ.tail m)))

  pub select-append : (t : A → Bool) (l : List A) (x : A) → select t (l ++ (x ∷ [])) ≡ select t l ++ cond (t x) (x ∷ []) []
  unfolding select
  select-append t [] x = refl
  select-append t (y ∷ l) x = grown (t y) (select t l) (cond (t x) (x ∷ []) []) (select-append t l x)
    where
      grown : (b : Bool) {k : List A} (m r : List A) → k ≡ m ++ r → cond b (y ∷ k) k ≡ cond b (y ∷ m) m ++ r
      grown true m r q = ap {B = List A} (λ k. y ∷ k) q
      grown false m r q = q

-- ---- in the order of a number that each element has

module _ {A : Type 0} (number : A → ℕ) where
  -- each element's number is below those of all later ones
  abbrev pub Ordered : List A → Type 0
  Ordered [] = Unit {0}
  Ordered (x ∷ l) = Every (λ y. number x < number y) l × Ordered l

  pub ordered-append : (l : List A) (y : A) → Ordered l → Every (λ x. number x < number y) l → Ordered (l ++ (y ∷ []))
  ordered-append [] y o h = (every-none _, tt)
  ordered-append (x ∷ l) y o h =
      (every_append (λ z. number x < number z) l y o.0 (h x (Memᴰ.head refl)), ordered-append l y o.1 (λ z m. h z (Memᴰ.tail m)))

module _ {A B : Type 0} (f : A → B) where
  -- an element that passes the test, and what f makes of it
  pub record Selected (t : A → Bool) (l : List A) (y : B) : Type 0 where
    pub element : A
    pub listed : Memᴰ element l
    pub passes : t element ≡ true
    pub is : y ≡ f element

  pub mem-select : (t : A → Bool) (l : List A) (y : B) → Memᴰ y (map f (select t l)) → Selected t l y
  unfolding select
  mem-select t [] y m = absurd (Memᴰ.not-nil m)
  mem-select t (x ∷ l) y m = go (t x) refl m (mem-select t l y)
    where
      below : Selected t l y → Selected t (x ∷ l) y
      below r = record { element = r.element; listed = Memᴰ.tail r.listed; passes = r.passes; is = r.is }

      go :
          (b : Bool) → t x ≡ b → Memᴰ y (map f (cond b (x ∷ select t l) (select t l))) →
          (Memᴰ y (map f (select t l)) → Selected t l y) → Selected t (x ∷ l) y
      go true q n r =
          ⊎_elim (λ h. record { element = x; listed = Memᴰ.head refl; passes = q; is = h }) (λ h. below (r h)) (Memᴰ.cases_cons n)
      go false q n r = below (r n)

  pub select-mem : (t : A → Bool) (l : List A) (x : A) → Memᴰ x l → t x ≡ true → Memᴰ (f x) (map f (select t l))
  unfolding select
  select-mem t [] x m h = absurd (Memᴰ.not-nil m)
  select-mem t (y ∷ l) x m h =
      ⊎_elim
      (λ q. subst (λ b. Memᴰ (f x) (map f (cond b (y ∷ select t l) (select t l)))) (sym (ap t (sym q) ∙ h)) (Memᴰ.head (ap f q)))
      (λ n. here (t y) (select-mem t l x n h))
      (Memᴰ.cases_cons m)
    where
      here : (b : Bool) → Memᴰ (f x) (map f (select t l)) → Memᴰ (f x) (map f (cond b (y ∷ select t l) (select t l)))
      here true n = Memᴰ.tail n
      here false n = n

  -- what is selected of an ordered list is ordered
  pub select-ordered :
      (number : B → ℕ) (t : A → Bool) (l : List A) → Ordered (λ (x : A). number (f x)) l → Ordered number (map f (select t l))
  unfolding select
  select-ordered number t [] o = tt
  select-ordered number t (x ∷ l) o = go (select-ordered number t l o.1) (t x)
    where
      later : Every (λ y. number (f x) < number y) (map f (select t l))
      later y m =
          let r = mem-select t l y m in
          subst (λ z. number (f x) < number z) (sym r.is) (o.0 r.element r.listed)

      go : Ordered number (map f (select t l)) → (b : Bool) → Ordered number (map f (cond b (x ∷ select t l) (select t l)))
      go r true = (later, r)
      go r false = r

-- ---- in a joined list

module _ {A B : Type 0} (f : A → List B) where
  pub mem-joined : (l : List A) (y : B) → Memᴰ y (joined f l) → (x : A) × Memᴰ y (f x)
  unfolding joined
  mem-joined [] y m = absurd (Memᴰ.not-nil m)
  mem-joined (x ∷ l) y m = ⊎_elim (λ h. (x, h)) (λ h. mem-joined l y h) (Memᴰ.append_cases (f x) m)

  pub joined-mem : (l : List A) (x : A) (y : B) → Memᴰ x l → Memᴰ y (f x) → Memᴰ y (joined f l)
  unfolding joined
  joined-mem [] x y m h = absurd (Memᴰ.not-nil m)
  joined-mem (z ∷ l) x y m h =
      ⊎_elim
      (λ q. Memᴰ.append_left _ (subst (λ k. Memᴰ y (f k)) q h))
      (λ n. Memᴰ.append_right (f z) (joined-mem l x y n h))
      (Memᴰ.cases_cons m)

-- ---- in a list that grows by a part at each number

module _ {B : Type 0} (part up : ℕ → List B) (none : up 0 ≡ []) (more : (n : ℕ) → up (suc n) ≡ up n ++ part n) where
  pub mem-parts : (r : ℕ) (y : B) → Memᴰ y (up r) → (n : ℕ) × (n < r) × Memᴰ y (part n)
  mem-parts zero y m = absurd (Memᴰ.not-nil (subst (Memᴰ y) none m))
  mem-parts (suc r) y m =
      ⊎_elim
      (λ h. let e = mem-parts r y h in (e.0, omega (arith, e.1), e.2))
      (λ h. (r, omega arith, h))
      (Memᴰ.append_cases (up r) (subst (Memᴰ y) (more r) m))

  pub parts-mem : (r n : ℕ) (y : B) → n < r → Memᴰ y (part n) → Memᴰ y (up r)
  parts-mem zero n y h m = absurd (omega arith)
  parts-mem (suc r) n y h m =
      subst (Memᴰ y) (sym (more r))
      (by-test (eqb n r) _
      (λ q. Memᴰ.append_right (up r) (subst (λ k. Memᴰ y (part k)) (eqb-true n r q) m))
      (λ q. Memᴰ.append_left _ (parts-mem r n y (omega (arith, eqb-false n r q)) m)))
