-- Laws of joined lists, of one element replaced in a list given by a function of the place, and of the tests on lists.
-- Assumes nothing.
use mathlib.Core.Path.{◌≡◌, refl, sym, ap, ◌∙◌}
use mathlib.Core.Logic.{◌≢◌}
use mathlib.Core.Bool.{true, true≢false}
use mathlib.Core.List.{List, [], ◌∷◌, ◌++◌, append_assoc, append-nil, map}
use Prim.Native.Nat.{ℕ, zero, suc, ◌+◌, ◌-◌, ◌*◌, ◌<◌}
use native.Mathlib.Nat.{not-suc-le-zero, sub-zero, zero-sub, suc-mul, suc-sub-suc}
use native.Mathlib.Omega.{arith}
use mir.Val.{Fits}
use mir.Syntax.{w8}
use lib.Dec.{eqb}
use lib.ListN.{length, get_or, drop, set, replicate, length-set, length-replicate, get_or-replicate}
use lib.Seq.{ext_get_or, get_or-take, get_or-drop, get_or-set_same, get_or-set_other}
use borrow.Author.Tests.{eqb-true, eqb-false, eq-eqb}
use Rattle.std.specs.List.{list_all}
use Rattle.std.specs.Simd.{first_chunks}
use Rattle.std.specs.Prelude.{◌==◌, ◌&&◌}
use Rattle.laws.specs.Lists.{tabulate, all_zero, same_list, joined}
use Rattle.laws.proofs.Cases.{by-test, both}
use Rattle.laws.proofs.Tabulate.{length-tabulate, get_d_tabulate}

-- ---- joined

module _ {A B : Type 0} where
  pub joined-append : (f : A → List B) (l m : List A) → joined f (l ++ m) ≡ joined f l ++ joined f m
  unfolding joined
  joined-append f [] m = refl
  joined-append f (x ∷ l) m = rw (joined-append f l m) (sym (append_assoc (f x) (joined f l) (joined f m)))

  pub joined-one : (f : A → List B) (x : A) → joined f (x ∷ []) ≡ f x
  unfolding joined
  joined-one f x = append-nil (f x)

  pub joined-map : {C : Type 0} (f : A → List B) (g : C → A) (l : List C) → joined f (map g l) ≡ joined (λ c. f (g c)) l
  unfolding joined
  joined-map f g [] = refl
  joined-map f g (x ∷ l) = ap (λ (m : List B). f (g x) ++ m) (joined-map f g l)

-- ---- lists given by a function of the place

module _ {A : Type 0} where
  -- one element replaced
  pub set-tabulate : (f g : ℕ → A) (n i : ℕ) → i < n → ((m : ℕ) → m ≢ i → f m ≡ g m) → set (tabulate f n) i (g i) ≡ tabulate g n
  set-tabulate f g n i h e =
      let l : length (set (tabulate f n) i (g i)) ≡ n = length-set (tabulate f n) i (g i) ∙ length-tabulate f n in
      ext_get_or (g i) (set (tabulate f n) i (g i)) (tabulate g n) (l ∙ sym (length-tabulate g n))
      (λ m k. read m (rw l at k))
    where
      read : (m : ℕ) → m < n → get_or (set (tabulate f n) i (g i)) m (g i) ≡ get_or (tabulate g n) m (g i)
      read m k =
          by-test
          (eqb m i)
          (get_or (set (tabulate f n) i (g i)) m (g i) ≡ get_or (tabulate g n) m (g i))
          (λ t. rw (eqb-true m i t) (get_or-set_same (tabulate f n) i (g i) (g i) (rw length-tabulate h) ∙ sym (get_d_tabulate g (g i) n i h)))
          (λ t.
          let other = eqb-false m i t in
          get_or-set_other (tabulate f n) i m (g i) (g i) other ∙ get_d_tabulate f (g i) n m k ∙ e m other ∙ sym (get_d_tabulate g (g i) n m k))

  -- every element the same
  pub replicate-tabulate : (f : ℕ → A) (x : A) (n : ℕ) → ((i : ℕ) → f i ≡ x) → replicate n x ≡ tabulate f n
  replicate-tabulate f x n e =
      ext_get_or x (replicate n x) (tabulate f n) (length-replicate n x ∙ sym (length-tabulate f n))
      (λ i h. read i (rw length-replicate at h))
    where
      read : (i : ℕ) → i < n → get_or (replicate n x) i x ≡ get_or (tabulate f n) i x
      read i h = get_or-replicate n i x x h ∙ sym (get_d_tabulate f x n i h ∙ e i)

-- ---- a list in chunks of k elements: element j of chunk t

pub chunk-element : {A : Type 0} (n k t j : ℕ) (l : List A) (d : A) → t < n → j < k
    → get_or (get_or (first_chunks k n l) t []) j d ≡ get_or l (t * k + j) d
chunk-element zero k t j l d h i = absurd (not-suc-le-zero h)
chunk-element (suc n) k zero j l d h i =
    let place : j ≡ zero * k + j = omega arith in
    get_or-take k l j d i ∙ ap (λ (m : ℕ). get_or l m d) place
chunk-element (suc n) k (suc t) j l d h i =
    let place : k + (t * k + j) ≡ suc t * k + j = rw suc-mul (omega arith) in
    chunk-element n k t j (drop k l) d (omega arith) i ∙ get_or-drop k l (t * k + j) d ∙ ap (λ (m : ℕ). get_or l m d) place

-- ---- a list of one element, some of it taken off the front

pub drop-replicate : (n m x : ℕ) → drop n (replicate m x) ≡ replicate (m - n) x
drop-replicate zero m x = rw sub-zero
drop-replicate (suc n) zero x = rw zero-sub
drop-replicate (suc n) (suc m) x = rw suc-sub-suc (drop-replicate n m x)

-- ---- bytes

-- what a byte's type says of it
pub byte-lt : {x : ℕ} → Fits w8 x → x < 256
byte-lt f = f.fits

-- where every element is below m, so it is after a store of one that is
pub set_below : (m : ℕ) (ps : List ℕ) (i x : ℕ) → i < length ps → x < m → ((j : ℕ) → get_or ps j 0 < m) → (j : ℕ) → get_or (set ps i x) j 0 < m
set_below m ps i x h b all j =
    by-test
    (eqb j i)
    (get_or (set ps i x) j 0 < m)
    (λ t. rw (eqb-true j i t, get_or-set_same ps i x 0 h) b)
    (λ t. rw (get_or-set_other ps i j x 0 (eqb-false j i t)) (all j))

-- ---- tests

pub all_zero-replicate : (n : ℕ) → all_zero (replicate n 0) ≡ true
unfolding all_zero
all_zero-replicate zero = refl
all_zero-replicate (suc n) = all_zero-replicate n

pub same_list-refl : (l : List ℕ) → same_list l l ≡ true
unfolding same_list
same_list-refl [] = refl
same_list-refl (x ∷ l) = rw (eq-eqb x x refl) (same_list-refl l)

pub same_list-equal : (l m : List ℕ) → same_list l m ≡ true → l ≡ m
unfolding same_list
same_list-equal [] [] h = refl
same_list-equal [] (y ∷ m) h = absurd (true≢false (sym h))
same_list-equal (x ∷ l) [] h = absurd (true≢false (sym h))
same_list-equal (x ∷ l) (y ∷ m) h =
    let p = both (eqb x y) (same_list l m) h in
    rw (eqb-true x y p.0, same_list-equal l m p.1)

-- ---- the library's test of all elements

pub list_all_zero : (l : List ℕ) → list_all (λ x. x == 0) l ≡ all_zero l
unfolding all_zero
list_all_zero [] = refl
list_all_zero (x ∷ l) = ap (λ b. (x == 0) && b) (list_all_zero l)
