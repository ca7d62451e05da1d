-- A rule that holds at every number below a bound, or at every entry of a table, from one test that antt computes.
-- Assumes nothing.
use mathlib.Core.Path.{◌≡◌, ◌∙◌, subst, sym}
use mathlib.Core.Logic.{⊎_elim}
use mathlib.Core.Bool.{Bool, true, false}
use mathlib.Core.List.{List, [], ◌∷◌}
use Prim.Native.Nat.{ℕ, zero, suc, ◌+◌, ◌<◌}
use native.Mathlib.Nat.{add-zero, zero-add, add-suc, suc-add, le_of_suc-le-suc, not-suc-le-zero, eq-or-lt_of_le}
use lib.Dec.{T, eqb, eqb→eq}
use lib.ListN.{length, get_or}
use lib.Seq.{ext_get_or}
use Rattle.laws.specs.Lists.{tabulate}
use Rattle.laws.proofs.Tabulate.{length-tabulate, get_d_tabulate}

-- `◌&&◌` that stops at the first test that fails, so that the checker computes no more than it has to
abbrev pub both : Bool → Bool → Bool
both true b = b
both false b = false

both_left : (a b : Bool) → T (both a b) → T a
both_left true b t = tt
both_left false b t = t

both_right : (a b : Bool) → T (both a b) → T b
both_right true b t = t
both_right false b t = absurd t

-- f and g agree below n
abbrev pub agree : (ℕ → ℕ) → (ℕ → ℕ) → ℕ → Bool
agree f g zero = true
agree f g (suc n) = both (eqb (f n) (g n)) (agree f g n)

pub agree_at : (f g : ℕ → ℕ) (n : ℕ) → T (agree f g n) → (k : ℕ) → k < n → f k ≡ g k
agree_at f g zero t k h = absurd (not-suc-le-zero h)
agree_at f g (suc n) t k h =
    ⊎_elim
    (λ (e : k ≡ n). subst (λ (m : ℕ). f m ≡ g m) (sym e) (eqb→eq (f n) (g n) (both_left (eqb (f n) (g n)) (agree f g n) t)))
    (λ (l : k < n). agree_at f g n (both_right (eqb (f n) (g n)) (agree f g n) t) k l)
    (eq-or-lt_of_le (le_of_suc-le-suc h))

-- the entries of a list are f i, f (i + 1), ..
abbrev pub tabulates : (ℕ → ℕ) → ℕ → List ℕ → Bool
tabulates f i [] = true
tabulates f i (x ∷ xs) = both (eqb x (f i)) (tabulates f (suc i) xs)

from : (f : ℕ → ℕ) (xs : List ℕ) (i : ℕ) → T (tabulates f i xs) → (k : ℕ) → k < length xs → get_or xs k 0 ≡ f (i + k)
from f [] i t k h = absurd (not-suc-le-zero h)
from f (x ∷ xs) i t zero h =
    subst (λ (m : ℕ). x ≡ f m) (sym (add-zero i)) (eqb→eq x (f i) (both_left (eqb x (f i)) (tabulates f (suc i) xs) t))
from f (x ∷ xs) i t (suc k) h =
    subst (λ (m : ℕ). get_or xs k 0 ≡ f m) (suc-add i k ∙ sym (add-suc i k))
    (from f xs (suc i) (both_right (eqb x (f i)) (tabulates f (suc i) xs) t) k (le_of_suc-le-suc h))

-- each entry is f of its place
pub table_at : (f : ℕ → ℕ) (xs : List ℕ) → T (tabulates f 0 xs) → (k : ℕ) → k < length xs → get_or xs k 0 ≡ f k
table_at f xs t k h = subst (λ (m : ℕ). get_or xs k 0 ≡ f m) (zero-add k) (from f xs 0 t k h)

-- and the table is the list of them
pub table_is : (f : ℕ → ℕ) (xs : List ℕ) → T (tabulates f 0 xs) → xs ≡ tabulate f (length xs)
table_is f xs t =
    ext_get_or 0 xs (tabulate f (length xs)) (sym (length-tabulate f (length xs)))
    (λ i h. table_at f xs t i h ∙ sym (get_d_tabulate f 0 (length xs) i h))
