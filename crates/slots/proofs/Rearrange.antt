-- An exchange, and a shuffle by draws in range, rearrange the list.
-- Assumes nothing.
use mathlib.Core.Path.{◌≡◌, refl, ap, sym, ◌∙◌, subst}
use mathlib.Core.Logic.{◌≢◌}
use mathlib.Core.Bool.{cond}
use mathlib.Core.List.{List, [], ◌∷◌}
use Prim.Native.Nat.{ℕ, zero, suc, ◌-◌, ◌<◌}
use native.Mathlib.Omega.{arith}
use lib.Dec.{eqb}
use lib.ListN.{length, get_or, set, length-set}
use lib.Seq.{get_or-set_same, get_or-set_other}
use borrow.Author.Tests.{eqb-true, eqb-false}
use Rattle.laws.proofs.Cases.{by-test}
use Rattle.laws.specs.Lists.{count_of}
use Rattle.slots.specs.Shuffle.{exchange, shuffled_from, shuffled_by, DrawsFor, Rearrangement, Rearranges}
use Rattle.slots.proofs.Counts.{count_set}

-- ---- an exchange

pub length-exchange : (i j : ℕ) (xs : List ℕ) → length (exchange i j xs) ≡ length xs
unfolding exchange
length-exchange i j xs = simp length-set

-- the entry at j is still there after its copy went to i
copy-stays : (xs : List ℕ) (i j : ℕ) → i < length xs → get_or (set xs i (get_or xs j 0)) j 0 ≡ get_or xs j 0
copy-stays xs i j h =
    by-test
    (eqb j i)
    (get_or (set xs i (get_or xs j 0)) j 0 ≡ get_or xs j 0)
    (λ t. rw (eqb-true j i t) (get_or-set_same xs i (get_or xs i 0) 0 h))
    (λ t. get_or-set_other xs i j (get_or xs j 0) 0 (eqb-false j i t))

exchange-counts : (i j : ℕ) (xs : List ℕ) → i < length xs → j < length xs → (x : ℕ) → count_of x xs ≡ count_of x (exchange i j xs)
unfolding exchange
exchange-counts i j xs hi hj x =
    let ys : List ℕ = set xs i (get_or xs j 0) in
    let first = count_set x xs i (get_or xs j 0) hi in
    let second = count_set x ys j (get_or xs i 0) (subst (λ (n : ℕ). j < n) (sym (length-set xs i (get_or xs j 0))) hj) in
    let same = ap {B = ℕ} (λ y. cond (eqb x y) 1 0) (copy-stays xs i j hi) in
    omega arith

pub exchange-rearranges : (i j : ℕ) (xs : List ℕ) → i < length xs → j < length xs → Rearrangement xs (exchange i j xs)
exchange-rearranges i j xs hi hj = record { lengths = sym (length-exchange i j xs); counts = exchange-counts i j xs hi hj }

pub exchange-first : (i j : ℕ) (xs : List ℕ) → i < length xs → get_or (exchange i j xs) i 0 ≡ get_or xs j 0
unfolding exchange
exchange-first i j xs h =
    let ys : List ℕ = set xs i (get_or xs j 0) in
    by-test
    (eqb i j)
    (get_or (set ys j (get_or xs i 0)) i 0 ≡ get_or xs j 0)
    (λ t.
    let e : i ≡ j = eqb-true i j t in
    let l : i < length ys = rw (length-set xs i (get_or xs j 0)) h in
    subst (λ (k : ℕ). get_or (set ys k (get_or xs i 0)) i 0 ≡ get_or xs j 0) e
    (get_or-set_same ys i (get_or xs i 0) 0 l ∙ ap (λ (k : ℕ). get_or xs k 0) e))
    (λ t. get_or-set_other ys j i (get_or xs i 0) 0 (eqb-false i j t) ∙ get_or-set_same xs i (get_or xs j 0) 0 h)

pub exchange-other : (i j k : ℕ) (xs : List ℕ) → k ≢ i → k ≢ j → get_or (exchange i j xs) k 0 ≡ get_or xs k 0
unfolding exchange
exchange-other i j k xs a b = get_or-set_other (set xs i (get_or xs j 0)) j k (get_or xs i 0) 0 b ∙ get_or-set_other xs i k (get_or xs j 0) 0 a

-- ---- a shuffle

pub rearrange-refl : (xs : List ℕ) → Rearrangement xs xs
rearrange-refl xs = record { lengths = refl; counts = λ x. refl }

pub rearrange-sym : {xs ys : List ℕ} → Rearrangement xs ys → Rearrangement ys xs
rearrange-sym p = record { lengths = sym p.lengths; counts = λ x. sym (p.counts x) }

pub rearrange-trans : {xs ys zs : List ℕ} → Rearrangement xs ys → Rearrangement ys zs → Rearrangement xs zs
rearrange-trans p q = record { lengths = p.lengths ∙ q.lengths; counts = λ x. p.counts x ∙ q.counts x }

from-rearranges : (p : ℕ) (draws xs : List ℕ) → p < length xs → DrawsFor p draws → Rearrangement xs (shuffled_from p draws xs)
unfolding shuffled_from DrawsFor
from-rearranges zero draws xs h r = rearrange-refl xs
from-rearranges (suc p) [] xs h r = absurd r
from-rearranges (suc p) (d ∷ draws) xs h r =
    rearrange-trans (exchange-rearranges (suc p) d xs h (omega arith))
    (from-rearranges p draws (exchange (suc p) d xs) (rw (length-exchange (suc p) d xs) (omega arith)) r.1)

pub rearranges : Rearranges
unfolding shuffled_by shuffled_from
rearranges draws [] r = rearrange-refl []
rearranges draws (x ∷ xs) r = from-rearranges (length (x ∷ xs) - 1) draws (x ∷ xs) (omega arith) r
