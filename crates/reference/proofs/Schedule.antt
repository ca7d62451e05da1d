-- The reseed schedule: which reseed an event is booked for, and which pools a reseed uses.
-- Assumes nothing.
use mathlib.Core.Path.{◌≡◌, refl, sym, ap, ap₂, ◌∙◌}
use mathlib.Core.Bool.{Bool, true, false, cond}
use mathlib.Core.List.{List, [], ◌∷◌, ◌++◌}
use Prim.Native.Nat.{ℕ, zero, suc, ◌+◌, ◌-◌, ◌*◌, ◌/◌, ◌%◌, ◌^◌, ◌≤◌, ◌<◌}
use native.Mathlib.Nat.{lt-mul-div-succ, div-lt_iff_lt-mul, mul-le-mul_left, div-add-mod, mul_comm, mod-eq-zero_of_dvd, dvd-mul_right}
use native.Mathlib.Omega.{arith}
use lib.Pow.{pow_pos, mod-mod-pow}
use lib.Dec.{eqb, ltb}
use lib.ListN.{length, length-append}
use borrow.Author.Tests.{eqb-true, eq-eqb, lt-ltb}
use Rattle.laws.specs.Lists.{joined}
use Rattle.laws.proofs.Lists.{joined-append}
use Rattle.pools.specs.Events.{pool_count}
use Rattle.pools.specs.Schedule.{used, used_below, used_pools}
use Rattle.reference.specs.Reference.{scheduled_reseed}

-- ---- the booked reseed is the first multiple of 2^i after r

pub scheduled-later : (i r : ℕ) → r < scheduled_reseed i r
unfolding scheduled_reseed
scheduled-later i r = lt-mul-div-succ r (pow_pos i)

pub scheduled-by : (i r n : ℕ) → r < n → used n i ≡ true → scheduled_reseed i r ≤ n
unfolding scheduled_reseed used
scheduled-by i r n h u =
    let whole : 2 ^ i * (n / 2 ^ i) ≡ n = omega (arith, div-add-mod n (2 ^ i), eqb-true (n % 2 ^ i) 0 u) in
    let below : r / 2 ^ i < n / 2 ^ i = (div-lt_iff_lt-mul (pow_pos i)).1 (omega (arith, whole, mul_comm (2 ^ i) (n / 2 ^ i))) in
    omega (arith, mul-le-mul_left (2 ^ i) below, whole)

pub scheduled-used : (i r : ℕ) → used (scheduled_reseed i r) i ≡ true
unfolding scheduled_reseed used
scheduled-used i r = rw (mod-eq-zero_of_dvd (2 ^ i) (dvd-mul_right (2 ^ i) (r / 2 ^ i + 1)))

-- ---- the number kept modulo 2^32 uses the same pools

pub used-mod : (n i : ℕ) → i < pool_count → used (n % 2 ^ 32) i ≡ used n i
unfolding used pool_count
used-mod n i h = ap (λ (x : ℕ). eqb x 0) (ap (λ (k : ℕ). n % 2 ^ k % 2 ^ i) split-32 ∙ mod-mod-pow n (32 - i) i)
  where
    split-32 : 32 ≡ 32 - i + i
    split-32 = omega arith

below-mod : (n k : ℕ) → k ≤ pool_count → used_below (n % 2 ^ 32) k ≡ used_below n k
unfolding used_below
below-mod n zero h = refl
below-mod n (suc k) h = rw (below-mod n k (omega arith), used-mod n k h)

pub used-pools-mod : (n : ℕ) → used_pools (n % 2 ^ 32) ≡ used_pools n
unfolding used_pools
used-pools-mod n = below-mod n pool_count (omega arith)

-- ---- pool 0 is always used

pub pool-0-used : (n : ℕ) → used n 0 ≡ true
unfolding used
pool-0-used n = eq-eqb (n % 1) 0 (omega arith)

below-some : (n k : ℕ) → 0 < length (used_below n (suc k))
unfolding used_below
below-some n zero = rw (pool-0-used n) (omega arith)
below-some n (suc k) = rw length-append (omega (arith, below-some n k))

pub used-some : (n : ℕ) → 0 < length (used_pools n)
unfolding used_pools pool_count
used-some n = below-some n 31

-- how many pools a call empties tells whether it makes a pool reseed
pub emptied-told : (n : ℕ) (due : Bool) → ltb 0 (cond due (length (used_pools n)) 0) ≡ due
emptied-told n true = lt-ltb 0 _ (used-some n)
emptied-told n false = refl

-- ---- what is joined over the used pools depends on those pools alone

module _ {B : Type 0} where
  last-used : (f g : ℕ → List B) (k : ℕ) (t : Bool) → (t ≡ true → f k ≡ g k) → joined f (cond t (k ∷ []) []) ≡ joined g (cond t (k ∷ []) [])
  unfolding joined
  last-used f g k true h = rw (h refl)
  last-used f g k false h = refl

  joined-below : (f g : ℕ → List B) (n k : ℕ) → ((i : ℕ) → i < k → used n i ≡ true → f i ≡ g i) → joined f (used_below n k) ≡ joined g (used_below n k)
  unfolding used_below joined
  joined-below f g n zero h = refl
  joined-below f g n (suc k) h =
      joined-append f (used_below n k) _
      ∙ ap₂ (λ (x y : List B). x ++ y) (joined-below f g n k (λ i l. h i (omega arith))) (last-used f g k (used n k) (h k (omega arith)))
      ∙ sym (joined-append g (used_below n k) _)

  pub joined-used : (f g : ℕ → List B) (n : ℕ) → ((i : ℕ) → i < pool_count → used n i ≡ true → f i ≡ g i) → joined f (used_pools n) ≡ joined g (used_pools n)
  unfolding used_pools
  joined-used f g n h = joined-below f g n pool_count h
