-- Laws of finite sums.
-- Assumes nothing.
use mathlib.Core.Path.{◌≡◌, refl, ap, ap₂, sym, ◌∙◌}
use Prim.Native.Nat.{ℕ, zero, suc, ◌+◌, ◌*◌, ◌<◌}
use native.Mathlib.Nat.{add-zero, add-suc, zero-mul, suc-mul, le_step, lt-suc_self}
use native.Mathlib.Omega.{arith}
use Rattle.slots.specs.Fair.{sum_below}

pub sum-ext : (n : ℕ) (f g : ℕ → ℕ) → ((i : ℕ) → i < n → f i ≡ g i) → sum_below n f ≡ sum_below n g
unfolding sum_below
sum-ext zero f g h = refl
sum-ext (suc n) f g h = ap₂ (λ (x y : ℕ). x + y) (sum-ext n f g (λ i l. h i (le_step l))) (h n (lt-suc_self n))

pub sum-const : (n c : ℕ) → sum_below n (λ _. c) ≡ n * c
unfolding sum_below
sum-const zero c = sym (zero-mul c)
sum-const (suc n) c = ap (λ (x : ℕ). x + c) (sum-const n c) ∙ sym (suc-mul n c)

pub sum-none : (n : ℕ) → sum_below n (λ _. 0) ≡ 0
unfolding sum_below
sum-none zero = refl
sum-none (suc n) = ap (λ (x : ℕ). x + 0) (sum-none n)

pub sum_one : (f : ℕ → ℕ) → sum_below 1 f ≡ f 0
unfolding sum_below
sum_one f = omega arith

sum-add : (n : ℕ) (f g : ℕ → ℕ) → sum_below n (λ i. f i + g i) ≡ sum_below n f + sum_below n g
unfolding sum_below
sum-add zero f g = refl
sum-add (suc n) f g = let e = sum-add n f g in omega arith

-- the order of two sums
pub sum-swap : (n m : ℕ) (f : ℕ → ℕ → ℕ) → sum_below n (λ i. sum_below m (λ j. f i j)) ≡ sum_below m (λ j. sum_below n (λ i. f i j))
unfolding sum_below
sum-swap zero m f = sym (sum-none m)
sum-swap (suc n) m f =
    ap (λ (x : ℕ). x + sum_below m (λ j. f n j)) (sum-swap n m f) ∙ sym (sum-add m (λ j. sum_below n (λ i. f i j)) (λ j. f n j))

sum-split : (a b : ℕ) (f : ℕ → ℕ) → sum_below (a + b) f ≡ sum_below a f + sum_below b (λ i. f (a + i))
unfolding sum_below
sum-split a zero f = rw (add-zero a) (sym (add-zero (sum_below a f)))
sum-split a (suc b) f = rw (add-suc a b) (let e = sum-split a b f in omega arith)

-- n blocks of m
pub sum-blocks : (n m : ℕ) (f : ℕ → ℕ) → sum_below (n * m) f ≡ sum_below n (λ q. sum_below m (λ r. f (q * m + r)))
unfolding sum_below
sum-blocks zero m f = rw (zero-mul m) refl
sum-blocks (suc n) m f =
    rw (suc-mul n m) (sum-split (n * m) m f ∙ ap (λ (x : ℕ). x + sum_below m (λ r. f (n * m + r))) (sum-blocks n m f))
