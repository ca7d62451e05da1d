-- What holds of single bits, and laws of exclusive or that the library lacks.
-- Assumes nothing.
use Prim.Native.Nat.{ℕ, zero, suc, ◌+◌, ◌*◌, ◌/◌, ◌%◌, ◌<◌}
use mathlib.Core.Path.{◌≡◌, refl, sym, ap, ap₂, ◌∙◌}
use native.Mathlib.Nat.{not-suc-le-zero, le_of_suc-le-suc, mod-lt, zero-lt-suc}
use lib.Arith.{bin_ind}
use lib.Bits.{bit_xor, differ, xor_step, xor_shr, xor_mod, xor_comm}

-- what holds at 0 and 1
two : (P : ℕ → Type 0) → P 0 → P 1 → (x : ℕ) → x < 2 → P x
two P p q zero h = p
two P p q (suc zero) h = q
two P p q (suc (suc x)) h = absurd (not-suc-le-zero (le_of_suc-le-suc (le_of_suc-le-suc h)))

-- what holds of any three bits, by its eight cases
module _ (P : ℕ → ℕ → ℕ → Type 0) where
  pub three-bits :
      P 0 0 0 → P 0 0 1 → P 0 1 0 → P 0 1 1 → P 1 0 0 → P 1 0 1 → P 1 1 0 → P 1 1 1 →
      (x : ℕ) → x < 2 → (y : ℕ) → y < 2 → (z : ℕ) → z < 2 → P x y z
  three-bits a b c d e f g h =
      two (λ x. (y : ℕ) → y < 2 → (z : ℕ) → z < 2 → P x y z)
      (two (λ y. (z : ℕ) → z < 2 → P 0 y z) (two (P 0 0) a b) (two (P 0 1) c d))
      (two (λ y. (z : ℕ) → z < 2 → P 1 y z) (two (P 1 0) e f) (two (P 1 1) g h))

digit : (x : ℕ) → x < 2 → (y : ℕ) → y < 2 → (z : ℕ) → z < 2 → differ (bit_xor x y) z ≡ differ x (bit_xor y z)
digit = three-bits (λ x y z. differ (bit_xor x y) z ≡ differ x (bit_xor y z)) refl refl refl refl refl refl refl refl

pub xor_assoc : (a b c : ℕ) → bit_xor (bit_xor a b) c ≡ bit_xor a (bit_xor b c)
xor_assoc =
    bin_ind (λ (n : ℕ). (b c : ℕ) → bit_xor (bit_xor n b) c ≡ bit_xor n (bit_xor b c)) (λ b c. refl)
    (λ n ih b c.
    xor_step (bit_xor n b) c
    ∙ ap₂ (λ (x y : ℕ). bit_xor x (c / 2) * 2 + differ y (c % 2)) (xor_shr n b 1) (xor_mod n b 1)
    ∙ ap₂ (λ (x y : ℕ). x * 2 + y) (ih (b / 2) (c / 2))
    (digit (n % 2) (mod-lt n (zero-lt-suc 1)) (b % 2) (mod-lt b (zero-lt-suc 1)) (c % 2) (mod-lt c (zero-lt-suc 1)))
    ∙ sym (xor_step n (bit_xor b c) ∙ ap₂ (λ (x y : ℕ). bit_xor (n / 2) x * 2 + differ (n % 2) y) (xor_shr b c 1) (xor_mod b c 1)))

-- the first of four goes to the end
pub xor-turn : (a b c d : ℕ) → bit_xor (bit_xor (bit_xor a b) c) d ≡ bit_xor (bit_xor (bit_xor b c) d) a
xor-turn a b c d = ap (λ (x : ℕ). bit_xor x d) (xor_assoc a b c) ∙ xor_assoc a (bit_xor b c) d ∙ xor_comm a (bit_xor (bit_xor b c) d)
