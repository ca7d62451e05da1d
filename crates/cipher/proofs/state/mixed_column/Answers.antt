use Prim.Native.Nat.{ℕ}
use mathlib.Core.Path.{◌≡◌, refl, ap, ◌∙◌}
use mathlib.Core.List.{[], ◌∷◌}
use lib.Bits.{xor_zero_r, xor_comm}
use Rattle.laws.specs.Lists.{tabulate}
use Rattle.cipher.specs.Field.{◌⊕◌, xtime, multiply, product}
use Rattle.cipher.specs.Aes.{mixed_byte}
use Rattle.cipher.proofs.state.mixed_column.Goals as goal

-- {02} x and {03} x, by one doubling
twice : (x : ℕ) → product 0x02 x ≡ xtime x
unfolding product multiply
twice x = xor_zero_r (xtime x)

thrice : (x : ℕ) → product 0x03 x ≡ xtime x ⊕ x
unfolding product multiply
thrice x = ap (◌⊕◌ x) (xor_zero_r (xtime x)) ∙ xor_comm x (xtime x)

-- a column by the doubles of its bytes
column : (a b c d a2 b2 c2 d2 : ℕ) → a2 ≡ xtime a → b2 ≡ xtime b → c2 ≡ xtime c → d2 ≡ xtime d
    → (a2 ⊕ (b2 ⊕ b) ⊕ c ⊕ d) ∷ (b2 ⊕ (c2 ⊕ c) ⊕ d ⊕ a) ∷ (c2 ⊕ (d2 ⊕ d) ⊕ a ⊕ b) ∷ (d2 ⊕ (a2 ⊕ a) ⊕ b ⊕ c) ∷ [] ≡ tabulate (mixed_byte (a ∷ b ∷ c ∷ d ∷ [])) 4
unfolding tabulate mixed_byte
column a b c d a2 b2 c2 d2 p q r s = simp (twice, thrice, p, q, r, s) refl

pub returns : goal.returns
returns c =
    column _ _ _ _ _ _ _ _ c.double-a2.ensures c.double-b2.ensures
    c.double-c2.ensures c.double-d2.ensures
