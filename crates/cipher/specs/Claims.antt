-- What is proved of the definitions beside the contracts: they are what their names say.
-- Assumes nothing.
use Rattle.std.specs.Prelude.{ℕ, ◌+◌, ◌*◌, ◌%◌, ◌<◌, ◌≡◌, List}
use Rattle.cipher.specs.Field.{◌⊕◌, product, inverse, sub_byte, s_box}
use Rattle.cipher.specs.Aes.{at, shift_rows, mix_columns}

-- A byte other than 0 times its inverse is 1.
abbrev pub InverseLaw : Type 0
InverseLaw = (x : ℕ) → 0 < x → x < 256 → product x (inverse x) ≡ 1

-- The inverse of a byte is a byte.
abbrev pub InverseByte : Type 0
InverseByte = (x : ℕ) → x < 256 → inverse x < 256

-- 0 goes to 0.
abbrev pub InverseOfZero : Type 0
InverseOfZero = inverse 0 ≡ 0

-- Each of the 256 entries of the S-box is the substitution of its place.
abbrev pub SBoxRule : Type 0
SBoxRule = (x : ℕ) → x < 256 → at s_box x ≡ sub_byte x

-- s_r,c, the byte of a state in row r and column c (3.4).
abbrev pub cell : List ℕ → ℕ → ℕ → ℕ
cell s r c = at s (r + 4 * c)

-- The equation of ShiftRows (5.1.2).
abbrev pub ShiftRowsEquation : Type 0
ShiftRowsEquation = (s : List ℕ) (r c : ℕ) → r < 4 → c < 4 → cell (shift_rows s) r c ≡ cell s r ((c + r) % 4)

-- The four equations of MixColumns (5.1.3).
abbrev pub MixColumnsEquations : Type 0
MixColumnsEquations = (s : List ℕ) (c : ℕ) → c < 4 →
    (cell (mix_columns s) 0 c ≡ product 0x02 (cell s 0 c) ⊕ product 0x03 (cell s 1 c) ⊕ cell s 2 c ⊕ cell s 3 c)
    × (cell (mix_columns s) 1 c ≡ cell s 0 c ⊕ product 0x02 (cell s 1 c) ⊕ product 0x03 (cell s 2 c) ⊕ cell s 3 c)
    × (cell (mix_columns s) 2 c ≡ cell s 0 c ⊕ cell s 1 c ⊕ product 0x02 (cell s 2 c) ⊕ product 0x03 (cell s 3 c))
    × (cell (mix_columns s) 3 c ≡ product 0x03 (cell s 0 c) ⊕ cell s 1 c ⊕ cell s 2 c ⊕ product 0x02 (cell s 3 c))
