-- The claims of specs/Claims.antt on the steps of a round.
-- Assumes nothing.
use Prim.Native.Nat.{ℕ, ◌+◌, ◌*◌, ◌%◌, ◌<◌}
use mathlib.Core.Path.{◌≡◌, sym, ap, ◌∙◌}
use mathlib.Core.List.{List}
use native.Mathlib.Omega.{arith}
use Rattle.laws.proofs.Tabulate.{get_d_tabulate}
use Rattle.cipher.specs.Field.{◌⊕◌, product}
use Rattle.cipher.specs.Aes.{at, shift_rows, row_below, mixed_byte, mix_columns}
use Rattle.cipher.specs.Claims.{cell, ShiftRowsEquation, MixColumnsEquations}
use Rattle.laws.proofs.Bits.{xor-turn}

pub shift-rows-equation : ShiftRowsEquation
unfolding shift_rows
shift-rows-equation s r c h k =
    let e : (r + 4 * c + 4 * ((r + 4 * c) % 4)) % 16 ≡ r + 4 * ((c + r) % 4) = omega arith in
    get_d_tabulate (λ i. at s ((i + 4 * (i % 4)) % 16)) 0 16 (r + 4 * c) (omega arith) ∙ ap (at s) e

-- a byte by the places of the other three in its column
mixed-at : (s : List ℕ) (i j k l : ℕ) → i < 16 → row_below i 1 ≡ j → row_below i 2 ≡ k → row_below i 3 ≡ l
    → at (mix_columns s) i ≡ product 0x02 (at s i) ⊕ product 0x03 (at s j) ⊕ at s k ⊕ at s l
unfolding mix_columns mixed_byte
mixed-at s i j k l h p q r = get_d_tabulate (mixed_byte s) 0 16 i h ∙ rw (p, q, r)

pub mix-columns-equations : MixColumnsEquations
mix-columns-equations s c h =
    let s0 = cell s 0 c in
    let s1 = cell s 1 c in
    let s2 = cell s 2 c in
    let s3 = cell s 3 c in (
      mixed-at s (0 + 4 * c) (1 + 4 * c) (2 + 4 * c) (3 + 4 * c) (omega arith) (omega arith) (omega arith) (omega arith),
      mixed-at s (1 + 4 * c) (2 + 4 * c) (3 + 4 * c) (0 + 4 * c) (omega arith) (omega arith) (omega arith) (omega arith)
          ∙ sym (xor-turn s0 (product 0x02 s1) (product 0x03 s2) s3),
      mixed-at s (2 + 4 * c) (3 + 4 * c) (0 + 4 * c) (1 + 4 * c) (omega arith) (omega arith) (omega arith) (omega arith)
          ∙ sym (xor-turn s0 s1 (product 0x02 s2) (product 0x03 s3) ∙ xor-turn s1 (product 0x02 s2) (product 0x03 s3) s0),
      mixed-at s (3 + 4 * c) (0 + 4 * c) (1 + 4 * c) (2 + 4 * c) (omega arith) (omega arith) (omega arith) (omega arith)
          ∙ xor-turn (product 0x02 s3) (product 0x03 s0) s1 s2,
    )
