-- The claims of specs/Claims.antt: each is one test over the bytes, which antt computes, carried to each byte by a law.
-- Assumes nothing.
use Prim.Native.Nat.{zero, suc, ◌/◌}
use mathlib.Core.Path.{◌≡◌, refl}
use native.Mathlib.Nat.{not-suc-le-zero, le_of_suc-le-suc}
use native.Mathlib.Omega.{arith}
use Rattle.laws.proofs.Tables.{agree_at}
use Rattle.laws.proofs.Tabulate.{get_d_tabulate}
use Rattle.cipher.specs.Field.{xtime, multiply, product, power_product, inverse, sub_byte, s_box}
use Rattle.cipher.specs.Claims.{InverseLaw, InverseByte, InverseOfZero, SBoxRule}

pub inverse-law : InverseLaw
unfolding product multiply xtime inverse power_product
inverse-law zero h l = absurd (not-suc-le-zero h)
inverse-law (suc x) h l = agree_at (λ y. product (suc y) (inverse (suc y))) (λ y. 1) 255 tt x (le_of_suc-le-suc l)

pub inverse-byte : InverseByte
unfolding product multiply xtime inverse power_product
inverse-byte x l =
    let e : inverse x / 256 ≡ 0 = agree_at (λ y. inverse y / 256) (λ y. 0) 256 tt x l in
    omega arith

pub inverse-of-zero : InverseOfZero
unfolding product multiply xtime inverse power_product
inverse-of-zero = refl

pub s-box-rule : SBoxRule
unfolding s_box
s-box-rule x l = get_d_tabulate sub_byte 0 256 x l
