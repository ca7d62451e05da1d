-- The field GF(2^8) of FIPS 197 (November 2001; section numbers are that edition's) and the S-box.
-- Meant for bytes, that is for numbers below 256; every definition gives some number at any other too.
-- Assumes nothing.
use Rattle.std.specs.Prelude.{ℕ, zero, suc, ◌+◌, ◌*◌, ◌/◌, ◌%◌, cond, List, ltb, eqb}
use Rattle.std.specs.Int.Bits.{bit_xor}
use Rattle.laws.specs.Lists.{tabulate}

-- Addition is exclusive or (4.1).
infixl 60 ◌⊕◌
abbrev pub ◌⊕◌ : ℕ → ℕ → ℕ
a ⊕ b = bit_xor a b

-- Multiplication by x, that is by {02}: a shift, reduced by m(x) = {01}{1b} where the top bit was set (4.2.1).
unfoldable pub xtime : ℕ → ℕ
xtime b = cond (ltb b 0x80) (b * 2) (b * 2 ⊕ 0x11b)

-- The sum of those of b, xtime b, xtime (xtime b), .. that the n low bits of a pick.
unfoldable pub multiply : ℕ → ℕ → ℕ → ℕ
multiply zero a b = 0
multiply (suc n) a b = cond (eqb (a % 2) 0) 0 b ⊕ multiply n (a / 2) (xtime b)

-- The product of two bytes (4.2).
unfoldable pub product : ℕ → ℕ → ℕ
product a b = multiply 8 a b

-- The product of b, b^2, b^4, .., n factors, each the square of the one before.
unfoldable pub power_product : ℕ → ℕ → ℕ
power_product zero b = 1
power_product (suc n) b = product b (power_product n (product b b))

-- The multiplicative inverse (4.2) as b^254, where 254 = 2 + 4 + .. + 128; 0 goes to 0. Claims.antt says that it is the inverse.
unfoldable pub inverse : ℕ → ℕ
inverse b = power_product 7 (product b b)

-- Bit i of b.
unfoldable pub bit : ℕ → ℕ → ℕ
bit zero b = b % 2
bit (suc i) b = bit i (b / 2)

-- Bit i of the affine map: the sum of bits i, i + 4, i + 5, i + 6 and i + 7, modulo 8, of b and of bit i of {63} (5.1.1, equation 5.1).
unfoldable pub affine_bit : ℕ → ℕ → ℕ
affine_bit b i =
    (bit i b + bit ((i + 4) % 8) b + bit ((i + 5) % 8) b + bit ((i + 6) % 8) b + bit ((i + 7) % 8) b + bit i 0x63) % 2

-- The number that n bits of the affine map make, from bit i up.
unfoldable pub affine_from : ℕ → ℕ → ℕ → ℕ
affine_from b i zero = 0
affine_from b i (suc n) = affine_bit b i + 2 * affine_from b (suc i) n

-- The affine map (5.1.1).
unfoldable pub affine : ℕ → ℕ
affine b = affine_from b 0 8

-- The substitution of a byte: its inverse, then the affine map (5.1.1).
unfoldable pub sub_byte : ℕ → ℕ
sub_byte b = affine (inverse b)

-- The S-box: the substitution of each byte (figure 7).
unfoldable pub s_box : List ℕ
s_box = tabulate sub_byte 256
