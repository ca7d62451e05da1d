-- V as 16 bytes, most significant first, and as the number that they stand for.
-- Assumes nothing.
use Rattle.std.specs.Prelude.{List, [], ◌∷◌, ℕ, zero, suc, ◌+◌, ◌*◌, ◌/◌, ◌%◌, ◌^◌, length}

-- the number that bytes stand for, most significant first
unfoldable pub octets_to_integer : List ℕ → ℕ
octets_to_integer [] = 0
octets_to_integer (p ∷ ps) = p * 256 ^ length ps + octets_to_integer ps

-- the n least significant bytes of x, most significant first
unfoldable pub integer_to_octets : ℕ → ℕ → List ℕ
integer_to_octets zero x = []
integer_to_octets (suc n) x = x / 256 ^ n % 256 ∷ integer_to_octets n x

-- V = (V + 1) mod 2^128, a step of a counter that has the whole block
unfoldable pub increment : List ℕ → List ℕ
increment v = integer_to_octets 16 ((octets_to_integer v + 1) % 2 ^ 128)
