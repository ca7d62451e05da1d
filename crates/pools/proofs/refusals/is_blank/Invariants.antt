use Rattle.std.proofs.Common.{◌≡◌, take}
use Rattle.std.specs.List.{fold}
use lib.Bits.{bit_or, bit_xor}
use Rattle.pools.proofs.refusals.is_blank.Given as goal

-- the differences of the first i bytes are gathered
abbrev pub invariant-loop-i : goal.invariant-loop-i
invariant-loop-i l = l.differing ≡ fold (λ x y. bit_or x (bit_xor y l.first)) 0 (take l.i l.seed)
