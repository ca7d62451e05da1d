-- The statements of specs/Statements.antt on padding and numbers hold. Those on prepared words are proved in Prepared.antt, those on
-- the zero block and pools in ZeroBlock.antt and Laws.antt.
-- Assumes nothing.
use Rattle.std.proofs.Common.{ℕ, List, Ok, Err, refl, arith, length-append}
use lib.ListN.{length-replicate}
use Rattle.laws.proofs.Tabulate.{length-tabulate}
use Rattle.hash.specs.Padding.{zero_bytes, padding}
use Rattle.hash.specs.Statements.{PaddingLeast, PaddedWhole, NumberInjective}

pub padding-least : (n : ℕ) → PaddingLeast n
unfolding zero_bytes
padding-least n = record { solves = omega arith; least = λ k h. omega (arith, h) }

pub padded-whole : (m : List ℕ) → PaddedWhole m
unfolding padding zero_bytes
padded-whole m = simp (length-append, length-replicate, length-tabulate) (omega arith)

pub number-injective : NumberInjective
number-injective (Ok x) (Ok y) e = refl
number-injective (Ok x) (Err f) e = absurd (omega (arith, e))
number-injective (Err d) (Ok y) e = absurd (omega (arith, e))
number-injective (Err d) (Err f) e = refl
