use Prim.Native.Nat.{ℕ, ◌*◌, ◌/◌, ◌%◌, ◌<◌}
use mathlib.Core.Path.{◌≡◌}
use lib.Dec.{T}
use borrow.Author.Rules.{rules}
use Rattle.laws.proofs.Tables.{agree, agree_at}
use Rattle.cipher.specs.Field.{◌⊕◌, xtime}
use Rattle.cipher.proofs.field.double.Goals as goal

-- the code's form: a shift, and the polynomial as often as the divisor goes into the byte
abbrev doubled : ℕ → ℕ → ℕ → ℕ → ℕ
doubled factor polynomial divisor x = x * factor % 256 ⊕ polynomial * (x / divisor)

each-byte :
    (factor polynomial divisor : ℕ) → T (agree (doubled factor polynomial divisor) xtime 256)
    → (x : ℕ) → x < 256 → doubled factor polynomial divisor x ≡ xtime x
each-byte factor polynomial divisor = agree_at (doubled factor polynomial divisor) xtime 256

pub returns : goal.returns
unfolding xtime
returns c = each-byte _ _ _ tt c.args.x (search rules)
