-- The array is as long as its length says: a lemma over a variable, since the search would count the numeral down.
use mathlib.Core.Path.{◌≡◌, sym}
use Prim.Native.Nat.{ℕ}
use lib.ListN.{length, replicate, length-replicate}
use Rattle.vectors.proofs.buffers.space.Goals as goal

long : (n v : ℕ) → n ≡ length (replicate n v)
long n v = sym (length-replicate n v)

pub returns : goal.returns
returns c = long 1048577 0xee
