-- What the crates above use of tries and of shuffles by given draws, instead of their text.
-- Assumes nothing.
use mathlib.Core.Path.{◌≡◌, refl}
use mathlib.Core.List.{List, [], ◌∷◌, ◌++◌}
use Prim.Native.Nat.{ℕ, suc, ◌-◌, ◌^◌, ◌≤◌, ◌<◌}
use native.Mathlib.Nat.{mod-lt}
use lib.ListN.{length, get_or, set, length-set, get_or-append}
use lib.Pow.{pow_pos}
use Rattle.generator.specs.Counter.{value}
use Rattle.slots.specs.Fair.{bits_for, try_value}
use Rattle.slots.specs.Shuffle.{exchange, shuffled_from, shuffled_by, DrawsFor}
use Rattle.slots.proofs.LeastBits as LeastBits
use lib.Seq.{set-append_left}
use Rattle.slots.proofs.Rearrange as Rearrange

pub bits-few : (n : ℕ) → bits_for n ≤ 32
bits-few n = LeastBits.bits-few n

pub try-small : (n : ℕ) (bytes : List ℕ) → try_value n bytes < 2 ^ bits_for n
unfolding try_value
try-small n bytes = mod-lt (value bytes) (pow_pos (bits_for n))

pub length-exchange : (i j : ℕ) (xs : List ℕ) → length (exchange i j xs) ≡ length xs
length-exchange i j xs = Rearrange.length-exchange i j xs

-- an exchange within the front of a list
pub exchange-append : (i j : ℕ) (xs ys : List ℕ) → i < length xs → j < length xs → exchange i j (xs ++ ys) ≡ exchange i j xs ++ ys
unfolding exchange
exchange-append i j xs ys hi hj =
    let l : j < length (set xs i (get_or xs j 0)) = rw (length-set xs i (get_or xs j 0)) hj in
    rw (
      get_or-append xs ys 0 i hi,
      get_or-append xs ys 0 j hj,
      set-append_left xs ys i (get_or xs j 0) hi,
      set-append_left (set xs i (get_or xs j 0)) ys j (get_or xs i 0) l,
    )

-- ---- a shuffle by given draws, place by place

pub draws-none : DrawsFor 0 []
unfolding DrawsFor
draws-none = tt

pub draws-more : (p d : ℕ) (draws : List ℕ) → d ≤ suc p → DrawsFor p draws → DrawsFor (suc p) (d ∷ draws)
unfolding DrawsFor
draws-more p d draws h more = (h, more)

pub shuffled-none : (draws list : List ℕ) → shuffled_from 0 draws list ≡ list
unfolding shuffled_from
shuffled-none draws list = refl

pub shuffled-more : (p d : ℕ) (draws list : List ℕ) → shuffled_from (suc p) (d ∷ draws) list ≡ shuffled_from p draws (exchange (suc p) d list)
unfolding shuffled_from
shuffled-more p d draws list = refl

pub shuffled-whole : (draws list : List ℕ) → shuffled_by draws list ≡ shuffled_from (length list - 1) draws list
unfolding shuffled_by
shuffled-whole draws list = refl
