-- A shuffle in a copy that is longer than the list.
-- Assumes nothing.
use mathlib.Core.Path.{◌≡◌, refl, sym, ◌∙◌}
use mathlib.Core.Bool.{Bool, true, false}
use mathlib.Core.List.{List, ◌++◌}
use Prim.Native.Nat.{ℕ, ◌-◌, ◌≤◌}
use native.Mathlib.Omega.{arith}
use lib.Dec.{eqb}
use lib.ListN.{length, take, drop, length-append, length-drop}
use lib.Seq.{take-append_seam}
use Rattle.laws.specs.Lists.{overwrite}
use Rattle.laws.proofs.Copy.{overwrite-fits, overwrite-cut}
use Rattle.pools.specs.Draws.{leaving, shuffle_from, shuffled, try_at}
use Rattle.pools.specs.Promises.{number}
use Rattle.pools.specs.declared.Fortuna.{Fortuna}
use Rattle.pools.specs.declared.Outcome.{Outcome}
use Rattle.draws.specs.Drawing.{DrawsList}
use Rattle.draws.proofs.Shuffling.{found-is}
use Rattle.draws.proofs.Copies.{Behind, shuffle-behind}

cut-front : (n : ℕ) (xs ys zs : List ℕ) → length xs ≡ n → zs ≡ xs ++ ys → take n zs ≡ xs
cut-front n xs ys zs l e = rw (e, ← l) (take-append_seam xs ys)

-- a list of at least one number, copied over the front of `blank` and shuffled there; r is what that came to
module _ (clock : ℕ) (s : Fortuna) (list blank order left : List ℕ) (r : Outcome Fortuna)
    (some : 1 ≤ length list) (room : length list ≤ length blank) (copied : order ≡ overwrite blank list)
    (drawn : DrawsList (shuffle_from (try_at clock) (length list - 1) order s) r left) where
  rest : List ℕ
  rest = drop (length list) blank

  behind : Behind (length list) rest (shuffle_from (try_at clock) (length list - 1) list s) (shuffle_from (try_at clock) (length list - 1) order s)
  unfolding rest
  behind = rw (copied ∙ overwrite-fits blank list room) (shuffle-behind (try_at clock) (length list - 1) list rest s (omega arith))

  in-front : left ≡ (shuffle_from (try_at clock) (length list - 1) list s).effect.buffer ++ rest
  in-front = drawn.3 ∙ behind.3

  pub copy-long : length left ≡ length blank
  unfolding rest
  copy-long = rw (in-front, length-append, behind.4, length-drop) (omega arith)

  module _ (done : Bool) (tested : done ≡ eqb (number r.answer) 0) where
    is_found : (shuffle_from (try_at clock) (length list - 1) list s).found ≡ done
    is_found = sym behind.0 ∙ found-is _ _ done drawn.0 tested

    -- every draw found a value, and the copy was written back
    pub copy_done : (out : List ℕ) → done ≡ true → out ≡ overwrite list left → DrawsList (shuffled (try_at clock) list s) r out
    unfolding shuffled
    copy_done out t written =
        let f = is_found ∙ t in
        let cut = overwrite-cut list left (rw copy-long room) in
        let front = cut-front (length list) (shuffle_from (try_at clock) (length list - 1) list s).effect.buffer rest left behind.4 in-front in
        rw f (drawn.0 ∙ rw (behind.0, f), drawn.1 ∙ behind.1, drawn.2 ∙ behind.2, written ∙ cut ∙ front)

    -- a draw found none, and the list was left alone
    pub copy-kept : done ≡ false → DrawsList (shuffled (try_at clock) list s) r list
    unfolding shuffled leaving
    copy-kept t =
        let f = is_found ∙ t in
        rw f (drawn.0 ∙ rw (behind.0, f), drawn.1 ∙ behind.1, drawn.2 ∙ behind.2, refl)
