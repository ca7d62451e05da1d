-- Which accepted events a pool holds, and which of them a reseed consumes: an event booked above n waits for reseed n + 1 or a later one.
-- Assumes nothing.
use mathlib.Core.Path.{◌≡◌}
use mathlib.Core.Bool.{true, false, cond}
use mathlib.Core.List.{List, [], ◌∷◌, ◌++◌, map}
use Prim.Native.Nat.{ℕ, suc, ◌+◌, ◌≤◌}
use native.Mathlib.Omega.{arith}
use lib.Dec.{eqb}
use Rattle.laws.specs.Lists.{select}
use Rattle.laws.proofs.Selections.{Every}
use Rattle.pools.specs.Schedule.{used}
use Rattle.pools.proofs.Bookings.{BookedBy, waits-mapped, waits-joined, taken-new, waits-taken, waits-gone, waits-stays}
use Rattle.reference.specs.Reference.{Accepted, scheduled, pending, consumed_at, contents}
use Rattle.reference.specs.Provenance.{piece_of}
use Rattle.reference.proofs.Schedule.{scheduled-later, scheduled-by, scheduled-used}

-- each event was accepted after at most n reseeds
abbrev pub Past : ℕ → List Accepted → Type 0
Past n es = Every (λ (e : Accepted). e.reseeds_before ≤ n) es

abbrev event_pool : Accepted → ℕ
event_pool e = e.pool

-- ---- at a pool reseed

module _ (n i : ℕ) (es : List Accepted) (p : Past n es) where
  booked : Every (BookedBy event_pool scheduled used (n + 1)) es
  unfolding scheduled
  booked e m =
      record {
        in-time = scheduled-by e.pool e.reseeds_before (n + 1) (omega (arith, p e m));
        own = scheduled-used e.pool e.reseeds_before;
      }

  -- what was pending in a pool that it uses is consumed then, and is pending no longer
  pub pending-consumed : used (n + 1) i ≡ true → select (pending n i) es ≡ select (consumed_at (n + 1) i) es
  unfolding pending consumed_at
  pending-consumed = waits-taken event_pool scheduled used (suc n) (n + 1) (suc (n + 1)) i (omega arith) (omega arith) es booked

  pub pending-gone : used (n + 1) i ≡ true → select (pending (n + 1) i) es ≡ []
  unfolding pending
  pending-gone = waits-gone event_pool scheduled used (suc n) (n + 1) (suc (n + 1)) i (omega arith) (omega arith) es booked

  -- in another, it still is
  pub pending-stays : used (n + 1) i ≡ false → select (pending (n + 1) i) es ≡ select (pending n i) es
  unfolding pending
  pending-stays = waits-stays event_pool scheduled used (suc n) (n + 1) (suc (n + 1)) i (omega arith) (omega arith) es booked

-- ---- a new event

module _ (i : ℕ) (es : List Accepted) (e : Accepted) where
  to-come : suc e.reseeds_before ≤ scheduled e
  unfolding scheduled
  to-come = omega (arith, scheduled-later e.pool e.reseeds_before)

  -- its piece and its bytes are pending in its pool
  pub pending-pieces :
      map piece_of (select (pending e.reseeds_before i) (es ++ (e ∷ [])))
      ≡ map piece_of (select (pending e.reseeds_before i) es) ++ cond (eqb e.pool i) (piece_of e ∷ []) []
  unfolding pending
  pending-pieces = waits-mapped event_pool scheduled (suc e.reseeds_before) i es e to-come piece_of

  pub pending-contents :
      contents (select (pending e.reseeds_before i) (es ++ (e ∷ [])))
      ≡ contents (select (pending e.reseeds_before i) es) ++ cond (eqb e.pool i) e.bytes []
  unfolding pending contents
  pending-contents = waits-joined event_pool scheduled (suc e.reseeds_before) i es e to-come (λ (x : Accepted). x.bytes)

  -- and it is consumed at no reseed made before
  pub consumed-new : (n : ℕ) → n ≤ e.reseeds_before → select (consumed_at n i) (es ++ (e ∷ [])) ≡ select (consumed_at n i) es
  unfolding consumed_at
  consumed-new n h = taken-new event_pool scheduled n i es e (omega (arith, to-come))
