-- Which accepted events a pool holds, and which of them a step consumes: an event booked for n or later waits at step n.
-- Assumes nothing.
use mathlib.Core.Path.{◌≡◌, refl}
use mathlib.Core.Bool.{true, false, cond}
use mathlib.Core.List.{List, [], ◌∷◌, ◌++◌, map}
use Prim.Native.Nat.{ℕ, ◌+◌, ◌≤◌, ◌<◌}
use native.Mathlib.Omega.{arith}
use lib.Dec.{eqb}
use Rattle.laws.specs.Lists.{select}
use Rattle.laws.proofs.Selections.{Every}
use Rattle.pools.proofs.Bookings.{BookedBy, waits-mapped, waits-joined, taken-new, waits-taken, waits-gone, waits-stays}
use Rattle.keyed.specs.Scheduler.{takes}
use Rattle.keyed_reference.specs.Reference.{Accepted, scheduled, pending, consumed_at, contents}
use Rattle.keyed_reference.specs.Provenance.{piece_of}
use Rattle.keyed_reference.proofs.Schedule.{scheduled-from, scheduled-takes, scheduled-first}

-- each event was accepted at a step below n, into one of the pools
abbrev pub Past : ℕ → List Accepted → Type 0
Past n es = Every (λ (e : Accepted). (e.step < n) × (e.pool < 32)) es

abbrev event_pool : Accepted → ℕ
event_pool e = e.pool

-- ---- at step n, its own event noted

module _ (n i : ℕ) (es : List Accepted) (p : Past (n + 1) es) where
  booked : Every (BookedBy event_pool scheduled takes n) es
  unfolding scheduled
  booked e m =
      let h = p e m in
      record {
        in-time = scheduled-first e.pool e.step n h.1 (omega arith);
        own = scheduled-takes e.pool e.step h.1;
      }

  -- what was pending in the pool that it empties is consumed then, and is pending no longer
  pub pending-consumed : takes n i ≡ true → select (pending n i) es ≡ select (consumed_at n i) es
  unfolding pending consumed_at
  pending-consumed = waits-taken event_pool scheduled takes n n (n + 1) i refl refl es booked

  pub pending-gone : takes n i ≡ true → select (pending (n + 1) i) es ≡ []
  unfolding pending
  pending-gone = waits-gone event_pool scheduled takes n n (n + 1) i refl refl es booked

  -- in another, it still is
  pub pending-stays : takes n i ≡ false → select (pending (n + 1) i) es ≡ select (pending n i) es
  unfolding pending
  pending-stays = waits-stays event_pool scheduled takes n n (n + 1) i refl refl es booked

-- ---- a new event

module _ (i : ℕ) (es : List Accepted) (e : Accepted) where
  to-come : e.step ≤ scheduled e
  unfolding scheduled
  to-come = scheduled-from e.pool e.step

  -- its piece and its bytes are pending in its pool
  pub pending-pieces :
      map piece_of (select (pending e.step i) (es ++ (e ∷ [])))
      ≡ map piece_of (select (pending e.step i) es) ++ cond (eqb e.pool i) (piece_of e ∷ []) []
  unfolding pending
  pending-pieces = waits-mapped event_pool scheduled e.step i es e to-come piece_of

  pub pending-contents :
      contents (select (pending e.step i) (es ++ (e ∷ [])))
      ≡ contents (select (pending e.step i) es) ++ cond (eqb e.pool i) e.bytes []
  unfolding pending contents
  pending-contents = waits-joined event_pool scheduled e.step i es e to-come (λ (x : Accepted). x.bytes)

  -- and it is consumed at no step before its own
  pub consumed-new : (n : ℕ) → n < e.step → select (consumed_at n i) (es ++ (e ∷ [])) ≡ select (consumed_at n i) es
  unfolding consumed_at
  consumed-new n h = taken-new event_pool scheduled n i es e (omega (arith, to-come))
