-- What the schedule's uses of pools say of one call: its bytes stand in a use exactly where an accepted event of its place is booked for it.
-- Assumes nothing.
use mathlib.Core.Path.{◌≡◌, refl, sym, ap, subst, ◌∙◌}
use mathlib.Core.Bool.{true, cond}
use mathlib.Core.List.Memᴰ
use mathlib.Core.List.{List, [], ◌∷◌, map, Memᴰ}
use Prim.Native.Nat.{ℕ, zero, suc, ◌≤◌, ◌<◌}
use native.Mathlib.Omega.{arith}
use lib.Dec.{eqb}
use borrow.Author.Tests.{eqb-true, eq-eqb}
use Rattle.laws.specs.Lists.{joined, select}
use Rattle.laws.proofs.Cases.{both}
use Rattle.laws.proofs.Selections.{mem-select, select-mem, mem-joined, joined-mem, mem-parts, parts-mem}
use Rattle.pools.specs.Events.{pool_count}
use Rattle.pools.specs.Schedule.{used, used_below, used_pools}
use Rattle.quotas.specs.Entries.{Entry}
use Rattle.reference.specs.Reference.{Accepted, scheduled, consumed_at}
use Rattle.reference.specs.Provenance.{Piece, PoolUse, traced, piece_of, scheduled_use, scheduled_uses, EntersAt}
use Rattle.reference.proofs.Schedule.{scheduled-later, scheduled-used}

-- ---- the uses of pools at the reseeds up to r

-- the pools used at reseed n
used-mem : (n i k : ℕ) → i < k → used n i ≡ true → Memᴰ i (used_below n k)
unfolding used_below
used-mem n i k h u =
    parts-mem (λ j. cond (used n j) (j ∷ []) []) (used_below n) refl (λ j. refl) k i i h
    (subst (λ b. Memᴰ i (cond b (i ∷ []) [])) (sym u) (Memᴰ.head refl))

-- the uses at reseed n + 1
abbrev uses_at : List Accepted → ℕ → List PoolUse
uses_at es n = joined (scheduled_use es (suc n)) (used_pools (suc n))

record Listed (es : List Accepted) (r : ℕ) (u : PoolUse) : Type 0 where
  n : ℕ
  i : ℕ
  reached : n ≤ r
  is : Memᴰ u (scheduled_use es n i)

listed : (es : List Accepted) (r : ℕ) (u : PoolUse) → Memᴰ u (scheduled_uses es r) → Listed es r u
unfolding scheduled_uses
listed es r u m =
    let at = mem-parts (uses_at es) (scheduled_uses es) refl (λ n. refl) r u m in
    let y = mem-joined (scheduled_use es (suc at.0)) (used_pools (suc at.0)) u at.2 in
    record { n = suc at.0; i = y.0; reached = omega (arith, at.1); is = y.1 }

uses-mem :
    (es : List Accepted) (n i : ℕ) (u : PoolUse) → i < pool_count → used n i ≡ true → Memᴰ u (scheduled_use es n i) →
    (r : ℕ) → 0 < n → n ≤ r → Memᴰ u (scheduled_uses es r)
unfolding scheduled_uses used_pools
uses-mem es zero i u h v m r p k = absurd (omega arith)
uses-mem es (suc n) i u h v m r p k =
    parts-mem (uses_at es) (scheduled_uses es) refl (λ n. refl) r n u (omega arith)
    (joined-mem (scheduled_use es (suc n)) (used_below (suc n) pool_count) i u (used-mem (suc n) i pool_count h v) m)

-- ---- when a call's bytes enter

-- an accepted event of a place that is booked for reseed n, one of the first r, through pool i, and whose piece is p
pub record Booked (es : List Accepted) (r place n i : ℕ) (p : Piece) : Type 0 where
  pub event : Accepted
  pub listed : Memᴰ event es
  pub own : event.place ≡ place
  pub pool : i ≡ event.pool
  pub reseed_number : n ≡ scheduled event
  pub reached : n ≤ r
  pub piece : p ≡ piece_of event

module _ (calls : List Entry) (es : List Accepted) (r : ℕ) (uses : (traced calls).uses ≡ scheduled_uses es r) where
  -- what enters was booked
  pub entering-booked : (place n i : ℕ) (a : EntersAt calls place n i) → Booked es r place n i a.piece
  unfolding scheduled_use consumed_at piece_of
  entering-booked place n i a =
      let y = listed es r a.pool_use (subst (Memᴰ a.pool_use) uses a.made) in
      let is : a.pool_use ≡ record { reseed_number = y.n; pool = y.i; pieces = map piece_of (select (consumed_at y.n y.i) es) } =
      Memᴰ.eq_of_singleton y.is in
      let c = mem-select piece_of (consumed_at y.n y.i) es a.piece (subst (Memᴰ a.piece) (ap (λ (u : PoolUse). u.pieces) is) a.inside) in
      let booked = both (eqb c.element.pool y.i) (eqb (scheduled c.element) y.n) c.passes in
      let nn : n ≡ y.n = sym a.reseed_number ∙ ap (λ (u : PoolUse). u.reseed_number) is in
      record {
        event = c.element;
        listed = c.listed;
        own = omega (arith, ap (λ (p : Piece). p.place) c.is, a.own);
        pool = sym a.pool ∙ ap (λ (u : PoolUse). u.pool) is ∙ sym (eqb-true c.element.pool y.i booked.0);
        reseed_number = nn ∙ sym (eqb-true (scheduled c.element) y.n booked.1);
        reached = omega (arith, nn, y.reached);
        piece = c.is;
      }

  -- and what was booked enters
  pub booked-enters :
      (e : Accepted) → Memᴰ e es → e.pool < pool_count → scheduled e ≤ r → EntersAt calls e.place (scheduled e) e.pool
  unfolding scheduled_use piece_of
  booked-enters e m p h =
      record {
        pool_use = record { reseed_number = scheduled e; pool = e.pool; pieces = map piece_of (select (consumed_at (scheduled e) e.pool) es) };
        made =
            subst (Memᴰ _) (sym uses)
            (uses-mem es (scheduled e) e.pool _ p (unfold scheduled in scheduled-used e.pool e.reseeds_before) (Memᴰ.head refl) r
            (unfold scheduled in omega (arith, scheduled-later e.pool e.reseeds_before)) h);
        reseed_number = refl;
        pool = refl;
        piece = piece_of e;
        inside =
            select-mem piece_of (consumed_at (scheduled e) e.pool) es e m
            (unfold consumed_at in rw (eq-eqb e.pool e.pool refl, eq-eqb (scheduled e) (scheduled e) refl));
        own = omega arith;
      }
