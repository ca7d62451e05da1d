-- What the schedule's emptyings say of one call: its bytes stand in one exactly where an accepted event of its place is booked for its step.
-- Assumes nothing.
use mathlib.Core.Path.{◌≡◌, refl, sym, ap, subst, ◌∙◌}
use mathlib.Core.Bool.{Bool, true, false, cond}
use mathlib.Core.List.Memᴰ
use mathlib.Core.List.{List, [], ◌∷◌, map, Memᴰ}
use Prim.Native.Nat.{ℕ, ◌<◌}
use native.Mathlib.Omega.{arith}
use lib.Dec.{eqb}
use borrow.Author.Tests.{eqb-true, eq-eqb}
use Rattle.laws.specs.Lists.{select}
use Rattle.laws.proofs.Cases.{both}
use Rattle.laws.proofs.Selections.{Ordered, mem-select, select-mem, select-ordered, mem-parts, parts-mem}
use Rattle.reference.specs.Provenance.{Piece}
use Rattle.keyed.specs.Scheduler.{empties, output_pool, takes}
use Rattle.keyed.specs.Entries.{Entry}
use Rattle.keyed_reference.specs.Reference.{Accepted, scheduled, consumed_at}
use Rattle.keyed_reference.specs.Provenance.{PoolUse, traced, piece_of, scheduled_use, scheduled_uses, EntersAt, InOrder}
use Rattle.keyed_reference.proofs.Schedule.{scheduled-takes}

-- the emptying of step n
abbrev use_at : List Accepted → ℕ → PoolUse
use_at es n = record { step = n; pool = output_pool n; pieces = map piece_of (select (consumed_at n (output_pool n)) es) }

only-use : (es : List Accepted) (n : ℕ) (u : PoolUse) → Memᴰ u (scheduled_use es n) → u ≡ use_at es n
unfolding scheduled_use
only-use es n u m = go (empties n) m
  where
    go : (t : Bool) → Memᴰ u (cond t (use_at es n ∷ []) []) → u ≡ use_at es n
    go true h = Memᴰ.eq_of_singleton h
    go false h = absurd (Memᴰ.not-nil h)

-- the specs' word for it
in_order : (ps : List Piece) → Ordered (λ (p : Piece). p.place) ps → InOrder ps
in_order [] o = tt
in_order (p ∷ ps) o = (o.0, in_order ps o.1)

-- an accepted event of a place that is booked for step n, one of those below r, through pool i, and whose piece is p
pub record Booked (es : List Accepted) (r place n i : ℕ) (p : Piece) : Type 0 where
  pub event : Accepted
  pub listed : Memᴰ event es
  pub own : event.place ≡ place
  pub pool : i ≡ event.pool
  pub at_step : n ≡ scheduled event
  pub reached : n < r
  pub piece : p ≡ piece_of event

module _ (key : List ℕ) (calls : List Entry) (es : List Accepted) (r : ℕ) (uses : (traced key calls).uses ≡ scheduled_uses es r) where
  -- what a step empties stands in the order of its calls
  pub uses-ordered : Ordered (λ (e : Accepted). e.place) es → (u : PoolUse) → Memᴰ u (traced key calls).uses → InOrder u.pieces
  unfolding scheduled_uses piece_of
  uses-ordered o u m =
      let y = mem-parts (scheduled_use es) (scheduled_uses es) refl (λ k. refl) r u (subst (Memᴰ u) uses m) in
      subst (λ (x : PoolUse). InOrder x.pieces) (sym (only-use es y.0 u y.2))
      (in_order (use_at es y.0).pieces (select-ordered piece_of (λ (p : Piece). p.place) (consumed_at y.0 (output_pool y.0)) es o))

  -- what enters was booked
  pub entering-booked : (place n i : ℕ) (a : EntersAt key calls place n i) → Booked es r place n i a.piece
  unfolding scheduled_uses consumed_at piece_of
  entering-booked place n i a =
      let y = mem-parts (scheduled_use es) (scheduled_uses es) refl (λ k. refl) r a.pool_use (subst (Memᴰ a.pool_use) uses a.made) in
      let is : a.pool_use ≡ use_at es y.0 = only-use es y.0 a.pool_use y.2 in
      let out = output_pool y.0 in
      let c = mem-select piece_of (consumed_at y.0 out) es a.piece (subst (Memᴰ a.piece) (ap (λ (u : PoolUse). u.pieces) is) a.inside) in
      let booked = both (eqb c.element.pool out) (eqb (scheduled c.element) y.0) c.passes in
      let nn : n ≡ y.0 = sym a.at_step ∙ ap (λ (u : PoolUse). u.step) is in
      record {
        event = c.element;
        listed = c.listed;
        own = omega (arith, ap (λ (p : Piece). p.place) c.is, a.own);
        pool = sym a.pool ∙ ap (λ (u : PoolUse). u.pool) is ∙ sym (eqb-true c.element.pool out booked.0);
        at_step = nn ∙ sym (eqb-true (scheduled c.element) y.0 booked.1);
        reached = omega (arith, nn, y.1);
        piece = c.is;
      }

  -- and what was booked enters
  pub booked-enters :
      (e : Accepted) → Memᴰ e es → e.pool < 32 → scheduled e < r → EntersAt key calls e.place (scheduled e) e.pool
  unfolding scheduled_uses scheduled_use piece_of scheduled takes consumed_at
  booked-enters e m p h =
      let t = both (empties (scheduled e)) (eqb (output_pool (scheduled e)) e.pool) (scheduled-takes e.pool e.step p) in
      let out : output_pool (scheduled e) ≡ e.pool = eqb-true (output_pool (scheduled e)) e.pool t.1 in
      record {
        pool_use = use_at es (scheduled e);
        made =
            subst (Memᴰ _) (sym uses)
            (parts-mem (scheduled_use es) (scheduled_uses es) refl (λ k. refl) r (scheduled e) (use_at es (scheduled e)) h
            (subst (λ b. Memᴰ (use_at es (scheduled e)) (cond b (use_at es (scheduled e) ∷ []) [])) (sym t.0) (Memᴰ.head refl)));
        at_step = refl;
        pool = out;
        piece = piece_of e;
        inside =
            select-mem piece_of (consumed_at (scheduled e) (output_pool (scheduled e))) es e m
            (rw (eq-eqb e.pool (output_pool (scheduled e)) (sym out), eq-eqb (scheduled e) (scheduled e) refl));
        own = omega arith;
      }
