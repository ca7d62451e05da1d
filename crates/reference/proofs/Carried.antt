-- Draws and shuffles unrolled, a try and a draw at a time, and carried over to other states.
-- Assumes nothing.
use mathlib.Core.Path.{◌≡◌, refl, sym, ap, ◌∙◌}
use mathlib.Core.Bool.{Bool, true, false, cond}
use mathlib.Core.List.{List, []}
use Prim.Native.Nat.{ℕ, zero, suc, ◌+◌, ◌-◌, ◌*◌, ◌≤◌, zero-le}
use native.Mathlib.Omega.{arith}
use lib.Dec.{ltb}
use lib.ListN.{length}
use Rattle.laws.proofs.Cases.{split}
use Rattle.slots.specs.Fair.{try_value}
use Rattle.slots.specs.Shuffle.{exchange}
use Rattle.pools.specs.Refusals.{max_tries}
use Rattle.pools.specs.Effects.{Effect, unchanged}
use Rattle.pools.specs.Draws.{Drawn, after, leaving, tries, shuffle_from, shuffled}

-- ---- one try of a draw and what follows, one draw of a shuffle and what follows

module _ {S : Type 0} where
  unfoldable pub one_try : ℕ → Effect S → Drawn S → Drawn S
  one_try n e more =
      cond (ltb (try_value n e.buffer) n)
      (record { found = true; value = try_value n e.buffer; effect = leaving [] e })
      (record { found = more.found; value = more.value; effect = after e more.effect })

  unfoldable pub one_place : List ℕ → Drawn S → Drawn S → Drawn S
  one_place list d more =
      cond d.found
      (record { found = more.found; value = 0; effect = after d.effect more.effect })
      (record { found = false; value = 0; effect = leaving list d.effect })

  -- the whole list, which stays as it was where a draw found no value
  unfoldable pub kept_list : List ℕ → Drawn S → Drawn S
  kept_list list o = cond o.found o (record { found = false; value = 0; effect = leaving list o.effect })

  module _ (serve : S → Effect S) where
    pub tries-one : (n d : ℕ) (s : S) → tries serve n (suc d) s ≡ one_try n (serve s) (tries serve n d (serve s).next)
    unfolding tries one_try
    tries-one n d s = refl

    pub place-one : (p : ℕ) (list : List ℕ) (s : S)
        → shuffle_from serve (suc p) list s
        ≡ one_place list (tries serve (suc p + 1) max_tries s)
        (shuffle_from serve p (exchange (suc p) (tries serve (suc p + 1) max_tries s).value list) (tries serve (suc p + 1) max_tries s).effect.next)
    unfolding shuffle_from one_place
    place-one p list s = refl

    pub shuffled-kept : (list : List ℕ) (s : S) → shuffled serve list s ≡ kept_list list (shuffle_from serve (length list - 1) list s)
    unfolding shuffled kept_list
    shuffled-kept list s = refl

-- ---- draws carried over to other states

-- h takes states over, and g effects: it keeps the buffer and goes through what draws do with effects
pub record Carries {S T : Type 0} (h : S → T) (g : Effect S → Effect T) : Type 0 where
  pub buffer : (e : Effect S) → (g e).buffer ≡ e.buffer
  pub next : (e : Effect S) → (g e).next ≡ h e.next
  pub idle : (l : List ℕ) (s : S) → g (unchanged l s) ≡ unchanged l (h s)
  pub leaves : (l : List ℕ) (e : Effect S) → g (leaving l e) ≡ leaving l (g e)
  pub joins : (e f : Effect S) → g (after e f) ≡ after (g e) (g f)

unfoldable pub carried : {S T : Type 0} → (Effect S → Effect T) → Drawn S → Drawn T
carried g o = record { found = o.found; value = o.value; effect = g o.effect }

module _ {S T : Type 0} (h : S → T) (g : Effect S → Effect T) (c : Carries h g) where
  pub one-try-carried : (n : ℕ) (e : Effect S) (more : Drawn S) → one_try n (g e) (carried g more) ≡ carried g (one_try n e more)
  unfolding one_try carried
  one-try-carried n e more = ap (λ (l : List ℕ). tried l) (c.buffer e) ∙ go (ltb (try_value n e.buffer) n)
    where
      tried : List ℕ → Drawn T
      tried l =
          cond (ltb (try_value n l) n)
          (record { found = true; value = try_value n l; effect = leaving [] (g e) })
          (record { found = more.found; value = more.value; effect = after (g e) (g more.effect) })

      go : (t : Bool) → ◌≡◌ {A = Drawn T}
          (cond t
          (record { found = true; value = try_value n e.buffer; effect = leaving [] (g e) })
          (record { found = more.found; value = more.value; effect = after (g e) (g more.effect) }))
          (carried g (cond t
          (record { found = true; value = try_value n e.buffer; effect = leaving [] e })
          (record { found = more.found; value = more.value; effect = after e more.effect })))
      go true = unfold carried in λ i. record { found = true; value = try_value n e.buffer; effect = sym (c.leaves [] e) i }
      go false = unfold carried in λ i. record { found = more.found; value = more.value; effect = sym (c.joins e more.effect) i }

  pub one-place-carried : (list : List ℕ) (d more : Drawn S) → one_place list (carried g d) (carried g more) ≡ carried g (one_place list d more)
  unfolding one_place carried
  one-place-carried list d more = go d.found
    where
      go : (t : Bool) → ◌≡◌ {A = Drawn T}
          (cond t
          (record { found = more.found; value = 0; effect = after (g d.effect) (g more.effect) })
          (record { found = false; value = 0; effect = leaving list (g d.effect) }))
          (carried g (cond t
          (record { found = more.found; value = 0; effect = after d.effect more.effect })
          (record { found = false; value = 0; effect = leaving list d.effect })))
      go true = unfold carried in λ i. record { found = more.found; value = 0; effect = sym (c.joins d.effect more.effect) i }
      go false = unfold carried in λ i. record { found = false; value = 0; effect = sym (c.leaves list d.effect) i }

  pub kept-carried : (list : List ℕ) (o : Drawn S) → kept_list list (carried g o) ≡ carried g (kept_list list o)
  unfolding kept_list carried
  kept-carried list o = go o.found
    where
      go : (t : Bool) → ◌≡◌ {A = Drawn T}
          (cond t (carried g o) (record { found = false; value = 0; effect = leaving list (g o.effect) }))
          (carried g (cond t o (record { found = false; value = 0; effect = leaving list o.effect })))
      go true = refl
      go false = unfold carried in λ i. record { found = false; value = 0; effect = sym (c.leaves list o.effect) i }

  -- one way to serve follows another from the states that R tells to be ready for k more tries
  pub record Follows (serve : S → Effect S) (follow : T → Effect T) (R : S → ℕ → Type 0) : Type 0 where
    pub same : (s : S) (k : ℕ) → R s (suc k) → follow (h s) ≡ g (serve s)
    pub ready : (s : S) (k : ℕ) → R s (suc k) → R (serve s).next k
    pub fewer : (s : S) (j k : ℕ) → j ≤ k → R s k → R s j

  module _ (serve : S → Effect S) (follow : T → Effect T) (R : S → ℕ → Type 0) (f : Follows serve follow R) where
    -- from a state w that answers the first try alike
    tries-begun : (n d : ℕ) (s : S) (w : T) → follow w ≡ g (serve s)
        → tries follow n d (h (serve s).next) ≡ carried g (tries serve n d (serve s).next)
        → tries follow n (suc d) w ≡ carried g (tries serve n (suc d) s)
    tries-begun n d s w e more =
        tries-one follow n d w
        ∙ ap (λ (x : Effect T). one_try n x (tries follow n d x.next)) e
        ∙ ap (λ (x : T). one_try n (g (serve s)) (tries follow n d x)) (c.next (serve s))
        ∙ ap (one_try n (g (serve s))) more
        ∙ one-try-carried n (serve s) (tries serve n d (serve s).next)
        ∙ ap (carried g) (sym (tries-one serve n d s))

    one-try-ready : (n k : ℕ) (e : Effect S) (more : Drawn S) → R e.next k → R more.effect.next k → R (one_try n e more).effect.next k
    unfolding one_try leaving after
    one-try-ready n k e more p q = split (λ (o : Drawn S). R o.effect.next k) (ltb (try_value n e.buffer) n) (λ t. p) (λ t. q)

    no-tries : (n : ℕ) (s : S) → tries follow n 0 (h s) ≡ carried g (tries serve n 0 s)
    unfolding tries carried
    no-tries n s = λ i. record { found = false; value = 0; effect = sym (c.idle [] s) i }

    no-tries-ready : (n k : ℕ) (s : S) → R s k → R (tries serve n 0 s).effect.next k
    unfolding tries unchanged
    no-tries-ready n k s r = r

    pub tries-follow : (n d k : ℕ) (s : S) → R s (d + k) → (tries follow n d (h s) ≡ carried g (tries serve n d s)) × R (tries serve n d s).effect.next k
    tries-follow n zero k s r = (no-tries n s, no-tries-ready n k s (f.fewer s k (zero + k) (omega arith) r))
    tries-follow n (suc d) k s r =
        let now = f.fewer s (suc (d + k)) (suc d + k) (omega arith) r in
        let left = f.ready s (d + k) now in
        let more = tries-follow n d k (serve s).next left in (
          tries-begun n d s (h s) (f.same s (d + k) now) more.0,
          rw (tries-one serve n d s) (one-try-ready n k (serve s) _ (f.fewer (serve s).next k (d + k) (omega arith) left) more.1),
        )

    -- from a state w that answers the first try alike
    pub tries-from : (n d k : ℕ) (s : S) (w : T) → follow w ≡ g (serve s) → R (serve s).next (d + k)
        → (tries follow n (suc d) w ≡ carried g (tries serve n (suc d) s)) × R (tries serve n (suc d) s).effect.next k
    tries-from n d k s w e left =
        let more = tries-follow n d k (serve s).next left in (
          tries-begun n d s w e more.0,
          rw (tries-one serve n d s) (one-try-ready n k (serve s) _ (f.fewer (serve s).next k (d + k) (omega arith) left) more.1),
        )

    -- ---- the same of a shuffle

    one-place-ready : (list : List ℕ) (k : ℕ) (d more : Drawn S) → R d.effect.next k → R more.effect.next k → R (one_place list d more).effect.next k
    unfolding one_place leaving after
    one-place-ready list k d more p q = split (λ (o : Drawn S). R o.effect.next k) d.found (λ t. q) (λ t. p)

    carried-next : (p : ℕ) (list : List ℕ) (d : Drawn S)
        → one_place list (carried g d) (shuffle_from follow p (exchange (suc p) (carried g d).value list) (carried g d).effect.next)
        ≡ one_place list (carried g d) (shuffle_from follow p (exchange (suc p) d.value list) (h d.effect.next))
    unfolding carried
    carried-next p list d = ap (λ (x : T). one_place list (carried g d) (shuffle_from follow p (exchange (suc p) d.value list) x)) (c.next d.effect)

    place-begun : (p : ℕ) (list : List ℕ) (s : S) (w : T)
        → tries follow (suc p + 1) max_tries w ≡ carried g (tries serve (suc p + 1) max_tries s)
        → shuffle_from follow p (exchange (suc p) (tries serve (suc p + 1) max_tries s).value list) (h (tries serve (suc p + 1) max_tries s).effect.next)
        ≡ carried g (shuffle_from serve p (exchange (suc p) (tries serve (suc p + 1) max_tries s).value list) (tries serve (suc p + 1) max_tries s).effect.next)
        → shuffle_from follow (suc p) list w ≡ carried g (shuffle_from serve (suc p) list s)
    place-begun p list s w e more =
        let d = tries serve (suc p + 1) max_tries s in
        place-one follow p list w
        ∙ ap (λ (x : Drawn T). one_place list x (shuffle_from follow p (exchange (suc p) x.value list) x.effect.next)) e
        ∙ carried-next p list d
        ∙ ap (one_place list (carried g d)) more
        ∙ one-place-carried list d (shuffle_from serve p (exchange (suc p) d.value list) d.effect.next)
        ∙ ap (carried g) (sym (place-one serve p list s))

    no-places : (list : List ℕ) (s : S) → shuffle_from follow 0 list (h s) ≡ carried g (shuffle_from serve 0 list s)
    unfolding shuffle_from carried
    no-places list s = λ i. record { found = true; value = 0; effect = sym (c.idle list s) i }

    no-places-ready : (list : List ℕ) (s : S) → R s 0 → R (shuffle_from serve 0 list s).effect.next 0
    unfolding shuffle_from unchanged
    no-places-ready list s r = r

    draws-left : (p : ℕ) → max_tries + max_tries * p ≤ max_tries * suc p
    unfolding max_tries
    draws-left p = omega arith

    pub shuffle-follows : (p : ℕ) (list : List ℕ) (s : S) → R s (max_tries * p)
        → (shuffle_from follow p list (h s) ≡ carried g (shuffle_from serve p list s)) × R (shuffle_from serve p list s).effect.next 0
    shuffle-follows zero list s r = (no-places list s, no-places-ready list s (f.fewer s 0 (max_tries * 0) zero-le r))
    shuffle-follows (suc p) list s r =
        let d = tries serve (suc p + 1) max_tries s in
        let drawn = tries-follow (suc p + 1) max_tries (max_tries * p) s (f.fewer s (max_tries + max_tries * p) (max_tries * suc p) (draws-left p) r) in
        let more = shuffle-follows p (exchange (suc p) d.value list) d.effect.next drawn.1 in (
          place-begun p list s (h s) drawn.0 more.0,
          rw (place-one serve p list s) (one-place-ready list 0 d _ (f.fewer d.effect.next 0 (max_tries * p) zero-le drawn.1) more.1),
        )

    first-draw : (n k : ℕ) (s : S) (w : T) → follow w ≡ g (serve s) → R (serve s).next (63 + k)
        → (tries follow n max_tries w ≡ carried g (tries serve n max_tries s)) × R (tries serve n max_tries s).effect.next k
    unfolding max_tries
    first-draw n k s w e r = tries-from n 63 k s w e r

    pub shuffle-from : (p : ℕ) (list : List ℕ) (s : S) (w : T) → follow w ≡ g (serve s) → R (serve s).next (63 + max_tries * p)
        → shuffle_from follow (suc p) list w ≡ carried g (shuffle_from serve (suc p) list s)
    shuffle-from p list s w e r =
        let d = tries serve (suc p + 1) max_tries s in
        let drawn = first-draw (suc p + 1) (max_tries * p) s w e r in
        place-begun p list s w drawn.0 (shuffle-follows p (exchange (suc p) d.value list) d.effect.next drawn.1).0

    -- the whole list
    pub shuffled-carried : (list : List ℕ) (s : S) (w : T) → shuffle_from follow (length list - 1) list w
        ≡ carried g (shuffle_from serve (length list - 1) list s)
        → shuffled follow list w ≡ carried g (shuffled serve list s)
    shuffled-carried list s w e =
        shuffled-kept follow list w ∙ ap (kept_list list) e ∙ kept-carried list (shuffle_from serve (length list - 1) list s)
        ∙ ap (carried g) (sym (shuffled-kept serve list s))
