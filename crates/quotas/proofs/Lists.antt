-- What charging and clearing leave of a list.
-- Assumes nothing.
use mathlib.Core.Path.{◌≡◌, refl, sym, ap, ap₂, subst, ◌∙◌}
use mathlib.Core.Bool.{Bool, true, false, cond, not, ◌||◌, true≢false}
use mathlib.Core.List.{List, [], ◌∷◌, map}
use Prim.Native.Nat.{ℕ, suc, ◌+◌, ◌≤◌}
use native.Mathlib.Nat.{add-zero}
use native.Mathlib.Omega.{arith}
use lib.Dec.{eqb, ltb}
use lib.ListN.{length, length-map}
use borrow.Author.Tests.{ltb-false, le-ltb, eqb-true, ne_eqb, not-false}
use Rattle.laws.proofs.Cases.{split, by-test, neither}
use Rattle.laws.proofs.Refusals.{passed}
use Rattle.quotas.specs.declared.Quota.{Quota}
use Rattle.quotas.specs.Records.{max_quotas, place_of, is_listed, quota_of, repeats, overspent, malformed_quotas, event_quotas_number}
use Rattle.quotas.specs.Records.{charged_by, unspent, charged, cleared}

-- ---- the record of a source, at the head or after it

pub quota-here : (r : Quota) (rs : List Quota) (x : ℕ) → eqb r.source x ≡ true → quota_of (r ∷ rs) x ≡ r
unfolding quota_of place_of
quota-here r rs x e = rw e

pub quota-later : (r : Quota) (rs : List Quota) (x : ℕ) → eqb r.source x ≡ false → quota_of (r ∷ rs) x ≡ quota_of rs x
unfolding quota_of place_of
quota-later r rs x e = rw e

-- ---- charging

pub charged-length : (rs : List Quota) (x cost : ℕ) → length (charged rs x cost) ≡ length rs
unfolding charged
charged-length [] x cost = refl
charged-length (r ∷ rs) x cost =
    split (λ (l : List Quota). length l ≡ suc (length rs)) (eqb r.source x) (λ _. refl) (λ _. ap suc (charged-length rs x cost))

pub charged-listed : (rs : List Quota) (x cost y : ℕ) → is_listed (charged rs x cost) y ≡ is_listed rs y
unfolding charged is_listed
charged-listed [] x cost y = refl
charged-listed (r ∷ rs) x cost y =
    split (λ (l : List Quota). is_listed l y ≡ (eqb r.source y || is_listed rs y)) (eqb r.source x)
    (λ _. refl)
    (λ _. ap (λ (l : Bool). eqb r.source y || l) (charged-listed rs x cost y))

charged-repeats : (rs : List Quota) (x cost : ℕ) → repeats (charged rs x cost) ≡ repeats rs
unfolding charged repeats
charged-repeats [] x cost = refl
charged-repeats (r ∷ rs) x cost =
    split (λ (l : List Quota). repeats l ≡ (is_listed rs r.source || repeats rs)) (eqb r.source x)
    (λ _. refl)
    (λ _. ap₂ (λ (l m : Bool). l || m) (charged-listed rs x cost r.source) (charged-repeats rs x cost))

pub charged-here : (r : Quota) (rs : List Quota) (x cost : ℕ) → eqb r.source x ≡ true → charged (r ∷ rs) x cost ≡ charged_by r cost ∷ rs
unfolding charged
charged-here r rs x cost e = rw e

pub charged-later : (r : Quota) (rs : List Quota) (x cost : ℕ) → eqb r.source x ≡ false → charged (r ∷ rs) x cost ≡ r ∷ charged rs x cost
unfolding charged
charged-later r rs x cost e = rw e

not_listed : (x : ℕ) → is_listed [] x ≡ true → ⊥
unfolding is_listed
not_listed x h = true≢false (sym h)

listed-later : (r : Quota) (rs : List Quota) (x : ℕ) → eqb r.source x ≡ false → is_listed (r ∷ rs) x ≡ true → is_listed rs x ≡ true
unfolding is_listed
listed-later r rs x e h = rw e at h

-- the charged record is the source's own
pub charged-own : (rs : List Quota) (x cost : ℕ) → is_listed rs x ≡ true → quota_of (charged rs x cost) x ≡ charged_by (quota_of rs x) cost
charged-own [] x cost h = absurd (not_listed x h)
charged-own (r ∷ rs) x cost h =
    by-test (eqb r.source x) _
    (λ e. rw (quota-here r rs x e, charged-here r rs x cost e) (quota-here (charged_by r cost) rs x e))
    (λ e. rw (quota-later r rs x e, charged-later r rs x cost e) (quota-later r (charged rs x cost) x e ∙ charged-own rs x cost (listed-later r rs x e h)))

-- others keep theirs
charged-none : (x cost : ℕ) → charged [] x cost ≡ []
unfolding charged
charged-none x cost = refl

pub charged-other : (rs : List Quota) (x cost y : ℕ) → (x ≡ y → ⊥) → quota_of (charged rs x cost) y ≡ quota_of rs y
charged-other [] x cost y n = ap (λ (l : List Quota). quota_of l y) (charged-none x cost)
charged-other (r ∷ rs) x cost y n =
    by-test (eqb r.source x) _
    (λ e.
    let d : eqb r.source y ≡ false = ne_eqb r.source y (λ q. n (sym (eqb-true r.source x e) ∙ q)) in
    rw (quota-later r rs y d, charged-here r rs x cost e) (quota-later (charged_by r cost) rs y d))
    (λ e. rw (charged-later r rs x cost e)
    (by-test (eqb r.source y) _
    (λ d. quota-here r (charged rs x cost) y d ∙ sym (quota-here r rs y d))
    (λ d. quota-later r (charged rs x cost) y d ∙ charged-other rs x cost y n ∙ sym (quota-later r rs y d))))

pub overspent-not : (r : Quota) (rs : List Quota) → overspent (r ∷ rs) ≡ false → (r.spent ≤ r.allowance) × (overspent rs ≡ false)
unfolding overspent
overspent-not r rs h = let f = neither (ltb r.allowance r.spent) (overspent rs) h in (ltb-false _ _ f.0, f.1)

pub not-overspent : (r : Quota) (rs : List Quota) → r.spent ≤ r.allowance → overspent rs ≡ false → overspent (r ∷ rs) ≡ false
unfolding overspent
not-overspent r rs l h = rw (le-ltb r.allowance r.spent l) h

-- where the cost is within the allowance, no record passes its own
charged-within :
    (rs : List Quota) (x cost : ℕ) → overspent rs ≡ false → (quota_of rs x).spent + cost ≤ (quota_of rs x).allowance →
    overspent (charged rs x cost) ≡ false
charged-within [] x cost h l = rw (charged-none x cost) h
charged-within (r ∷ rs) x cost h l =
    let f = overspent-not r rs h in
    by-test (eqb r.source x) _
    (λ e.
    rw (charged-here r rs x cost e)
    (not-overspent (charged_by r cost) rs (subst (λ (q : Quota). q.spent + cost ≤ q.allowance) (quota-here r rs x e) l) f.1))
    (λ e.
    rw (charged-later r rs x cost e)
    (not-overspent r (charged rs x cost) f.0
    (charged-within rs x cost f.1 (subst (λ (q : Quota). q.spent + cost ≤ q.allowance) (quota-later r rs x e) l))))

-- ---- what an event that the list lets pass says of the list

pub record Passes (rs : List Quota) (x cost : ℕ) : Type 0 where
  pub formed : malformed_quotas rs ≡ false
  pub listed : is_listed rs x ≡ true
  pub within : (quota_of rs x).spent + cost ≤ (quota_of rs x).allowance

pub event-passes : (rs : List Quota) (x cost : ℕ) → event_quotas_number rs x cost ≡ 0 → Passes rs x cost
unfolding event_quotas_number
event-passes rs x cost e =
    let a = passed (malformed_quotas rs) 37 _ (omega arith) e in
    let b = passed (not (is_listed rs x)) 38 _ (omega arith) a.1 in
    let c = passed (ltb (quota_of rs x).allowance ((quota_of rs x).spent + cost)) 39 0 (omega arith) b.1 in
    record { formed = a.0; listed = not-false _ b.0; within = ltb-false _ _ c.0 }

-- a well-formed list stays so
pub charged-formed : (rs : List Quota) (x cost : ℕ) → Passes rs x cost → malformed_quotas (charged rs x cost) ≡ false
unfolding malformed_quotas
charged-formed rs x cost p =
    let a = neither (ltb max_quotas (length rs) || repeats rs) (overspent rs) (unfold malformed_quotas in p.formed) in
    rw (charged-length rs x cost, charged-repeats rs x cost, a.0) (charged-within rs x cost a.1 p.within)

-- ---- clearing: sources and allowances stay

pub cleared-listed : (rs : List Quota) (x : ℕ) → is_listed (cleared rs) x ≡ is_listed rs x
unfolding cleared is_listed
cleared-listed [] x = refl
cleared-listed (r ∷ rs) x = ap (λ (l : Bool). eqb r.source x || l) (cleared-listed rs x)

cleared_more : (r : Quota) (rs : List Quota) → cleared (r ∷ rs) ≡ unspent r ∷ cleared rs
unfolding cleared
cleared_more r rs = refl

-- what was charged is forgotten
pub cleared-charged : (rs : List Quota) (x cost : ℕ) → cleared (charged rs x cost) ≡ cleared rs
cleared-charged [] x cost = ap cleared (charged-none x cost)
cleared-charged (r ∷ rs) x cost =
    by-test (eqb r.source x) _
    (λ e. rw (charged-here r rs x cost e, cleared_more (charged_by r cost) rs, cleared_more r rs))
    (λ e. rw (charged-later r rs x cost e, cleared_more r (charged rs x cost), cleared_more r rs, cleared-charged rs x cost))

cleared-none : (x : ℕ) → quota_of (cleared []) x ≡ unspent (quota_of [] x)
unfolding cleared quota_of place_of
cleared-none x = refl

cleared-repeats : (rs : List Quota) → repeats (cleared rs) ≡ repeats rs
unfolding repeats
cleared-repeats [] = unfold cleared in refl
cleared-repeats (r ∷ rs) = rw (cleared_more r rs, cleared-listed rs r.source, cleared-repeats rs)

cleared-sound : (rs : List Quota) → overspent (cleared rs) ≡ false
unfolding overspent
cleared-sound [] = unfold cleared in refl
cleared-sound (r ∷ rs) = rw (cleared_more r rs, le-ltb r.allowance 0 (omega arith), cleared-sound rs)

cleared-long : (rs : List Quota) → length (cleared rs) ≡ length rs
unfolding cleared
cleared-long rs = length-map rs unspent

pub cleared-formed : (rs : List Quota) → malformed_quotas rs ≡ false → malformed_quotas (cleared rs) ≡ false
unfolding malformed_quotas
cleared-formed rs h =
    rw (cleared-long rs, cleared-repeats rs, cleared-sound rs)
    (rw (neither (ltb max_quotas (length rs) || repeats rs) (overspent rs) h).0)

pub cleared-own : (rs : List Quota) (x : ℕ) → quota_of (cleared rs) x ≡ unspent (quota_of rs x)
cleared-own [] x = cleared-none x
cleared-own (r ∷ rs) x =
    by-test (eqb r.source x) _
    (λ e. rw (quota-here r rs x e, cleared_more r rs) (quota-here (unspent r) (cleared rs) x e))
    (λ e. rw (quota-later r rs x e, cleared_more r rs) (quota-later (unspent r) (cleared rs) x e ∙ cleared-own rs x))

-- ---- allowances stay

pub charged-allowance : (rs : List Quota) (x cost y : ℕ) → (quota_of (charged rs x cost) y).allowance ≡ (quota_of rs y).allowance
charged-allowance [] x cost y = ap (λ (l : List Quota). (quota_of l y).allowance) (charged-none x cost)
charged-allowance (r ∷ rs) x cost y =
    by-test (eqb r.source x) _
    (λ e. rw (charged-here r rs x cost e)
    (by-test (eqb r.source y) _
    (λ d. rw (quota-here (charged_by r cost) rs y d, quota-here r rs y d))
    (λ d. rw (quota-later (charged_by r cost) rs y d, quota-later r rs y d))))
    (λ e. rw (charged-later r rs x cost e)
    (by-test (eqb r.source y) _
    (λ d. rw (quota-here r (charged rs x cost) y d, quota-here r rs y d))
    (λ d. rw (quota-later r (charged rs x cost) y d, quota-later r rs y d) (charged-allowance rs x cost y))))

-- ---- charging, record by record

pub repeats-not : (r : Quota) (rs : List Quota) → repeats (r ∷ rs) ≡ false → (is_listed rs r.source ≡ false) × (repeats rs ≡ false)
unfolding repeats
repeats-not r rs h = neither (is_listed rs r.source) (repeats rs) h

pub listed-not : (r : Quota) (rs : List Quota) (x : ℕ) → is_listed (r ∷ rs) x ≡ false → (eqb r.source x ≡ false) × (is_listed rs x ≡ false)
unfolding is_listed
listed-not r rs x h = neither (eqb r.source x) (is_listed rs x) h

-- what an event of a source adds to a record
abbrev pub added_to : ℕ → ℕ → Quota → Quota
added_to x cost r = charged_by r (cond (eqb r.source x) cost 0)

added-nothing : (x cost : ℕ) (r : Quota) → eqb r.source x ≡ false → added_to x cost r ≡ r
added-nothing x cost r e = rw (e, add-zero r.spent)

added_none : (rs : List Quota) (x cost : ℕ) → is_listed rs x ≡ false → map (added_to x cost) rs ≡ rs
added_none [] x cost h = refl
added_none (r ∷ rs) x cost h =
    let f = listed-not r rs x h in
    ap₂ (λ (a : Quota) (l : List Quota). a ∷ l) (added-nothing x cost r f.0) (added_none rs x cost f.1)

-- where no source repeats, each record of the source is charged
pub charged-each : (rs : List Quota) (x cost : ℕ) → repeats rs ≡ false → charged rs x cost ≡ map (added_to x cost) rs
charged-each [] x cost h = charged-none x cost
charged-each (r ∷ rs) x cost h =
    let f = repeats-not r rs h in
    by-test (eqb r.source x) _
    (λ e.
    let alone : is_listed rs x ≡ false = sym (ap (is_listed rs) (eqb-true r.source x e)) ∙ f.0 in
    charged-here r rs x cost e
    ∙ ap₂ (λ (a : Quota) (l : List Quota). a ∷ l) (rw e) (sym (added_none rs x cost alone)))
    (λ e.
    charged-later r rs x cost e
    ∙ ap₂ (λ (a : Quota) (l : List Quota). a ∷ l) (sym (added-nothing x cost r e)) (charged-each rs x cost f.1))
