-- What a check of a list knows so far: each record that it has passed stands at the first place of its source, and is within its allowance.
-- Assumes nothing.
use mathlib.Core.Path.{◌≡◌, refl, sym, ap, ◌∙◌}
use Prim.Native.Nat.{ℕ, zero, suc, ◌+◌, ◌≤◌, ◌<◌}
use native.Mathlib.Nat.{not-suc-le-zero}
use native.Mathlib.Omega.{arith}
use mathlib.Core.Bool.{true, false, ◌||◌, true≢false}
use mathlib.Core.Logic.{◌⊎◌, inl, inr, ⊎_elim}
use mathlib.Core.List.{List, [], ◌∷◌}
use lib.Dec.{eqb, leb, ltb}
use lib.ListN.{length, get_or, drop}
use borrow.Author.Tests.{ltb-true, ltb-false, leb-true, lt-ltb, le-ltb, eqb-true, eq-eqb, ne_eqb}
use Rattle.std.proofs.Common.{Result, MatchResult, below_more}
use Rattle.laws.proofs.Cases.{by-test, neither}
use Rattle.pools.specs.declared.refusal.Refusal.{Refusal}
use Rattle.pools.specs.Promises.{code}
use Rattle.quotas.specs.declared.Quota.{Quota}
use Rattle.quotas.specs.Records.{no_record, max_quotas, place_of, place_from, is_listed, repeats, overspent, malformed_quotas, quotas_number}
use Rattle.quotas.specs.Charges.{first_bound, start_at, bound_after}
use Rattle.quotas.proofs.Lists.{overspent-not, not-overspent, repeats-not}
use Rattle.quotas.proofs.Places.{place_hit, place-from-0, place_here, place-later, listed_here, listed-there}

-- ---- the places of sources that do not repeat

own-listed : (rs : List Quota) (i : ℕ) → i < length rs → is_listed rs (get_or rs i no_record).source ≡ true
own-listed [] i l = absurd (not-suc-le-zero l)
own-listed (r ∷ rs) zero l = listed_here r rs r.source (eq-eqb r.source r.source refl)
own-listed (r ∷ rs) (suc i) l =
    by-test (eqb r.source (get_or rs i no_record).source) _
    (λ e. listed_here r rs _ e)
    (λ e. listed-there r rs _ e ∙ own-listed rs i (omega arith))

not-repeats : (r : Quota) (rs : List Quota) → is_listed rs r.source ≡ false → repeats rs ≡ false → repeats (r ∷ rs) ≡ false
unfolding repeats
not-repeats r rs h k = rw h k

own-place : (rs : List Quota) (i : ℕ) → repeats rs ≡ false → i < length rs → place_of rs (get_or rs i no_record).source ≡ i
own-place [] i h l = absurd (not-suc-le-zero l)
own-place (r ∷ rs) zero h l = place_here r rs r.source (eq-eqb r.source r.source refl)
own-place (r ∷ rs) (suc i) h l =
    let f = repeats-not r rs h in
    by-test (eqb r.source (get_or rs i no_record).source) _
    (λ e. absurd (true≢false (sym (own-listed rs i (omega arith)) ∙ sym (ap (is_listed rs) (eqb-true r.source _ e)) ∙ f.0)))
    (λ e. place-later r rs _ e ∙ ap suc (own-place rs i f.1 (omega arith)))

found-place : (rs : List Quota) (x : ℕ) → is_listed rs x ≡ true → (place_of rs x < length rs) × ((get_or rs (place_of rs x) no_record).source ≡ x)
found-place [] x h = absurd (true≢false (sym h ∙ (unfold is_listed in refl)))
found-place (r ∷ rs) x h =
    by-test (eqb r.source x) _
    (λ e. rw (place_here r rs x e) (omega arith, eqb-true r.source x e))
    (λ e. let k = found-place rs x (sym (listed-there r rs x e) ∙ h) in rw (place-later r rs x e) (let l = k.0 in omega arith, k.1))

no-repeats : (rs : List Quota) → ((i : ℕ) → i < length rs → place_of rs (get_or rs i no_record).source ≡ i) → repeats rs ≡ false
no-repeats [] h = unfold repeats in refl
no-repeats (r ∷ rs) h =
    not-repeats r rs
    (by-test (is_listed rs r.source) _
    (λ t.
    let k = found-place rs r.source t in
    let e : place_of (r ∷ rs) r.source ≡ suc (place_of rs r.source) =
    sym (ap (place_of (r ∷ rs)) k.1) ∙ h (suc (place_of rs r.source)) (let l = k.0 in omega arith)
    in
    let z : place_of (r ∷ rs) r.source ≡ 0 = place_here r rs r.source (eq-eqb r.source r.source refl) in
    absurd (omega arith))
    (λ t. t))
    (no-repeats rs (λ i l.
    let e : place_of (r ∷ rs) (get_or rs i no_record).source ≡ suc i = h (suc i) (omega arith) in
    by-test (eqb r.source (get_or rs i no_record).source) _
    (λ t. let z = place_here r rs (get_or rs i no_record).source t in absurd (omega arith))
    (λ t. let z = place-later r rs (get_or rs i no_record).source t in omega arith)))

within-at : (rs : List Quota) (i : ℕ) → overspent rs ≡ false → i < length rs → (get_or rs i no_record).spent ≤ (get_or rs i no_record).allowance
within-at [] i h l = absurd (not-suc-le-zero l)
within-at (r ∷ rs) zero h l = (overspent-not r rs h).0
within-at (r ∷ rs) (suc i) h l = within-at rs i (overspent-not r rs h).1 (omega arith)

all-within : (rs : List Quota) → ((i : ℕ) → i < length rs → (get_or rs i no_record).spent ≤ (get_or rs i no_record).allowance) → overspent rs ≡ false
all-within [] h = unfold overspent in refl
all-within (r ∷ rs) h = not-overspent r rs (h 0 (omega arith)) (all-within rs (λ i l. h (suc i) (omega arith)))

-- ---- the check

-- each record stands at the place of its source, and is within its allowance
Sound : List Quota → ℕ → Type 0
Sound rs i = (place_of rs (get_or rs i no_record).source ≡ i) × ((get_or rs i no_record).spent ≤ (get_or rs i no_record).allowance)

not-malformed : (rs : List Quota) → length rs ≤ 64 → ((i : ℕ) → i < length rs → Sound rs i) → malformed_quotas rs ≡ false
unfolding malformed_quotas max_quotas Sound
not-malformed rs l h = rw (le-ltb 64 (length rs) l, no-repeats rs (λ i k. (h i k).0), all-within rs (λ i k. (h i k).1))

-- a fault of one record is one of the list
unsound : (rs : List Quota) (i : ℕ) → i < length rs → (Sound rs i → ⊥) → malformed_quotas rs ≡ true
unfolding malformed_quotas Sound
unsound rs i l h =
    by-test (malformed_quotas rs) _ (λ t. t)
    (λ t.
    let a = neither (ltb max_quotas (length rs) || repeats rs) (overspent rs) t in
    let b = neither (ltb max_quotas (length rs)) (repeats rs) a.0 in
    absurd (h (own-place rs i b.1 l, within-at rs i a.1 l)))

too_long : (rs : List Quota) → 64 < length rs → malformed_quotas rs ≡ true
unfolding malformed_quotas max_quotas
too_long rs l = rw (lt-ltb 64 (length rs) l)

number-good : (rs : List Quota) → malformed_quotas rs ≡ false → quotas_number rs ≡ 0
unfolding quotas_number
number-good rs t = rw t

number-bad : (rs : List Quota) → malformed_quotas rs ≡ true → quotas_number rs ≡ 37
unfolding quotas_number
number-bad rs t = rw t

-- the record at i is the first of its source where no record before it has that source
first-place :
    (rs : List Quota) (i : ℕ) → i < length rs → ((j : ℕ) → j < i → (get_or rs j no_record).source ≡ (get_or rs i no_record).source → ⊥) →
    place_of rs (get_or rs i no_record).source ≡ i
first-place [] i l h = absurd (not-suc-le-zero l)
first-place (r ∷ rs) zero l h = place_here r rs r.source (eq-eqb r.source r.source refl)
first-place (r ∷ rs) (suc i) l h =
    place-later r rs _ (ne_eqb r.source (get_or rs i no_record).source (h 0 (omega arith)))
    ∙ ap suc (first-place rs i (omega arith) (λ j k. h (suc j) (omega arith)))

-- the search that starts at the record itself ends there
own-start : (rs : List Quota) (i : ℕ) → i < length rs → place_from rs (get_or rs i no_record).source i ≡ i
unfolding place_from
own-start rs i l =
    let x = (get_or rs i no_record).source in
    let here : place_of (drop i rs) x ≡ 0 = place_hit rs x i l refl in
    omega arith

-- what a check knows after i records: all of them are sound, and their sources below the bound
pub record Clean (rs : List Quota) (i bound : ℕ) : Type 0 where
  short : length rs ≤ 64
  sound : (j : ℕ) → j < i → Sound rs j
  below : (j : ℕ) → j < i → (get_or rs j no_record).source < bound

-- and what refuses a list that has no bound there has the list's number
abbrev pub Checked : List Quota → ℕ → Result ℕ Refusal → Type 0
Checked rs i v = MatchResult v (Clean rs i) (λ refusal. code refusal ≡ quotas_number rs)

pub check-start : (rs : List Quota) (v : Result ℕ Refusal) → v ≡ first_bound (length rs) → Checked rs 0 v
unfolding first_bound max_quotas
check-start rs v e =
    by-test (ltb 64 (length rs)) _
    (λ t. rw (e, t) (sym (number-bad rs (too_long rs (ltb-true 64 (length rs) t)))))
    (λ t. rw (e, t) (record {
      short = ltb-false 64 (length rs) t;
      sound = λ j l. absurd (not-suc-le-zero l);
      below = λ j l. absurd (not-suc-le-zero l);
    }))

-- the search starts at 0, or at i where the source is above all before it
start-two : (bound x i : ℕ) → (start_at bound x i ≡ 0) ⊎ ((start_at bound x i ≡ i) × (bound ≤ x))
unfolding start_at
start-two bound x i = by-test (leb bound x) _ (λ t. inr (rw t refl, leb-true bound x t)) (λ t. inl (rw t refl))

module _ (rs : List Quota) (i bound : ℕ) (l : i < length rs) where
  abbrev x : ℕ
  x = (get_or rs i no_record).source

  -- so it finds i exactly if the record at i is the first of its source
  found_first : place_of rs x ≡ i → place_from rs x (start_at bound x i) ≡ i
  found_first h =
      ⊎_elim
      (λ z. ap (place_from rs x) z ∙ place-from-0 rs x ∙ h)
      (λ z. ap (place_from rs x) z.0 ∙ own-start rs i l)
      (start-two bound x i)

  first_found : ((j : ℕ) → j < i → (get_or rs j no_record).source < bound) → place_from rs x (start_at bound x i) ≡ i → place_of rs x ≡ i
  first_found below h =
      ⊎_elim
      (λ z. sym (place-from-0 rs x) ∙ sym (ap (place_from rs x) z) ∙ h)
      (λ z. first-place rs i l (λ j k q. let b = below j k in let g = z.1 in absurd (omega arith)))
      (start-two bound x i)

pub check-next :
    (rs : List Quota) (i bound start p : ℕ) (v : Result ℕ Refusal) → i < length rs → Clean rs i bound →
    start ≡ start_at bound (get_or rs i no_record).source i → p ≡ place_from rs (get_or rs i no_record).source start →
    v ≡ bound_after bound (get_or rs i no_record) p i → Checked rs (i + 1) v
unfolding Sound bound_after
check-next rs i bound start p v l c es ep em =
    let r = get_or rs i no_record in
    let found : p ≡ place_from rs r.source (start_at bound r.source i) = ep ∙ ap (place_from rs r.source) es in
    by-test (eqb p i) _
    (λ here.
    by-test (ltb r.allowance r.spent) _
    (λ over. rw (em, here, over)
    (sym (number-bad rs (unsound rs i l (λ w. let k = w.1 in let g = ltb-true r.allowance r.spent over in absurd (omega arith))))))
    (λ within.
    let place = first_found rs i bound l c.below (sym found ∙ eqb-true p i here) in
    rw (em, here, within) (record {
      short = c.short;
      sound = below_more _ i c.sound (place, ltb-false r.allowance r.spent within);
      below = below_more _ i (λ j k. let b = c.below j k in omega arith) (omega arith);
    })))
    (λ other. rw (em, other)
    (sym (number-bad rs (unsound rs i l (λ w. true≢false (sym (eq-eqb p i (found ∙ found_first rs i bound l w.0)) ∙ other))))))

pub check-end : (rs : List Quota) (i bound : ℕ) → length rs ≤ i → Clean rs i bound → quotas_number rs ≡ 0
check-end rs i bound l c = number-good rs (not-malformed rs c.short (λ j k. c.sound j (omega arith)))
