-- The reference model's reading of a list, record by record, is the station's.
-- Assumes nothing.
use mathlib.Core.Path.{◌≡◌, refl, sym, ap, ap₂, ◌∙◌}
use mathlib.Core.Bool.{Bool, true, false, cond, ◌||◌}
use mathlib.Core.List.{List, [], ◌∷◌, map}
use Prim.Native.Nat.{ℕ, suc, ◌+◌, ◌<◌}
use native.Mathlib.Nat.{add-zero}
use native.Mathlib.Omega.{arith}
use lib.Dec.{eqb, ltb}
use lib.ListN.{length}
use borrow.Author.Tests.{ltb-true, ltb-false, lt-ltb, le-ltb, eqb-true, eqb-false, eq-eqb, ne_eqb}
use Rattle.laws.specs.Refusals.{refuse}
use Rattle.laws.proofs.Cases.{by-test}
use Rattle.pools.specs.declared.Fortuna.{Fortuna}
use Rattle.pools.specs.Events.{header_length, gain}
use Rattle.pools.specs.Calls.{Call, event, request, update, write, draw, shuffle, Outcome, run_from}
use Rattle.quotas.specs.declared.Quota.{Quota}
use Rattle.quotas.specs.Records.{max_quotas, is_listed, quota_of, repeats, overspent, malformed_quotas, quotas_number, event_quotas_number, charged, cleared, unspent}
use Rattle.quotas.specs.Entries.{Quotas, without, within, Entry, taking, list_number, entry_step, charged_for, settled_list, quotas_left, left_with, list_remaining, lists_with}
use Rattle.quotas.proofs.Lists.{quota-here, quota-later, repeats-not, listed-not, charged-each}
use Rattle.quotas.proofs.Left.{passed-alone}
use Rattle.quotas.proofs.Runs.{event-allowed}
use Rattle.reference.specs.Runs.{lists_left}
use Rattle.reference.specs.ReferenceLists.{some, records_of, faulty, event_by_records, by_records, adds_to, settled_record, record_after, list_after, lists_after}

-- ---- the records of a source

records-here : (r : Quota) (rs : List Quota) (x : ℕ) → eqb r.source x ≡ true → records_of x (r ∷ rs) ≡ r ∷ records_of x rs
unfolding records_of
records-here r rs x e = rw e

records-later : (r : Quota) (rs : List Quota) (x : ℕ) → eqb r.source x ≡ false → records_of x (r ∷ rs) ≡ records_of x rs
unfolding records_of
records-later r rs x e = rw e

-- a source is listed exactly if it has records
listed-count : (rs : List Quota) (x : ℕ) → is_listed rs x ≡ ltb 0 (length (records_of x rs))
unfolding is_listed records_of
listed-count [] x = refl
listed-count (r ∷ rs) x =
    by-test (eqb r.source x) _
    (λ e. rw e (sym (lt-ltb 0 (suc (length (records_of x rs))) (omega arith))))
    (λ e. rw e (listed-count rs x))

no-records : (rs : List Quota) (x : ℕ) → is_listed rs x ≡ false → length (records_of x rs) ≡ 0
no-records rs x h = let k = ltb-false 0 (length (records_of x rs)) (sym (listed-count rs x) ∙ h) in omega arith

has-records : (rs : List Quota) (x : ℕ) → is_listed rs x ≡ true → 0 < length (records_of x rs)
has-records rs x h = ltb-true 0 (length (records_of x rs)) (sym (listed-count rs x) ∙ h)

none_left : (l : List Quota) → length l ≡ 0 → l ≡ []
none_left [] h = refl
none_left (r ∷ l) h = absurd (omega arith)

listed-there : (r : Quota) (rs : List Quota) (x : ℕ) → eqb r.source x ≡ false → is_listed (r ∷ rs) x ≡ true → is_listed rs x ≡ true
unfolding is_listed
listed-there r rs x e h = rw e at h

-- where no source repeats, a listed one has its own record alone
own-record : (rs : List Quota) (x : ℕ) → repeats rs ≡ false → is_listed rs x ≡ true → records_of x rs ≡ quota_of rs x ∷ []
own-record [] x a h = absurd (let k = has-records [] x h in none-there k)
  where
    none-there : 0 < length (records_of x []) → ⊥
    none-there k = let e : length (records_of x []) ≡ 0 = unfold records_of in refl in omega arith
own-record (r ∷ rs) x a h =
    let f = repeats-not r rs a in
    by-test (eqb r.source x) _
    (λ e.
    let alone : is_listed rs x ≡ false = sym (ap (is_listed rs) (eqb-true r.source x e)) ∙ f.0 in
    records-here r rs x e ∙ ap₂ (λ (q : Quota) (l : List Quota). q ∷ l) (sym (quota-here r rs x e)) (none_left (records_of x rs) (no-records rs x alone)))
    (λ e.
    let there : is_listed rs x ≡ true = listed-there r rs x e h in
    records-later r rs x e ∙ own-record rs x f.1 there ∙ ap (λ (q : Quota). q ∷ []) (sym (quota-later r rs x e)))

-- ---- 37

abbrev twice : List Quota → Quota → Bool
twice rs r = ltb 1 (length (records_of r.source rs))

-- a record of another source changes nothing of a count
same-counts : (r : Quota) (rs us : List Quota) → is_listed us r.source ≡ false → some (twice (r ∷ rs)) us ≡ some (twice rs) us
unfolding some
same-counts r rs [] h = refl
same-counts r rs (u ∷ us) h =
    let f = listed-not u us r.source h in
    let other : eqb r.source u.source ≡ false = ne_eqb r.source u.source (λ e. eqb-false u.source r.source f.0 (sym e)) in
    ap₂ (λ (a b : Bool). a || b) (ap (λ (l : List Quota). ltb 1 (length l)) (records-later r rs u.source other)) (same-counts r rs us f.1)

some-head : (t : Quota → Bool) (r : Quota) (rs : List Quota) → some t (r ∷ rs) ≡ (t r || some t rs)
unfolding some
some-head t r rs = refl

repeats-head : (r : Quota) (rs : List Quota) → repeats (r ∷ rs) ≡ (is_listed rs r.source || repeats rs)
unfolding repeats
repeats-head r rs = refl

twice-head : (r : Quota) (rs : List Quota) → twice (r ∷ rs) r ≡ is_listed rs r.source
twice-head r rs =
    ap (λ (l : List Quota). ltb 1 (length l)) (records-here r rs r.source (eq-eqb r.source r.source refl))
    ∙ by-test (is_listed rs r.source) _
    (λ h. lt-ltb 1 (suc (length (records_of r.source rs))) (let k = has-records rs r.source h in omega arith) ∙ sym h)
    (λ h. le-ltb 1 (suc (length (records_of r.source rs))) (let k = no-records rs r.source h in omega arith) ∙ sym h)

repeats-counted : (rs : List Quota) → repeats rs ≡ some (twice rs) rs
repeats-counted [] = unfold repeats some in refl
repeats-counted (r ∷ rs) =
    repeats-head r rs
    ∙ by-test (is_listed rs r.source) _
    (λ h. rw h (sym (some-head (twice (r ∷ rs)) r rs ∙ rw (twice-head r rs, h))))
    (λ h. rw h (repeats-counted rs ∙ sym (some-head (twice (r ∷ rs)) r rs ∙ rw (twice-head r rs, h) (same-counts r rs rs h))))

overspent-some : (rs : List Quota) → overspent rs ≡ some (λ r. ltb r.allowance r.spent) rs
unfolding overspent some
overspent-some [] = refl
overspent-some (r ∷ rs) = ap (λ (t : Bool). ltb r.allowance r.spent || t) (overspent-some rs)

pub faulty-is : (rs : List Quota) → malformed_quotas rs ≡ faulty rs
unfolding malformed_quotas faulty max_quotas
faulty-is rs = rw (repeats-counted rs, overspent-some rs)

-- ---- the number that a list gives a call

module _ (rs : List Quota) (x n : ℕ) where
  -- 38 and 39 of a well-formed list
  by-own : repeats rs ≡ false → is_listed rs x ≡ true
      → refuse (some (λ r. ltb r.allowance (r.spent + 3 + n)) (records_of x rs)) 39 0
      ≡ refuse (ltb (quota_of rs x).allowance ((quota_of rs x).spent + gain n)) 39 0
  unfolding some gain header_length
  by-own a h =
      let one : (quota_of rs x).spent + 3 + n ≡ (quota_of rs x).spent + (3 + n) = omega arith in
      rw (own-record rs x a h, one) (last (ltb (quota_of rs x).allowance ((quota_of rs x).spent + (3 + n))))
    where
      last : (t : Bool) → refuse (t || false) 39 0 ≡ refuse t 39 0
      last true = refl
      last false = refl

  pub event-is : event_by_records rs x n ≡ event_quotas_number rs x (gain n)
  unfolding event_by_records event_quotas_number
  event-is =
      rw (← faulty-is rs)
      (by-test (malformed_quotas rs) _
      (λ m. rw m)
      (λ m. rw m
      (by-test (is_listed rs x) _
      (λ h. rw (h, ne_eqb (length (records_of x rs)) 0 (λ e. let k = has-records rs x h in omega arith)) (by-own (passed-alone rs m) h))
      (λ h. rw (h, no-records rs x h)))))

pub by-records : (q : Quotas) (c : Call) → by_records q c ≡ list_number q c
unfolding by_records list_number quotas_number
by-records without c = refl
by-records (within rs) (event source pool content) = event-is rs source (length content)
by-records (within rs) (request clock buffer) = rw (faulty-is rs)
by-records (within rs) (update clock seed) = rw (faulty-is rs)
by-records (within rs) (write clock seed) = rw (faulty-is rs)
by-records (within rs) (draw clock n d) = rw (faulty-is rs)
by-records (within rs) (shuffle clock list) = rw (faulty-is rs)

-- ---- the list that a call returns

map-cong : (f g : Quota → Quota) → ((r : Quota) → f r ≡ g r) → (rs : List Quota) → map f rs ≡ map g rs
map-cong f g h [] = refl
map-cong f g h (r ∷ rs) = ap₂ (λ (q : Quota) (l : List Quota). q ∷ l) (h r) (map-cong f g h rs)

map_same : (f : Quota → Quota) → ((r : Quota) → f r ≡ r) → (rs : List Quota) → map f rs ≡ rs
map_same f h [] = refl
map_same f h (r ∷ rs) = ap₂ (λ (q : Quota) (l : List Quota). q ∷ l) (h r) (map_same f h rs)

cleared-map : (rs : List Quota) → cleared rs ≡ map unspent rs
unfolding cleared
cleared-map rs = refl

-- after a call of any kind, where an accepted one adds so much to a record of a source
module _ {S : Type 0} (o : Outcome S) (adds : ℕ → ℕ) where
  abbrev settled : Quota → Quota
  settled r = settled_record o (adds r.source) r

  -- what an accepted call charges: nothing, or to the records of one source
  module _ (rs : List Quota) (quiet : ltb 0 o.effect.emptied ≡ false) (done : eqb o.number 0 ≡ true) where
    pub plain-charged : ((x : ℕ) → adds x ≡ 0) → rs ≡ map settled rs
    plain-charged z = sym (map_same settled (λ r. rw (quiet, done, z r.source, add-zero r.spent)) rs)

    pub event-charged :
        (source n : ℕ) → ((x : ℕ) → adds x ≡ cond (eqb x source) (3 + n) 0) → repeats rs ≡ false → charged rs source (gain n) ≡ map settled rs
    unfolding gain header_length
    event-charged source n z alone = charged-each rs source (3 + n) alone ∙ map-cong _ _ (λ r. rw (quiet, done, z r.source)) rs

  -- the list returned, record by record
  pub settled-list :
      (charge rs : List Quota) → (ltb 0 o.effect.emptied ≡ false → eqb o.number 0 ≡ true → charge ≡ map settled rs) →
      settled_list o charge rs ≡ map settled rs
  settled-list charge rs h =
      by-test (ltb 0 o.effect.emptied) _
      (λ t. rw t (cleared-map rs ∙ map-cong unspent settled (λ r. rw t) rs))
      (λ t. by-test (eqb o.number 0) _
      (λ d. rw (t, d) (h t d))
      (λ d. rw (t, d) (sym (map_same settled (λ r. rw (t, d, add-zero r.spent)) rs))))

charges : (s : Fortuna) (rs : List Quota) (c : Call) → let o = entry_step s (taking (within rs) c) in
    ltb 0 o.effect.emptied ≡ false → eqb o.number 0 ≡ true → charged_for c rs ≡ map (record_after c o) rs
unfolding charged_for record_after adds_to
charges s rs (event source pool content) q d =
    event-charged (entry_step s (taking (within rs) (event source pool content))) (adds_to (event source pool content)) rs q d
    source (length content) (λ x. refl) (passed-alone rs (event-allowed s rs source pool content (eqb-true _ 0 d)).formed)
charges s rs (request clock buffer) q d = plain-charged (entry_step s (taking (within rs) (request clock buffer))) (λ x. 0) rs q d (λ x. refl)
charges s rs (update clock seed) q d = plain-charged (entry_step s (taking (within rs) (update clock seed))) (λ x. 0) rs q d (λ x. refl)
charges s rs (write clock seed) q d = plain-charged (entry_step s (taking (within rs) (write clock seed))) (λ x. 0) rs q d (λ x. refl)
charges s rs (draw clock n d') q d = plain-charged (entry_step s (taking (within rs) (draw clock n d'))) (λ x. 0) rs q d (λ x. refl)
charges s rs (shuffle clock list) q d = plain-charged (entry_step s (taking (within rs) (shuffle clock list))) (λ x. 0) rs q d (λ x. refl)

list-is : (s : Fortuna) (rs : List Quota) (c : Call) → let o = entry_step s (taking (within rs) c) in quotas_left c rs o ≡ map (record_after c o) rs
unfolding quotas_left record_after
list-is s rs c =
    settled-list (entry_step s (taking (within rs) c)) (adds_to c) (charged_for c rs) rs (λ t d. unfold record_after in charges s rs c t d)

left_is : (s : Fortuna) (q : Quotas) (c : Call) → list_remaining (taking q c) (entry_step s (taking q c)) ≡ list_after (taking q c) (entry_step s (taking q c))
unfolding list_remaining list_after left_with
left_is s without c = refl
left_is s (within rs) c = ap within (list-is s rs c)

-- ---- along a run of calls of any kind

module _ {E S : Type 0} where
  -- two ways to say what each call of a run returns
  pub lists-each :
      (f : ℕ → S → E → Outcome S) (g h : E → Outcome S → Quotas) →
      ((place : ℕ) (s : S) (e : E) → g e (f place s e) ≡ h e (f place s e)) → (calls : List E) (place : ℕ) (s : S) →
      lists_with g calls (run_from f place s calls) ≡ lists_with h calls (run_from f place s calls)
  unfolding lists_with run_from
  lists-each f g h k [] place s = refl
  lists-each f g h k (e ∷ calls) place s =
      ap₂ (λ (q : Quotas) (l : List Quotas). q ∷ l) (k place s e) (lists-each f g h k calls (suc place) (f place s e).effect.next)

  -- of outcomes that are those of a model
  pub lists-mapped :
      {B : Type 0} (to : Outcome B → Outcome S) (g : E → Outcome S → Quotas) (h : E → Outcome B → Quotas) →
      ((e : E) (o : Outcome B) → g e (to o) ≡ h e o) → (calls : List E) (os : List (Outcome B)) →
      lists_with g calls (map to os) ≡ lists_with h calls os
  unfolding lists_with
  lists-mapped to g h k [] os = refl
  lists-mapped to g h k (e ∷ calls) [] = refl
  lists-mapped to g h k (e ∷ calls) (o ∷ os) = ap₂ (λ (q : Quotas) (l : List Quotas). q ∷ l) (k e o) (lists-mapped to g h k calls os)

pub lists-left : (calls : List Entry) (place : ℕ) (s : Fortuna)
    → lists_left calls (run_from (λ place. entry_step) place s calls) ≡ lists_after calls (run_from (λ place. entry_step) place s calls)
unfolding lists_left lists_after
lists-left = lists-each (λ place. entry_step) list_remaining list_after (λ place s e. left_is s e.quotas e.call)
