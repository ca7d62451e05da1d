-- The events behind a key are those whose bytes enter it, as demand 3 has it.
-- Assumes nothing.
use mathlib.Core.Path.{◌≡◌, refl, sym, ap, subst, ◌∙◌}
use mathlib.Core.Bool.{Bool, true, false, cond, ◌&&◌}
use mathlib.Core.Logic.{◌↔◌, ⊎_elim}
use mathlib.Core.List.Memᴰ
use mathlib.Core.List.{List, [], ◌∷◌, ◌++◌, map, Memᴰ}
use Prim.Native.Nat.{ℕ, ◌+◌, ◌*◌, ◌/◌, ◌^◌, ◌<◌}
use native.Mathlib.Omega.{arith}
use lib.Dec.{eqb}
use lib.ListN.{length}
use borrow.Author.Tests.{eqb-true, eqb-false, eq-eqb}
use Rattle.laws.specs.Lists.{joined}
use Rattle.laws.proofs.Cases.{by-test, both, split}
use Rattle.pools.specs.Schedule.{used_pools}
use Rattle.pools.specs.Calls.{Call, event}
use Rattle.quotas.specs.Entries.{Quotas, Entry, taking, entry_number}
use Rattle.reference.specs.Runs.{state_after}
use Rattle.reference.specs.Timer.{reseeds_after}
use Rattle.reference.specs.Reference.{Accepted, scheduled_reseed, reference_after}
use Rattle.reference.specs.Provenance.{PoolUse, traced, scheduled_use, EntersAt}
use Rattle.reference.proofs.Schedule.{scheduled-later}
use Rattle.reference.proofs.Correct.{run-correct}
use Rattle.history.specs.Strings.{Event}
use Rattle.history.specs.Runs.{booked_event, accepted_event, booked_for, made, entered_at, uses_of}
use Rattle.history.specs.RunStatements.{BehindLaw}
use Rattle.history.proofs.Calls.{is_event, by_kind, no-event, none-accepted}
use Rattle.history.proofs.Making.{makes-are}
use Rattle.history.proofs.Hashing.{strings-held, strings-hashed, key-taken}
use Rattle.history.proofs.Runs.{made_by, made-parts, uses-made, uses-unmade, strings-are, all_whole, worked-out}

module _ (before : List Entry) (later : List Entry) (n i : ℕ) where
  abbrev Told : Entry → Type 0
  Told c =
      EntersAt (before ++ (c ∷ later)) (length before) n i
      ↔ ((made (before ++ (c ∷ later)) n ≡ true) × (0 < length (accepted_event (λ k. eqb k n) i before c)))

  -- a call that never enters, and has no event
  never-told : (c : Entry) → (EntersAt (before ++ (c ∷ later)) (length before) n i → ⊥) → accepted_event (λ k. eqb k n) i before c ≡ [] → Told c
  never-told c h e = (λ a. absurd (h a), λ m. let z : 0 < length (accepted_event (λ k. eqb k n) i before c) = m.1 in absurd (omega (arith, ap length e)))

  other-told : (q : Quotas) (c : Call) → is_event c ≡ false → Told (taking q c)
  other-told q c o =
      never-told (taking q c)
      ((run-correct (before ++ (taking q c ∷ later))).provenance.others before (taking q c) later refl (no-event c o) n i)
      (none-accepted (λ k. eqb k n) i before (taking q c) o)

  module _ (q : Quotas) (source pool : ℕ) (content : List ℕ) where
    abbrev this : Entry
    this = taking q (event source pool content)

    abbrev calls : List Entry
    calls = before ++ (this ∷ later)

    abbrev booked : ℕ
    booked = 2 ^ pool * (reseeds_after before / 2 ^ pool + 1)

    -- whether there is an event, of the two tests
    one : Event → Bool → List Event
    one e t = cond t (e ∷ []) []

    some_one : (e : Event) (t : Bool) → 0 < length (one e t) → t ≡ true
    unfolding one
    some_one e true h = refl
    some_one e false h = absurd (omega arith)

    accepted-is :
        eqb (entry_number (state_after before) this) 0 ≡ true →
        accepted_event (λ k. eqb k n) i before this ≡ one (record { source = source; content = content }) (eqb pool i && eqb booked n)
    unfolding accepted_event booked_event one
    accepted-is t = rw t

    positive : 0 < booked
    unfolding scheduled_reseed
    positive = omega (arith, scheduled-later pool (reseeds_after before))

    refused-told : eqb (entry_number (state_after before) this) 0 ≡ false → Told this
    unfolding accepted_event
    refused-told t =
        let enters = (run-correct calls).provenance.events before q source pool content later refl in
        never-told this (enters.never (eqb-false _ 0 t) n i) (rw t)

    accepted-told : eqb (entry_number (state_after before) this) 0 ≡ true → Told this
    accepted-told t =
        let once = ((run-correct calls).provenance.events before q source pool content later refl).once (eqb-true _ 0 t) n i in (
          λ a.
              let h = once.0 a in (
                made_by calls n (subst (λ k. 0 < k) (sym h.1) positive) h.2,
                rw (accepted-is t, eq-eqb pool i (sym h.0), eq-eqb booked n (sym h.1)) (unfold one in omega arith),
              ),
          λ m.
              let b = both _ _ (some_one _ _ (subst (λ (l : List Event). 0 < length l) (accepted-is t) m.1)) in
              once.1 (sym (eqb-true pool i b.0), sym (eqb-true booked n b.1), (made-parts calls n m.0).1),
        )

    event-told : Told this
    event-told = by-test (eqb (entry_number (state_after before) this) 0) (Told this) accepted-told refused-told

  call-told : (q : Quotas) (c : Call) → Told (taking q c)
  call-told q = by_kind (λ c. Told (taking q c)) (event-told q) (other-told q)

-- ---- the pools that are listed

mem-uses : (n : ℕ) (us : List PoolUse) (u : PoolUse) → u.reseed_number ≡ n → Memᴰ u us → Memᴰ u (uses_of n us)
unfolding uses_of
mem-uses n [] u q m = absurd (Memᴰ.not-nil m)
mem-uses n (v ∷ us) u q m =
    ⊎_elim
    (λ e.
    let t : eqb v.reseed_number n ≡ true = eq-eqb v.reseed_number n (sym (ap (λ (x : PoolUse). x.reseed_number) e) ∙ q) in
    rw t (Memᴰ.head e))
    (λ k.
    split (λ (l : List PoolUse). Memᴰ u l) (eqb v.reseed_number n)
    (λ _. Memᴰ.tail (mem-uses n us u q k))
    (λ _. mem-uses n us u q k))
    (Memᴰ.cases_cons m)

mem-map : {A B : Type 0} (f : A → B) (l : List A) (x : A) → Memᴰ x l → Memᴰ (f x) (map f l)
mem-map f [] x m = absurd (Memᴰ.not-nil m)
mem-map f (y ∷ l) x m = ⊎_elim (λ q. Memᴰ.head (ap f q)) (λ k. Memᴰ.tail (mem-map f l x k)) (Memᴰ.cases_cons m)

use-pool : (es : List Accepted) (n : ℕ) (l : List ℕ) (u : PoolUse) → Memᴰ u (joined (scheduled_use es n) l) → Memᴰ u.pool l
unfolding joined scheduled_use
use-pool es n [] u m = absurd (Memᴰ.not-nil m)
use-pool es n (i ∷ l) u m =
    ⊎_elim (λ q. Memᴰ.head (ap (λ (x : PoolUse). x.pool) q)) (λ k. Memᴰ.tail (use-pool es n l u k)) (Memᴰ.cases_cons m)

pool-listed : (calls : List Entry) (n place i : ℕ) → EntersAt calls place n i
    → Memᴰ (record { pool = i; events = booked_for calls n i }) (entered_at calls n)
unfolding entered_at
pool-listed calls n place i a =
    by-test (made calls n) (Memᴰ (record { pool = i; events = booked_for calls n i }) (entered_at calls n))
    (λ t.
    let pool = use-pool (reference_after calls).events n (used_pools n) a.pool_use (subst (Memᴰ a.pool_use) (uses-made calls n t) inside) in
    rw t (mem-map (λ j. record { pool = j; events = booked_for calls n j }) (used_pools n) i (subst (λ j. Memᴰ j (used_pools n)) a.pool pool)))
    (λ t. absurd (Memᴰ.not-nil (subst (Memᴰ a.pool_use) (uses-unmade calls n t) inside)))
  where
    inside : Memᴰ a.pool_use (uses_of n (traced calls).uses)
    inside = mem-uses n (traced calls).uses a.pool_use a.reseed_number a.made

-- ---- the claim

pub behind : BehindLaw
behind calls n =
    record {
      strings = strings-are calls n;
      whole = all_whole calls n;
      worked = worked-out calls n;
      makes = makes-are calls n;
      held = strings-held calls n;
      hashed = strings-hashed calls n;
      taken = key-taken calls n;
      enters = λ before c later same i.
          subst (λ (l : List Entry). EntersAt l (length before) n i ↔ ((made l n ≡ true) × (0 < length (accepted_event (λ k. eqb k n) i before c))))
          same (call-told before later n i c.quotas c.call);
      listed = pool-listed calls n;
    }
