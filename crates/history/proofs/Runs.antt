-- The events behind the keys of a run: what its strings are, and what is worked out from them.
-- Assumes nothing.
use mathlib.Core.Path.{◌≡◌, refl, sym, ap, ap₂, ◌∙◌}
use mathlib.Core.Bool.{Bool, true, false, cond, true≢false}
use mathlib.Core.List.{List, [], ◌∷◌, ◌++◌, map, append-nil}
use Prim.Native.Nat.{ℕ, zero, suc, ◌≤◌, ◌<◌}
use native.Mathlib.Omega.{arith}
use lib.Dec.{eqb, ltb, leb}
use lib.ListN.{length}
use borrow.Author.Tests.{lt-ltb, le-leb, ltb-true, leb-true, leb-false, eqb-true, eqb-false, eq-eqb, ne_eqb}
use Rattle.laws.specs.Lists.{joined, select}
use Rattle.laws.proofs.Cases.{by-test, both}
use Rattle.hash.specs.ShaD.{pool_of}
use Rattle.pools.specs.Events.{pool_count}
use Rattle.pools.specs.Schedule.{used_pools}
use Rattle.quotas.specs.Entries.{Entry}
use Rattle.pools.specs.State.{pool_at}
use Rattle.reference.specs.Runs.{state_after}
use Rattle.reference.specs.Timer.{reseeds_after}
use Rattle.reference.specs.Reference.{Accepted, pending, consumed_at, contents, pool_contents, reference_after}
use Rattle.reference.specs.Provenance.{PoolUse, erased, traced, scheduled_use, scheduled_uses}
use Rattle.reference.proofs.Tracing.{erased-map, run-tied}
use Rattle.reference.proofs.Provenance.{same-reseeds}
use Rattle.reference.proofs.Correct.{run-correct}
use Rattle.history.specs.Strings.{string_of}
use Rattle.history.specs.Reader.{History, history}
use Rattle.history.specs.Runs.{accepted_from, booked_for, waiting_in, Entered, made, entered_at, uses_of, strings_at, string_in, read_into, worked_out}
use Rattle.history.specs.RunStatements.{SameStrings, HeldLaw}
use Rattle.history.proofs.Histories.{read_back}
use Rattle.history.proofs.Calls.{all-allowed, events-string}

-- ---- the uses of one reseed

pub uses-append : (n : ℕ) (a b : List PoolUse) → uses_of n (a ++ b) ≡ uses_of n a ++ uses_of n b
unfolding uses_of
uses-append n [] b = refl
uses-append n (u ∷ a) b = rw (uses-append n a b) (go (eqb u.reseed_number n))
  where
    go : (t : Bool) → cond t (u ∷ (uses_of n a ++ uses_of n b)) (uses_of n a ++ uses_of n b) ≡ cond t (u ∷ uses_of n a) (uses_of n a) ++ uses_of n b
    go true = refl
    go false = refl

module _ (es : List Accepted) where
  uses-same : (n : ℕ) (l : List ℕ) → uses_of n (joined (scheduled_use es n) l) ≡ joined (scheduled_use es n) l
  unfolding uses_of joined scheduled_use
  uses-same n [] = refl
  uses-same n (i ∷ l) = rw (eq-eqb n n refl, uses-same n l)

  uses-other : (m n : ℕ) (l : List ℕ) → (m ≡ n → ⊥) → uses_of n (joined (scheduled_use es m) l) ≡ []
  unfolding uses_of joined scheduled_use
  uses-other m n [] h = refl
  uses-other m n (i ∷ l) h = rw (ne_eqb m n h) (uses-other m n l h)

  -- those of reseed n, if it is among the reseeds 1 to r
  pub uses-none : (r n : ℕ) → ((k : ℕ) → k < r → suc k ≡ n → ⊥) → uses_of n (scheduled_uses es r) ≡ []
  unfolding scheduled_uses
  uses-none zero n h = unfold uses_of in refl
  uses-none (suc r) n h =
      uses-append n (scheduled_uses es r) (joined (scheduled_use es (suc r)) (used_pools (suc r)))
      ∙ ap₂ (λ (x y : List PoolUse). x ++ y) (uses-none r n (λ k l. h k (omega arith)))
      (uses-other (suc r) n (used_pools (suc r)) (h r (omega arith)))

  uses-there : (r n : ℕ) → 0 < n → n ≤ r → uses_of n (scheduled_uses es r) ≡ joined (scheduled_use es n) (used_pools n)
  unfolding scheduled_uses
  uses-there zero n p h = absurd (omega arith)
  uses-there (suc r) n p h =
      uses-append n (scheduled_uses es r) (joined (scheduled_use es (suc r)) (used_pools (suc r)))
      ∙ by-test (eqb (suc r) n)
      (uses_of n (scheduled_uses es r) ++ uses_of n (joined (scheduled_use es (suc r)) (used_pools (suc r))) ≡ joined (scheduled_use es n) (used_pools n))
      (λ t.
      let last : suc r ≡ n = eqb-true (suc r) n t in
      ap₂ (λ (x y : List PoolUse). x ++ y) (uses-none r n (λ k l q. omega arith))
      (ap (λ (k : ℕ). uses_of n (joined (scheduled_use es k) (used_pools k))) last ∙ uses-same n (used_pools n)))
      (λ t.
      let other : suc r ≡ n → ⊥ = eqb-false (suc r) n t in
      ap₂ (λ (x y : List PoolUse). x ++ y) (uses-there r n p (not_last r n h other)) (uses-other (suc r) n (used_pools (suc r)) other)
      ∙ append-nil (joined (scheduled_use es n) (used_pools n)))
    where
      not_last : (r n : ℕ) → n ≤ suc r → (suc r ≡ n → ⊥) → n ≤ r
      not_last r n h o = by-test (leb n r) (n ≤ r) (leb-true n r) (λ t. let l : r < n = leb-false n r t in absurd (o (omega arith)))

  -- their strings
  strings-of :
      (n : ℕ) (l : List ℕ) →
      map (λ u. erased u.pieces) (joined (scheduled_use es n) l) ≡ map (λ i. contents (select (consumed_at n i) es)) l
  unfolding joined scheduled_use
  strings-of n [] = refl
  strings-of n (i ∷ l) = ap₂ (λ (x : List ℕ) (y : List (List ℕ)). x ∷ y) (erased-map (select (consumed_at n i) es)) (strings-of n l)

-- ---- the strings of one reseed

-- the string that a pool gives is that of the events booked for the reseed
booked-string : (calls : List Entry) (n i : ℕ) → contents (select (consumed_at n i) (reference_after calls).events) ≡ string_of (booked_for calls n i)
unfolding consumed_at booked_for
booked-string calls n i = events-string (λ k. eqb k n) i calls

module _ (calls : List Entry) (n : ℕ) where
  abbrev through : ℕ → Entered
  through i = record { pool = i; events = booked_for calls n i }

  strings-through :
      (l : List ℕ) →
      map (λ i. contents (select (consumed_at n i) (reference_after calls).events)) l ≡ map (λ x. string_of x.events) (map through l)
  strings-through [] = refl
  strings-through (i ∷ l) = ap₂ (λ (x : List ℕ) (y : List (List ℕ)). x ∷ y) (booked-string calls n i) (strings-through l)

  pub uses-model : uses_of n (traced calls).uses ≡ uses_of n (scheduled_uses (reference_after calls).events (reseeds_after calls))
  uses-model = rw ((run-correct calls).provenance.uses, same-reseeds calls)

  pub made_by : 0 < n → n ≤ reseeds_after calls → made calls n ≡ true
  unfolding made
  made_by p h = rw (lt-ltb 0 n p, le-leb n (reseeds_after calls) h)

  pub made-parts : made calls n ≡ true → (0 < n) × (n ≤ reseeds_after calls)
  unfolding made
  made-parts t = let b = both _ _ t in (ltb-true 0 n b.0, leb-true n (reseeds_after calls) b.1)

  -- the uses of a reseed that was made, and of one that was not
  pub uses-made : made calls n ≡ true → uses_of n (traced calls).uses ≡ joined (scheduled_use (reference_after calls).events n) (used_pools n)
  uses-made t =
      let m = made-parts t in
      uses-model ∙ uses-there (reference_after calls).events (reseeds_after calls) n m.0 m.1

  pub uses-unmade : made calls n ≡ false → uses_of n (traced calls).uses ≡ []
  uses-unmade t =
      uses-model
      ∙ uses-none (reference_after calls).events (reseeds_after calls) n (λ k l q. true≢false (sym (made_by (omega arith) (omega arith)) ∙ t))

  made-strings : made calls n ≡ true → strings_at calls n ≡ map (λ x. string_of x.events) (map through (used_pools n))
  unfolding strings_at
  made-strings t =
      ap (map (λ (u : PoolUse). erased u.pieces)) (uses-made t)
      ∙ strings-of (reference_after calls).events n (used_pools n)
      ∙ strings-through (used_pools n)

  pub no-strings : made calls n ≡ false → strings_at calls n ≡ []
  unfolding strings_at
  no-strings t = ap (map (λ (u : PoolUse). erased u.pieces)) (uses-unmade t)

  pub strings-are : strings_at calls n ≡ map (λ x. string_of x.events) (entered_at calls n)
  unfolding entered_at
  strings-are =
      by-test (made calls n) (strings_at calls n ≡ map (λ x. string_of x.events) (entered_at calls n))
      (λ t. rw t (made-strings t)) (λ t. rw t (no-strings t))

  -- ---- worked out

  read_through :
      (i : ℕ) →
      let es = booked_for calls n i in
      history (string_of es) ≡ record { events = es; number = 0; place = length (string_of es) }
  unfolding booked_for
  read_through i = read_back (accepted_from (λ k. eqb k n) i [] calls) (all-allowed (λ k. eqb k n) i calls [])

  read-pools : (l : List ℕ) → read_into l (map (λ x. string_of x.events) (map through l)) ≡ map through l
  unfolding read_into
  read-pools [] = refl
  read-pools (i ∷ l) =
      ap₂ (λ (x : History) (y : List Entered). record { pool = i; events = x.events } ∷ y) (read_through i) (read-pools l)

  -- each string to its end
  abbrev numbers_of : List (List ℕ) → List ℕ
  numbers_of strings = map (λ s. (history s).number) strings

  read_whole :
      (l : List ℕ) →
      numbers_of (map (λ x. string_of x.events) (map through l)) ≡ map (λ s. 0) (map (λ x. string_of x.events) (map through l))
  read_whole [] = refl
  read_whole (i ∷ l) = ap₂ (λ (x : History) (y : List ℕ). x.number ∷ y) (read_through i) (read_whole l)

  pub all_whole : numbers_of (strings_at calls n) ≡ map (λ s. 0) (strings_at calls n)
  unfolding entered_at
  all_whole =
      rw strings-are
      (by-test (made calls n)
      (numbers_of (map (λ x. string_of x.events) (entered_at calls n)) ≡ map (λ s. 0) (map (λ x. string_of x.events) (entered_at calls n)))
      (λ t. rw t (read_whole (used_pools n))) (λ t. rw t))

  none_read : (l : List ℕ) → read_into l [] ≡ []
  unfolding read_into
  none_read [] = refl
  none_read (i ∷ l) = refl

  pub worked-out : worked_out n (strings_at calls n) ≡ entered_at calls n
  unfolding worked_out entered_at
  worked-out =
      ap (read_into (used_pools n)) strings-are
      ∙ by-test (made calls n) (read_into (used_pools n) (map (λ x. string_of x.events) (entered_at calls n)) ≡ entered_at calls n)
      (λ t. rw t (read-pools (used_pools n))) (λ t. rw t (none_read (used_pools n)))

pub same-strings : SameStrings
same-strings calls others n h = sym (worked-out calls n) ∙ ap (worked_out n) h ∙ worked-out others n

-- ---- what waits in a pool

module _ (calls : List Entry) (i : ℕ) (h : i < pool_count) where
  -- the model's contents of the pool
  pub held-model : string_in calls i ≡ pool_contents (reference_after calls) i
  unfolding string_in pool_contents
  held-model =
      let b = reference_after calls in
      ap erased ((run-tied calls).tags.pieces i h) ∙ erased-map (select (pending b.reseeds i) b.events)

  waits : string_in calls i ≡ string_of (waiting_in calls i)
  unfolding waiting_in pool_contents pending
  waits = held-model ∙ (rw (← same-reseeds calls) (events-string (λ k. ltb (reseeds_after calls) k) i calls))

  held-read : history (string_in calls i) ≡ record { events = waiting_in calls i; number = 0; place = length (string_in calls i) }
  unfolding waiting_in
  held-read =
      let later : ℕ → Bool = λ k. ltb (reseeds_after calls) k in
      rw waits (read_back (accepted_from later i [] calls) (all-allowed later i calls []))

  held-state : pool_at (state_after calls) i ≡ pool_of (string_in calls i)
  unfolding string_in
  held-state = (run-correct calls).provenance.faithful.strings i h

pub held : HeldLaw
held calls i h = record { string = waits calls i h; state = held-state calls i h; worked = held-read calls i h }
