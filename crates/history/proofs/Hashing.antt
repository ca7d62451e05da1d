-- The strings of a reseed are those that its call hashes into the key, whatever comes later.
-- Assumes nothing.
use mathlib.Core.Path.{◌≡◌, refl, sym, ap, ap₂, subst, subst₂, ◌∙◌}
use mathlib.Core.Bool.{Bool, true, cond}
use mathlib.Core.List.{List, [], ◌∷◌, ◌++◌, map, append_assoc, append-nil}
use Prim.Native.Nat.{ℕ, ◌+◌, ◌≤◌, ◌<◌}
use native.Mathlib.Omega.{arith}
use lib.Dec.{ltb}
use borrow.Author.Tests.{lt-ltb, eq-eqb, ne_eqb}
use Rattle.laws.specs.Lists.{joined}
use Rattle.laws.proofs.Cases.{split}
use Rattle.laws.proofs.Lists.{joined-map}
use Rattle.hash.specs.ShaD.{D}
use Rattle.generator.specs.Steps.{decode, encode, reseed}
use Rattle.generator.specs.declared.Generator.{Generator}
use Rattle.pools.specs.declared.Fortuna.{Fortuna}
use Rattle.pools.specs.Schedule.{used_pools}
use Rattle.pools.specs.Effects.{next_reseed, pool_reseed}
use Rattle.pools.specs.Calls.{reading_of}
use Rattle.quotas.specs.Entries.{Entry, entry_step}
use Rattle.reference.specs.Runs.{state_after}
use Rattle.reference.specs.Timer.{reseeds_after}
use Rattle.reference.specs.Reference.{reference_after}
use Rattle.reference.specs.Provenance.{PoolUse, erased, Traced, use_of, next_uses, traced, due_for, made_from, TakenFrom, reseeded_by, EntersKey}
use Rattle.reference.proofs.Simulation.{used-pools-concrete}
use Rattle.reference.proofs.Timer.{reseed-told}
use Rattle.reference.proofs.Provenance.{same-reseeds}
use Rattle.reference.proofs.Correct.{run-correct}
use Rattle.reference.proofs.Laws.{reseeds-more}
use Rattle.history.specs.Runs.{uses_of, strings_at, string_in}
use Rattle.history.specs.RunStatements.{Makes, reseed_state, key_from}
use Rattle.history.proofs.Runs.{uses-append, uses-none, uses-model}

-- ---- the next reseed's uses

module _ (t : Traced) where
  next-same : (l : List ℕ) → uses_of (t.reseeds + 1) (joined (use_of t) l) ≡ joined (use_of t) l
  unfolding uses_of joined use_of
  next-same [] = refl
  next-same (i ∷ l) = rw (eq-eqb (t.reseeds + 1) (t.reseeds + 1) refl, next-same l)

  next-other : (n : ℕ) (l : List ℕ) → (t.reseeds + 1 ≡ n → ⊥) → uses_of n (joined (use_of t) l) ≡ []
  unfolding uses_of joined use_of
  next-other n [] h = refl
  next-other n (i ∷ l) h = rw (ne_eqb (t.reseeds + 1) n h) (next-other n l h)

-- ---- one call more

module _ (calls : List Entry) (c : Entry) where
  abbrev makes : Bool
  makes = ltb 0 (entry_step (state_after calls) c).effect.emptied

  enters : EntersKey calls c
  enters = (run-correct (calls ++ (c ∷ []))).provenance.key calls c [] refl

  uses-more :
      (n : ℕ) →
      uses_of n (traced (calls ++ (c ∷ []))).uses ≡ uses_of n (traced calls).uses ++ uses_of n (cond makes (next_uses (traced calls)) [])
  uses-more n = ap (uses_of n) enters.grows ∙ uses-append n (traced calls).uses (cond makes (next_uses (traced calls)) [])

  -- it uses nothing at a reseed that was made before
  none-new : (n : ℕ) → n ≤ reseeds_after calls → uses_of n (cond makes (next_uses (traced calls)) []) ≡ []
  none-new n h =
      split (λ (l : List PoolUse). uses_of n l ≡ []) makes
      (λ _. unfold next_uses in next-other (traced calls) n _ (λ q. omega (arith, (run-correct calls).provenance.faithful.reseeds)))
      (λ _. unfold uses_of in refl)

-- ---- later calls

later_same :
    (later front : List Entry) (n : ℕ) → n ≤ reseeds_after front → uses_of n (traced (front ++ later)).uses ≡ uses_of n (traced front).uses
later_same [] front n h = ap (λ (l : List Entry). uses_of n (traced l).uses) (append-nil front)
later_same (d ∷ later) front n h =
    ap (λ (l : List Entry). uses_of n (traced l).uses) (sym (append_assoc front (d ∷ []) later))
    ∙ later_same later (front ++ (d ∷ [])) n (omega (arith, reseeds-more front d))
    ∙ uses-more front d n
    ∙ ap (λ (l : List PoolUse). uses_of n (traced front).uses ++ l) (none-new front d n h)
    ∙ append-nil (uses_of n (traced front).uses)

-- ---- the call that makes a reseed

module _ (before : List Entry) (c : Entry) (later : List Entry) (empties : 0 < (entry_step (state_after before) c).effect.emptied) where
  abbrev number : ℕ
  number = reseeds_after before + 1

  makes_one : makes before c ≡ true
  makes_one = lt-ltb 0 _ empties

  reached : number ≤ reseeds_after (before ++ (c ∷ []))
  reached = rw (reseeds-more before c, makes_one) (omega arith)

  all-next : uses_of number (next_uses (traced before)) ≡ next_uses (traced before)
  all-next =
      subst (λ (n : ℕ). uses_of (n + 1) (next_uses (traced before)) ≡ next_uses (traced before)) (run-correct before).provenance.faithful.reseeds
      (unfold next_uses in next-same (traced before) _)

  uses-next : uses_of number (traced (before ++ (c ∷ later))).uses ≡ next_uses (traced before)
  uses-next =
      ap (λ (l : List Entry). uses_of number (traced l).uses) (sym (append_assoc before (c ∷ []) later))
      ∙ later_same later (before ++ (c ∷ [])) number reached
      ∙ uses-more before c number
      ∙ ap₂ (λ (x y : List PoolUse). x ++ y)
      (uses-model before number ∙ uses-none (reference_after before).events (reseeds_after before) number (λ k l q. omega arith))
      (ap (λ (b : Bool). uses_of number (cond b (next_uses (traced before)) [])) makes_one ∙ all-next)

module _ (calls : List Entry) (n : ℕ) (m : Makes calls n) where
  abbrev front : List Entry
  front = m.before

  uses-are : uses_of n (traced calls).uses ≡ next_uses (traced front)
  uses-are =
      subst₂ (λ (l : List Entry) (k : ℕ). uses_of k (traced l).uses ≡ next_uses (traced front)) m.whole (sym m.number)
      (uses-next front m.call m.later m.empties)

  same_key : reseeded_by front m.call.call ≡ key_from m
  unfolding strings_at reseeded_by
  same_key =
      ap (λ (d : List ℕ). encode (reseed (decode (reseed_state m).generator) d))
      (sym (ap (λ (us : List PoolUse). joined D (map (λ u. erased u.pieces) us)) uses-are
      ∙ joined-map D (λ (u : PoolUse). erased u.pieces) (next_uses (traced front))))

  pub strings-hashed : (pool_reseed (reseed_state m) (reading_of m.call.call)).generator ≡ key_from m
  strings-hashed = (enters front m.call).key ∙ same_key

  -- the call goes on from that key
  is-due : due_for (state_after front) m.call.call ≡ true
  unfolding due_for
  is-due = let t = (reseed-told (state_after front) m.call).0 m.empties in rw (t.1, t.2) refl

  pub key-taken : TakenFrom (made_from (decode (key_from m)) m.call.call) (entry_step (state_after front) m.call)
  key-taken =
      subst (λ (g : Generator). TakenFrom (made_from (decode g) m.call.call) (entry_step (state_after front) m.call)) same_key
      ((enters front m.call).taken ((reseed-told (state_after front) m.call).0 m.empties).0 is-due)

  -- ---- what the pools hold

  given : (l : List ℕ) → map (λ (u : PoolUse). erased u.pieces) (joined (use_of (traced front)) l) ≡ map (string_in front) l
  unfolding joined use_of string_in
  given [] = refl
  given (i ∷ l) = ap (λ (x : List (List ℕ)). erased ((traced front).pieces i) ∷ x) (given l)

  next-pools : used_pools (next_reseed (traced front).state) ≡ used_pools n
  next-pools =
      ap (λ (s : Fortuna). used_pools (next_reseed s)) ((run-correct front).provenance.faithful.state ∙ (run-correct front).agreement.state)
      ∙ used-pools-concrete (reference_after front)
      ∙ ap used_pools (ap (λ (r : ℕ). r + 1) (sym (same-reseeds front)) ∙ sym m.number)

  pub strings-held : strings_at calls n ≡ map (string_in front) (used_pools n)
  unfolding strings_at next_uses
  strings-held =
      ap (map (λ (u : PoolUse). erased u.pieces)) uses-are
      ∙ given (used_pools (next_reseed (traced front).state)) ∙ ap (map (string_in front)) next-pools
