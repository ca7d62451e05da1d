-- Which sample of a call fails first, from any state that is accepted.
-- Assumes nothing.
use mathlib.Core.Path.{◌≡◌, refl, sym, ap, ap₂, subst, ◌∙◌}
use mathlib.Core.Bool.{Bool, true, false}
use mathlib.Core.Logic.{◌⊎◌, inl, inr, ⊎_elim}
use mathlib.Core.List.{List, [], ◌∷◌}
use Rattle.std.specs.Prelude.{Some, None, Ok, Err}
use Prim.Native.Nat.{ℕ, zero, suc, ◌+◌, ◌≤◌, ◌<◌}
use native.Mathlib.Omega.{arith}
use lib.ListN.{length}
use native.Mathlib.Numerals.{add-one}
use Rattle.std.proofs.Common.{below_more}
use Rattle.laws.proofs.Cases.{by-test}
use Rattle.health.specs.Samples.{noted, failure, test_from}
use Rattle.health.specs.Calls.{Answer, passed, failed, out_of_range, malformed, fresh, outcome_of, tested}
use Rattle.health.specs.Statements.{noted_all, repetition_fails_at, proportion_fails_at, fails_at, NoneFails, IsFirst, FirstFailure, FirstFailureLaw}
use Rattle.health.specs.declared.HealthState.{HealthState}
use Rattle.health.specs.declared.Outcome.{Outcome}
use Rattle.health.proofs.Walks.{not-refused}
use Rattle.health.proofs.Numbers.{accepted}
use Rattle.health.proofs.Cutting.{pass_step, fail-step, passed-outcome, failed-outcome}

-- ---- a walk

none-fails : (r p k : ℕ) (s : HealthState) (xs : List ℕ) → NoneFails r p s xs → test_from r p k s xs ≡ Ok (noted_all s xs)
unfolding noted_all
none-fails r p k s [] h = unfold test_from in refl
none-fails r p k s (x ∷ xs) h =
    pass_step r p k s x xs (h 0 (omega arith))
    ∙ none-fails r p (suc k) (noted s x) xs (λ j l. h (suc j) (omega arith))

fail-at : (r p n : ℕ) (s : HealthState) (xs : List ℕ) (k : ℕ) → k < length xs → ((j : ℕ) → j < k → fails_at r p s xs j ≡ false)
    → fails_at r p s xs k ≡ true → test_from r p n s xs ≡ Err (failure (n + k) (repetition_fails_at r s xs k) (proportion_fails_at p s xs k))
unfolding noted_all
fail-at r p n s [] k l h w = absurd (omega arith)
fail-at r p n s (x ∷ xs) zero l h w = let q : n + 0 ≡ n = omega arith in rw q (fail-step r p n s x xs w)
fail-at r p n s (x ∷ xs) (suc k) l h w =
    let q : n + suc k ≡ suc n + k = omega arith in
    pass_step r p n s x xs (h 0 (omega arith))
    ∙ rw q (fail-at r p (suc n) (noted s x) xs k (omega arith) (λ j l. h (suc j) (omega arith)) w)

-- ---- the first that fails, if one does

module _ (r p : ℕ) (s : HealthState) (xs : List ℕ) where
  abbrev Looked : ℕ → Type 0
  Looked n = ((k : ℕ) → k < n → fails_at r p s xs k ≡ false) ⊎ ((k : ℕ) × IsFirst r p s xs k)

  looked : (n : ℕ) → n ≤ length xs → Looked n
  looked zero h = inl (λ k l. absurd (omega arith))
  looked (suc n) h = ⊎_elim here inr (looked n (omega arith))
    where
      here : ((k : ℕ) → k < n → fails_at r p s xs k ≡ false) → Looked (suc n)
      here all =
          by-test (fails_at r p s xs n) (Looked (suc n)) (λ t. inr (n, record { inside = h; before = all; here = t }))
          (λ t. inl (rw (← add-one n) (below_more _ n all t)))

  -- ---- the call

  module _ (a : out_of_range r ≡ false) (b : out_of_range p ≡ false) (m : malformed r p s ≡ false) where
    all_pass : NoneFails r p s xs → tested r p s xs ≡ record { answer = passed; next = noted_all s xs }
    all_pass h = not-refused r p s xs a b m ∙ ap outcome_of (none-fails r p 0 s xs h) ∙ passed-outcome (noted_all s xs)

    stops_at : (k : ℕ) → IsFirst r p s xs k
        → tested r p s xs ≡ record { answer = failed k (repetition_fails_at r s xs k) (proportion_fails_at p s xs k); next = fresh }
    stops_at k h =
        let q : 0 + k ≡ k = omega arith in
        not-refused r p s xs a b m
        ∙ ap outcome_of (rw q at (fail-at r p 0 s xs k h.inside h.before h.here))
        ∙ failed-outcome _

    -- what an answer says of the samples
    Told : Answer → Type 0
    Told (Ok None) = NoneFails r p s xs
    Told (Ok (Some f)) =
        IsFirst r p s xs f.place × (f.repetition ≡ repetition_fails_at r s xs f.place) × (f.proportion ≡ proportion_fails_at p s xs f.place)
    Told (Err refusal) = ⊥

    told-passed : NoneFails r p s xs → Told passed
    unfolding Told
    told-passed h = h

    told-failed : (k : ℕ) → IsFirst r p s xs k → Told (failed k (repetition_fails_at r s xs k) (proportion_fails_at p s xs k))
    unfolding Told
    told-failed k h = (h, refl, refl)

    told-by : Looked (length xs) → Told (tested r p s xs).answer
    told-by (inl h) = subst Told (sym (ap (λ (o : Outcome). o.answer) (all_pass h))) (told-passed h)
    told-by (inr h) = subst Told (sym (ap (λ (o : Outcome). o.answer) (stops_at h.0 h.1))) (told-failed h.0 h.1)

    told : (o : Outcome) → tested r p s xs ≡ o → Told o.answer
    told o e = subst Told (ap (λ (o : Outcome). o.answer) e) (told-by (looked (length xs) (omega arith)))

    passes-told : tested r p s xs ≡ record { answer = passed; next = noted_all s xs } → NoneFails r p s xs
    unfolding Told
    passes-told e = told _ e

    failure-told : (k : ℕ) (x y : Bool) → tested r p s xs ≡ record { answer = failed k x y; next = fresh }
        → IsFirst r p s xs k × (x ≡ repetition_fails_at r s xs k) × (y ≡ proportion_fails_at p s xs k)
    unfolding Told
    failure-told k x y e = told _ e

    fails-there : (k : ℕ) (x y : Bool) → IsFirst r p s xs k × (x ≡ repetition_fails_at r s xs k) × (y ≡ proportion_fails_at p s xs k)
        → tested r p s xs ≡ record { answer = failed k x y; next = fresh }
    fails-there k x y f = stops_at k f.0 ∙ ap₂ (λ (v w : Bool). record { answer = failed k v w; next = fresh }) (sym f.1) (sym f.2)

    first : FirstFailure r p s xs
    first = record {
      either = looked (length xs) (omega arith);
      passes = (passes-told, all_pass);
      fails = λ k x y. (failure-told k x y, fails-there k x y);
    }

pub first-failure : FirstFailureLaw
first-failure r p s xs e = let h = accepted r p s xs e in first r p s xs h.0 h.1 h.2
