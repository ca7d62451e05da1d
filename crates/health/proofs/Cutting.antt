-- Samples cut in parts, and the states that calls leave.
-- Assumes nothing.
use mathlib.Core.Path.{◌≡◌, refl, sym, ap, fun_ext, ◌∙◌}
use mathlib.Core.Bool.{Bool, true, false, cond, ◌||◌}
use mathlib.Core.List.{List, [], ◌∷◌, ◌++◌}
use Rattle.std.specs.Prelude.{Some, Result, Ok, Err}
use Prim.Native.Nat.{ℕ, suc, ◌+◌}
use native.Mathlib.Omega.{arith}
use lib.ListN.{length}
use Rattle.laws.specs.Lists.{joined}
use Rattle.laws.proofs.Cases.{by-test, neither}
use Rattle.health.specs.Samples.{repetition_fails, proportion_fails, fails, noted, failure, test_from}
use Rattle.health.specs.Calls.{out_of_range, malformed, passed, fresh, outcome_of, tested}
use Rattle.health.specs.Statements.{later, onward_from, in_parts, CuttingLaw, AcceptedAgain}
use Rattle.health.specs.declared.HealthState.{HealthState}
use Rattle.health.specs.declared.Outcome.{Outcome}
use Rattle.health.specs.declared.Failure.{Failure}
use Rattle.health.specs.declared.refusals.Refusal.{Refusal}
use Rattle.health.specs.declared.refusals.Refusal.TheVariants.{CutoffRange, Malformed}
use Rattle.health.proofs.States.{fresh-passes, noted-passes}
use Rattle.health.proofs.Walks.{refused-range, refused-state, not-refused}
use Rattle.health.proofs.Numbers.{accepted, accepts}

-- ---- a walk in two parts

abbrev Walked : Type 0
Walked = Result HealthState Failure

-- n samples came before
shift : ℕ → Walked → Walked
shift n (Ok t) = Ok t
shift n (Err f) = Err (failure (n + f.place) f.repetition f.proportion)

shift-cond : (n : ℕ) (t : Bool) (v w : Walked) → shift n (cond t v w) ≡ cond t (shift n v) (shift n w)
shift-cond n true v w = refl
shift-cond n false v w = refl

from-shift : (r p n k : ℕ) (s : HealthState) (xs : List ℕ) → test_from r p (n + k) s xs ≡ shift n (test_from r p k s xs)
unfolding test_from shift
from-shift r p n k s [] = refl
from-shift r p n k s (x ∷ xs) =
    let q : suc (n + k) ≡ n + suc k = omega arith in
    rw (q, from-shift r p n (suc k) (noted s x) xs) (sym (shift-cond n (fails r p s x) _ _))

follow : Walked → (HealthState → Walked) → Walked
follow (Ok t) f = f t
follow (Err e) f = Err e

follow-cond : (t : Bool) (e : Failure) (w : Walked) (f : HealthState → Walked) → follow (cond t (Err e) w) f ≡ cond t (Err e) (follow w f)
unfolding follow
follow-cond true e w f = refl
follow-cond false e w f = refl

from-append : (r p k : ℕ) (s : HealthState) (xs ys : List ℕ)
    → test_from r p k s (xs ++ ys) ≡ follow (test_from r p k s xs) (λ t. test_from r p (length xs + k) t ys)
unfolding test_from follow
from-append r p k s [] ys = let q : 0 + k ≡ k = omega arith in rw q
from-append r p k s (x ∷ xs) ys =
    let q : suc (length xs) + k ≡ length xs + suc k = omega arith in
    rw (q, from-append r p (suc k) (noted s x) xs ys) (sym (follow-cond (fails r p s x) _ _ _))

-- ---- the states that a walk goes through

pub pass_step : (r p k : ℕ) (s : HealthState) (x : ℕ) (xs : List ℕ) → fails r p s x ≡ false
    → test_from r p k s (x ∷ xs) ≡ test_from r p (suc k) (noted s x) xs
unfolding test_from
pass_step r p k s x xs w = rw w

pub fail-step : (r p k : ℕ) (s : HealthState) (x : ℕ) (xs : List ℕ) → fails r p s x ≡ true
    → test_from r p k s (x ∷ xs) ≡ Err (failure k (repetition_fails r s x) (proportion_fails p s x))
unfolding test_from
fail-step r p k s x xs w = rw w

same-passed : (s t : HealthState) → ◌≡◌ {A = Walked} (Ok s) (Ok t) → s ≡ t
same-passed s t h = cc

walk-passes : (r p k : ℕ) (s t : HealthState) (xs : List ℕ) → out_of_range p ≡ false → malformed r p s ≡ false
    → test_from r p k s xs ≡ Ok t → malformed r p t ≡ false
walk-passes r p k s t [] range f e = rw (← same-passed s t (unfold test_from in e)) f
walk-passes r p k s t (x ∷ xs) range f e = go (walk-passes r p (suc k) (noted s x) t xs range)
  where
    go : (malformed r p (noted s x) ≡ false → test_from r p (suc k) (noted s x) xs ≡ Ok t → malformed r p t ≡ false) → malformed r p t ≡ false
    go ih =
        by-test (fails r p s x) (malformed r p t ≡ false)
        (λ w. let q = fail-step r p k s x xs w in cc)
        (λ w. ih (noted-passes r p s x range f w) (sym (pass_step r p k s x xs w) ∙ e))

-- ---- cutting

-- what a result comes to n samples later
later-outcome : (n : ℕ) (w : Walked) → outcome_of (shift n w) ≡ record { answer = later n (outcome_of w).answer; next = (outcome_of w).next }
unfolding outcome_of shift later
later-outcome n (Ok t) = refl
later-outcome n (Err f) = refl

pub passed-outcome : (t : HealthState) → outcome_of (Ok t) ≡ record { answer = passed; next = t }
unfolding outcome_of
passed-outcome t = refl

pub failed-outcome : (f : Failure) → outcome_of (Err f) ≡ record { answer = Ok (Some f); next = fresh }
unfolding outcome_of fresh
failed-outcome f = refl

follow-passed : (t : HealthState) (f : HealthState → Walked) → follow (Ok t) f ≡ f t
unfolding follow
follow-passed t f = refl

follow-failed : (e : Failure) (f : HealthState → Walked) → follow (Err e) f ≡ Err e
unfolding follow
follow-failed e f = refl

module _ (r p : ℕ) (s : HealthState) (xs ys : List ℕ) where
  abbrev Cut : Type 0
  Cut =
      onward_from (length xs) (tested r p s xs).answer (tested r p s xs).next (λ t. tested r p t ys) ≡ tested r p s (xs ++ ys)

  module _ (a : out_of_range r ≡ false) (b : out_of_range p ≡ false) (m : malformed r p s ≡ false) where
    whole : (w : Walked) → test_from r p 0 s xs ≡ w → tested r p s (xs ++ ys) ≡ outcome_of (follow w (λ t. test_from r p (length xs + 0) t ys))
    whole w e =
        not-refused r p s (xs ++ ys) a b m
        ∙ ap outcome_of (from-append r p 0 s xs ys ∙ ap (λ (v : Walked). follow v (λ t. test_from r p (length xs + 0) t ys)) e)

    first_part : (w : Walked) → test_from r p 0 s xs ≡ w → tested r p s xs ≡ outcome_of w
    first_part w e = not-refused r p s xs a b m ∙ ap outcome_of e

    onward-by : (o : Outcome) → tested r p s xs ≡ o
        → onward_from (length xs) (tested r p s xs).answer (tested r p s xs).next (λ t. tested r p t ys)
        ≡ onward_from (length xs) o.answer o.next (λ t. tested r p t ys)
    onward-by o e = ap (λ (x : Outcome). onward_from (length xs) x.answer x.next (λ t. tested r p t ys)) e

    accepted-cut : (w : Walked) → test_from r p 0 s xs ≡ w → Cut
    unfolding onward_from
    accepted-cut (Ok t) e =
        let m' : malformed r p t ≡ false = walk-passes r p 0 s t xs b m e in
        onward-by (record { answer = passed; next = t }) (first_part (Ok t) e ∙ passed-outcome t)
        ∙ ap (λ (o : Outcome). record { answer = later (length xs) o.answer; next = o.next }) (not-refused r p t ys a b m')
        ∙ sym
        (whole (Ok t) e ∙ ap outcome_of (follow-passed t (λ t. test_from r p (length xs + 0) t ys) ∙ from-shift r p (length xs) 0 t ys)
        ∙ later-outcome (length xs) (test_from r p 0 t ys))
    accepted-cut (Err f) e =
        onward-by (record { answer = Ok (Some f); next = fresh }) (first_part (Err f) e ∙ failed-outcome f)
        ∙ sym (whole (Err f) e ∙ ap outcome_of (follow-failed f (λ t. test_from r p (length xs + 0) t ys)) ∙ failed-outcome f)

  -- a refusal is the same whatever the samples are
  refused-cut : (e : Refusal) → ((zs : List ℕ) → record { answer = Err e; next = s } ≡ tested r p s zs) → Cut
  unfolding onward_from
  refused-cut e h = ap (λ (x : Outcome). onward_from (length xs) x.answer x.next (λ t. tested r p t ys)) (sym (h xs)) ∙ h (xs ++ ys)

  cut : Cut
  cut =
      by-test (out_of_range r || out_of_range p) Cut (λ a. refused-cut CutoffRange (λ zs. refused-range r p s zs a))
      (λ a.
      let n = neither (out_of_range r) (out_of_range p) a in
      by-test (malformed r p s) Cut (λ m. refused-cut Malformed (λ zs. refused-state r p s zs a m))
      (λ m. accepted-cut n.0 n.1 m (test_from r p 0 s xs) refl))

pub cutting : CuttingLaw
unfolding in_parts joined
cutting r p s [] = refl
cutting r p s (part ∷ parts) =
    ap (onward_from (length part) (tested r p s part).answer (tested r p s part).next) (fun_ext (λ t. cutting r p t parts))
    ∙ cut r p s part (joined (λ part. part) parts)

-- ---- the states that calls leave

module _ (r p : ℕ) (a : out_of_range r ≡ false) (b : out_of_range p ≡ false) where
  result-passes : (s : HealthState) (xs : List ℕ) → malformed r p s ≡ false → (w : Walked) → test_from r p 0 s xs ≡ w
      → malformed r p (outcome_of w).next ≡ false
  unfolding outcome_of fresh
  result-passes s xs m (Ok t) e = walk-passes r p 0 s t xs b m e
  result-passes s xs m (Err f) e = fresh-passes r p a b

  left-passes : (s : HealthState) (xs : List ℕ) → malformed r p s ≡ false → malformed r p (tested r p s xs).next ≡ false
  left-passes s xs m = rw (not-refused r p s xs a b m) (result-passes s xs m (test_from r p 0 s xs) refl)

pub accepted-again : (r p : ℕ) → AcceptedAgain r p
accepted-again r p = record {
  start = λ xs a b. accepts r p fresh xs a b (fresh-passes r p a b);
  left = λ s xs more e.
      let h = accepted r p s xs e in
      accepts r p (tested r p s xs).next more h.0 h.1 (left-passes r p h.0 h.1 s xs h.2);
}
