-- The two tests over the places of the samples, the state after samples of a fresh start, and which sample fails first.
-- Assumes nothing.
use mathlib.Core.Path.{◌≡◌, refl, sym, ap, ap₂, ◌∙◌}
use mathlib.Core.Bool.{Bool, true, false, cond, ◌||◌, true≢false}
use mathlib.Core.Logic.{◌↔◌, inl, inr, ⊎_elim}
use mathlib.Core.List.{List, [], ◌∷◌, ◌++◌}
use Prim.Native.Nat.{ℕ, zero, suc, ◌+◌, ◌-◌, ◌*◌, ◌/◌, ◌≤◌, ◌<◌}
use native.Mathlib.Numerals.{add-one}
use native.Mathlib.Omega.{arith}
use lib.Dec.{eqb, ltb}
use Rattle.std.proofs.lemmas.Bool.Decides.{nat_tests}
use lib.ListN.{length, take, drop, get_or}
use lib.Seq.{slice, slice_empty, slice-cons, length-slice, take-suc, take-add, take-length, length-take-le, drop-append-le, get_or-drop, get_or-take}
use borrow.Author.Tests.{le-leb, eq-eqb, ltb-true, ltb-false, leb-true, eqb-true, eqb-false}
use Rattle.laws.specs.Lists.{count_of}
use Rattle.laws.proofs.Cases.{by-test, split, neither}
use Rattle.laws.proofs.Counts.{count-append}
use Rattle.health.specs.Samples.{window_size, run_after, repetition_fails, first_after, count_after, proportion_fails, noted}
use Rattle.health.specs.Calls.{passed, fresh}
use Rattle.health.specs.Statements.{sample_at, noted_all, repetition_fails_at, proportion_fails_at, fails_at, IsFirst}
use Rattle.health.specs.Closed.{LastEqual, run_ending_at, RunLaw, window_start, count_at, WindowLaw, FailsByLaw, open_window}
use Rattle.health.specs.Closed.{state_after, StateLaw, FailsNeither, FailsFirst, FirstFailureClosedLaw}
use Rattle.health.specs.declared.HealthState.{HealthState}
use Rattle.health.specs.declared.Outcome.{Outcome}
use Rattle.health.proofs.Cutting.{accepted-again}
use Rattle.health.proofs.Failing.{first-failure}

-- ---- runs of equal samples

module _ (samples : List ℕ) where
  abbrev x : ℕ → ℕ
  x k = sample_at samples k

  run-zero : run_ending_at samples 0 ≡ 1
  unfolding run_ending_at
  run-zero = refl

  run-same : (k : ℕ) → eqb (x (suc k)) (x k) ≡ true → run_ending_at samples (suc k) ≡ run_ending_at samples k + 1
  unfolding run_ending_at
  run-same k t = rw t

  run-other : (k : ℕ) → eqb (x (suc k)) (x k) ≡ false → run_ending_at samples (suc k) ≡ 1
  unfolding run_ending_at
  run-other k t = rw t

  -- the last sample alone
  last-alone : (k n : ℕ) → n ≤ 1 → LastEqual n samples k
  last-alone k n h = (omega arith, λ j a b. let q : j ≡ k = omega arith in ap x q)

  -- one more, equal to those before
  one_more : (k m : ℕ) → x (suc k) ≡ x k → LastEqual m samples k → LastEqual (suc m) samples (suc k)
  one_more k m e h = (
    omega (arith, h.0),
    λ j a b.
        by-test (ltb k j) (x j ≡ x (suc k)) (λ t. let l = ltb-true k j t in let q : j ≡ suc k = omega arith in ap x q)
        (λ t. let l = ltb-false k j t in h.1 j (omega arith) (omega arith) ∙ sym e),
  )

  one_less : (k m : ℕ) → x (suc k) ≡ x k → LastEqual (suc m) samples (suc k) → LastEqual m samples k
  one_less k m e h = (omega (arith, h.0), λ j a b. h.1 j (omega arith) (omega arith) ∙ e)

  grown : (k n : ℕ) → x (suc k) ≡ x k → ((m : ℕ) → LastEqual m samples k ↔ (m ≤ run_ending_at samples k))
      → LastEqual n samples (suc k) ↔ (n ≤ run_ending_at samples k + 1)
  grown k zero e ih = (λ h. omega arith, λ h. last-alone (suc k) 0 (omega arith))
  grown k (suc m) e ih = (
    λ h. let l = (ih m).0 (one_less k m e h) in omega arith,
    λ h. one_more k m e ((ih m).1 (omega arith)),
  )

  broken : (k n : ℕ) → (x (suc k) ≡ x k → ⊥) → LastEqual n samples (suc k) ↔ (n ≤ 1)
  broken k n e = (
    λ h. grind (arith, h.1 k),
    λ h. last-alone (suc k) n h,
  )

  run-longest : (k n : ℕ) → LastEqual n samples k ↔ (n ≤ run_ending_at samples k)
  run-longest zero n = rw run-zero (λ h. h.0, λ h. last-alone 0 n h)
  run-longest (suc k) n =
      by-test (eqb (x (suc k)) (x k)) (LastEqual n samples (suc k) ↔ (n ≤ run_ending_at samples (suc k)))
      (λ t. rw (run-same k t) (grown k n (eqb-true (x (suc k)) (x k) t) (run-longest k)))
      (λ t. rw (run-other k t) (broken k n (eqb-false (x (suc k)) (x k) t)))

pub runs : RunLaw
runs = run-longest

-- ---- counts

count-single : (a y : ℕ) → count_of a (y ∷ []) ≡ cond (eqb y a) 1 0
unfolding count_of
count-single a y = grind (arith, nat_tests)

count-one : (a : ℕ) → count_of a (a ∷ []) ≡ 1
count-one a = count-single a a ∙ rw (eq-eqb a a refl)

count-more : (a : ℕ) (ys : List ℕ) (y : ℕ) → count_of a (ys ++ (y ∷ [])) ≡ cond (eqb y a) (count_of a ys + 1) (count_of a ys)
count-more a ys y =
    grind (arith, nat_tests, count-append a ys (y ∷ []), count-single a y)

-- ---- windows

start-below : (k : ℕ) → window_start k ≤ k
start-below k = omega arith

start-near : (k : ℕ) → k < window_start k + 512
start-near k = omega arith

-- the next place starts a window, or goes on in this one
start-next : (k : ℕ) → (k - window_start k) + 1 ≡ 512 → window_start (suc k) ≡ suc k
start-next k h = omega arith

start-stays : (k : ℕ) → ((k - window_start k) + 1 ≡ 512 → ⊥) → window_start (suc k) ≡ window_start k
start-stays k h =
    grind arith

module _ (samples : List ℕ) where
  -- the state's fields, also of no samples
  state-first : (k : ℕ) → (state_after samples k).first ≡ get_or (open_window samples k) 0 0
  unfolding state_after fresh
  state-first zero = refl
  state-first (suc k) = refl

  state-count : (k : ℕ) → (state_after samples k).count ≡ count_of (get_or (open_window samples k) 0 0) (open_window samples k)
  unfolding state_after fresh count_of
  state-count zero = refl
  state-count (suc k) = refl

  state-length : (k : ℕ) → (state_after samples k).seen ≡ length (open_window samples k)
  unfolding state_after fresh
  state-length zero = refl
  state-length (suc k) = refl

  state-seen : (k : ℕ) → k ≤ length samples → (state_after samples k).seen ≡ k - window_start k
  state-seen k h = state-length k ∙ length-slice (window_start k) k samples h

  run-closed : (k : ℕ) → run_after (state_after samples k) (sample_at samples k) ≡ run_ending_at samples k
  unfolding run_after state_after fresh run_ending_at
  run-closed zero = grind (arith, nat_tests)
  run-closed (suc k) = refl

  -- the first sample of a part
  head-is : (a b : ℕ) → a < b → get_or (slice a b samples) 0 0 ≡ sample_at samples a
  head-is a b h =
      let q : a + 0 ≡ a = omega arith in
      get_or-drop a (take b samples) 0 0 ∙ ap (λ (i : ℕ). get_or (take b samples) i 0) q ∙ get_or-take b samples a 0 h

  -- ---- one sample more

  module _ (k : ℕ) (inside : k < length samples) where
    abbrev s : HealthState
    s = state_after samples k

    abbrev y : ℕ
    y = sample_at samples k

    abbrev w : ℕ
    w = window_start k

    slice-more : w ≤ k → slice w (k + 1) samples ≡ slice w k samples ++ (y ∷ [])
    slice-more h =
        rw (add-one k, take-suc samples k 0 inside)
        (drop-append-le w (take k samples) (y ∷ []) (rw (length-take-le k samples (omega arith)) h))

    -- the window starts here, or before
    at-start : s.seen ≡ 0 → w ≡ k
    at-start h = omega (arith, state-seen k (omega arith), start-below k)

    past-start : (s.seen ≡ 0 → ⊥) → w < k
    past-start h =
        let e = state-seen k (omega arith) in grind arith

    first-closed : first_after s y ≡ sample_at samples w
    unfolding first_after
    first-closed =
        split (λ (n : ℕ). n ≡ sample_at samples w) (eqb s.seen 0) (λ t. ap (λ (i : ℕ). sample_at samples i) (sym (at-start (eqb-true s.seen 0 t))))
        (λ t. state-first k ∙ head-is w k (past-start (eqb-false s.seen 0 t)))

    count-closed : count_after s y ≡ count_at samples k
    unfolding count_after
    count-closed =
        split (λ (n : ℕ). n ≡ count_at samples k) (eqb s.seen 0)
        (λ t. count-start (at-start (eqb-true s.seen 0 t)))
        (λ t. count-on (past-start (eqb-false s.seen 0 t)))
      where
        count-start : w ≡ k → 1 ≡ count_at samples k
        count-start q = sym (rw (q, add-one k, slice-cons k (suc k) samples 0 (omega arith) (omega arith), slice_empty (suc k) samples) (count-one y))

        count-on : w < k → cond (eqb y s.first) (s.count + 1) s.count ≡ count_at samples k
        count-on l =
            rw (slice-more (omega arith), count-more (sample_at samples w) (slice w k samples) y, state-count k, state-first k, head-is w k l)

    -- ---- the state with it

    full-next : (s.seen + 1 ≡ 512) → record { last = y; run = run_after s y; first = 0; count = 0; seen = 0 } ≡ state_after samples (suc k)
    unfolding state_after count_of
    full-next h =
        let q : window_start (suc k) ≡ suc k = start-next k (ap (λ (n : ℕ). n + 1) (sym (state-seen k (omega arith))) ∙ h) in
        rw (q, slice_empty (suc k) samples, run-closed k)

    more-next : (s.seen + 1 ≡ 512 → ⊥)
        → record { last = y; run = run_after s y; first = first_after s y; count = count_after s y; seen = s.seen + 1 } ≡ state_after samples (suc k)
    unfolding state_after
    more-next h =
        let e : s.seen ≡ k - w = state-seen k (omega arith) in
        let q : window_start (suc k) ≡ w = start-stays k (λ d. h (ap (λ (n : ℕ). n + 1) e ∙ d)) in
        let l : length (slice w (suc k) samples) ≡ s.seen + 1 = length-slice w (suc k) samples (omega arith) ∙ omega (arith, start-below k) in
        rw (q, l, head-is w (suc k) (omega (arith, start-below k)), run-closed k, first-closed, count-closed, add-one k)

    noted-closed : noted s y ≡ state_after samples (suc k)
    unfolding noted run_after
    noted-closed =
        split (λ (t : HealthState). t ≡ state_after samples (suc k)) (eqb (s.seen + 1) 512)
        (λ t. full-next (eqb-true (s.seen + 1) 512 t)) (λ t. more-next (eqb-false (s.seen + 1) 512 t))

noted_more : (s : HealthState) (xs : List ℕ) (x : ℕ) → noted_all s (xs ++ (x ∷ [])) ≡ noted (noted_all s xs) x
unfolding noted_all
noted_more s [] x = refl
noted_more s (y ∷ xs) x = noted_more (noted s y) xs x

-- a longer part has no fewer
slice-grows : (a b c : ℕ) (v : ℕ) (samples : List ℕ) → a ≤ b → b ≤ c → b ≤ length samples
    → count_of v (slice a b samples) ≤ count_of v (slice a c samples)
slice-grows a b c v samples h g l =
    let q : c ≡ b + (c - b) = omega arith in
    let e : slice a c samples ≡ slice a b samples ++ take (c - b) (drop b samples) =
    ap (λ (i : ℕ). slice a i samples) q ∙ ap (drop a) (take-add b (c - b) samples)
    ∙ drop-append-le a (take b samples) (take (c - b) (drop b samples)) (rw (length-take-le b samples l) h) in
    rw (e, count-append v (slice a b samples) (take (c - b) (drop b samples))) (omega arith)

-- the places of a window, and its last
window-of : (k n : ℕ) → k / window_size ≡ n → window_start k ≡ window_size * n
window-of k n e = omega arith

last_of : (n : ℕ) → (window_size * n + 511) / window_size ≡ n
last_of n = omega arith

module _ (cutoff : ℕ) (samples : List ℕ) (n : ℕ) (whole : window_size * (n + 1) ≤ length samples) where
  abbrev whole_count : ℕ
  whole_count = count_of (sample_at samples (window_size * n)) (slice (window_size * n) (window_size * (n + 1)) samples)

  window-within : (k : ℕ) → k / window_size ≡ n → cutoff ≤ count_at samples k → cutoff ≤ whole_count
  window-within k e h =
      let g = slice-grows (512 * n) (k + 1) (512 * (n + 1)) (sample_at samples (512 * n)) samples (omega arith) (omega arith) (omega arith) in
      let f : cutoff ≤ count_of (sample_at samples (512 * n)) (slice (512 * n) (k + 1) samples) = rw (window-of k n e) at h in
      omega arith

  window-last : cutoff ≤ whole_count → cutoff ≤ count_at samples (window_size * n + 511)
  window-last h =
      let q : 512 * n + 511 + 1 ≡ 512 * (n + 1) = omega arith in
      rw (window-of (512 * n + 511) n (last_of n), q) h

pub windows : WindowLaw
windows cutoff samples n whole = (
  λ h. window-within cutoff samples n whole h.0 h.1 h.2,
  λ h. (window_size * n + 511, last_of n, window-last cutoff samples n whole h),
)

-- ---- the state after samples

pub state-closed : StateLaw
state-closed samples zero h = unfold noted_all state_after in refl
state-closed samples (suc k) h =
    ap (noted_all fresh) (take-suc samples k 0 h) ∙ noted_more fresh (take k samples) (sample_at samples k)
    ∙ ap (λ (s : HealthState). noted s (sample_at samples k)) (state-closed samples k (omega arith))
    ∙ noted-closed samples k h

-- ---- which sample fails which test

module _ (samples : List ℕ) (k : ℕ) (inside : k < length samples) where
  abbrev before : HealthState
  before = noted_all fresh (take k samples)

  run-before : run_after before (sample_at samples k) ≡ run_ending_at samples k
  run-before = rw (state-closed samples k (omega arith)) (run-closed samples k)

  count-before : count_after before (sample_at samples k) ≡ count_at samples k
  count-before = rw (state-closed samples k (omega arith)) (count-closed samples k inside)

  repetition-by : (cutoff : ℕ) → (repetition_fails cutoff before (sample_at samples k) ≡ true) ↔ LastEqual cutoff samples k
  unfolding repetition_fails
  repetition-by cutoff =
      rw run-before (
        λ e. (runs samples k cutoff).1 (leb-true cutoff (run_ending_at samples k) e),
        λ h. le-leb cutoff (run_ending_at samples k) ((runs samples k cutoff).0 h),
      )

  proportion-by : (cutoff : ℕ) → (proportion_fails cutoff before (sample_at samples k) ≡ true) ↔ (cutoff ≤ count_at samples k)
  unfolding proportion_fails
  proportion-by cutoff = rw count-before (λ e. leb-true cutoff (count_at samples k) e, λ h. le-leb cutoff (count_at samples k) h)

pub fails_by : FailsByLaw
fails_by samples k inside = record { repetition = repetition-by samples k inside; proportion = proportion-by samples k inside }

-- ---- the call

same_test : (a b : Bool) → (a ≡ true → b ≡ true) → (b ≡ true → a ≡ true) → a ≡ b
same_test true b h g = sym (h refl)
same_test false true h g = g refl
same_test false false h g = refl

not-true-false : (a : Bool) → ¬ (a ≡ true) → a ≡ false
not-true-false true h = absurd (h refl)
not-true-false false h = refl

false-not-true : (a : Bool) → a ≡ false → ¬ (a ≡ true)
false-not-true a e h = true≢false (sym h ∙ e)

module _ (r p : ℕ) (samples : List ℕ) where
  abbrev repeats : ℕ → Bool
  repeats k = repetition_fails_at r fresh samples k

  abbrev crowds : ℕ → Bool
  crowds k = proportion_fails_at p fresh samples k

  fails-neither : (k : ℕ) → k < length samples → fails_at r p fresh samples k ≡ false → FailsNeither r p samples k
  fails-neither k l e =
      let n = neither (repeats k) (crowds k) e in
      (λ h. false-not-true (repeats k) n.0 ((repetition-by samples k l r).1 h), λ h. false-not-true (crowds k) n.1 ((proportion-by samples k l p).1 h))

  passes_at : (k : ℕ) → k < length samples → FailsNeither r p samples k → fails_at r p fresh samples k ≡ false
  passes_at k l n =
      rw (
        not-true-false (repeats k) (λ e. n.0 ((repetition-by samples k l r).0 e)),
        not-true-false (crowds k) (λ e. n.1 ((proportion-by samples k l p).0 e)),
      )

  first-there : (k : ℕ) → IsFirst r p fresh samples k → FailsFirst r p samples k (repeats k) (crowds k)
  first-there k h = record {
    inside = h.inside;
    before = λ j l. fails-neither j (omega (arith, h.inside)) (h.before j (omega arith));
    repetition-told = repetition-by samples k h.inside r;
    proportion-told = proportion-by samples k h.inside p;
    fails-one = h.here;
  }

  is-first : (k : ℕ) (x y : Bool) → FailsFirst r p samples k x y → IsFirst r p fresh samples k × (x ≡ repeats k) × (y ≡ crowds k)
  is-first k x y f =
      let R = repetition-by samples k f.inside r in
      let P = proportion-by samples k f.inside p in
      let q : x ≡ repeats k = same_test x (repeats k) (λ e. R.1 (f.repetition-told.0 e)) (λ e. f.repetition-told.1 (R.0 e)) in
      let c : y ≡ crowds k = same_test y (crowds k) (λ e. P.1 (f.proportion-told.0 e)) (λ e. f.proportion-told.1 (P.0 e)) in
      let one : (repeats k || crowds k) ≡ true = ap₂ (λ (v w : Bool). v || w) (sym q) (sym c) ∙ f.fails-one in
      (record { inside = f.inside; before = λ j l. passes_at j (omega (arith, f.inside)) (f.before j (omega arith)); here = one }, q, c)

  fails-first : (k : ℕ) (x y : Bool) → IsFirst r p fresh samples k × (x ≡ repeats k) × (y ≡ crowds k) → FailsFirst r p samples k x y
  fails-first k x y h = rw (h.1, h.2) (first-there k h.0)

  -- the state left, both ways of writing it
  passed-closed : ◌≡◌ {A = Outcome} (record { answer = passed; next = noted_all fresh samples })
      (record { answer = passed; next = state_after samples (length samples) })
  passed-closed =
      ap (λ (s : HealthState). record { answer = passed; next = s })
      (ap (noted_all fresh) (sym (take-length samples)) ∙ state-closed samples (length samples) (omega arith))

pub first-failure-closed : FirstFailureClosedLaw
first-failure-closed r p samples a b =
    let law = first-failure r p fresh samples ((accepted-again r p).start samples a b) in
    let same = passed-closed r p samples in
    record {
      either =
          ⊎_elim (λ h. inl (λ k l. fails-neither r p samples k l (h k l)))
          (λ h. inr (h.0, repeats r p samples h.0, crowds r p samples h.0, first-there r p samples h.0 h.1))
          law.either;
      passes = (
        λ e. λ k l. fails-neither r p samples k l (law.passes.0 (e ∙ sym same) k l),
        λ h. law.passes.1 (λ k l. passes_at r p samples k l (h k l)) ∙ same,
      );
      fails = λ k x y. (
        λ e. fails-first r p samples k x y ((law.fails k x y).0 e),
        λ f. (law.fails k x y).1 (is-first r p samples k x y f),
      );
    }
