-- Each reseed that a run has made was made by one call of it; and the strings tell how many there were.
-- Assumes nothing.
use mathlib.Core.Path.{◌≡◌, refl, sym, ap, subst, ◌∙◌}
use mathlib.Core.Bool.{Bool, true, false, cond}
use mathlib.Core.Logic.{◌↔◌}
use mathlib.Core.List.{List, [], ◌∷◌, ◌++◌, map, append_assoc, append-nil}
use Prim.Native.Nat.{ℕ, ◌+◌, ◌≤◌, ◌<◌}
use native.Mathlib.Omega.{arith}
use lib.Dec.{ltb, leb}
use lib.ListN.{length, length-map}
use borrow.Author.Tests.{ltb-true, leb-true, leb-false, ltb-false, lt-ltb}
use Rattle.laws.proofs.Cases.{by-test}
use Rattle.pools.specs.Schedule.{used_pools}
use Rattle.quotas.specs.Entries.{Entry, entry_step}
use Rattle.reference.specs.Runs.{state_after}
use Rattle.reference.specs.Timer.{reseeds_after}
use Rattle.reference.proofs.Schedule.{used-some}
use Rattle.reference.proofs.Laws.{reseeds-none, reseeds-more}
use Rattle.history.specs.Strings.{string_of}
use Rattle.history.specs.Runs.{made, entered_at, strings_at}
use Rattle.history.specs.RunStatements.{Makes, SameReseeds}
use Rattle.history.proofs.Runs.{made_by, made-parts, strings-are, no-strings}

-- the reseeds don't get fewer
reseeds-later : (later front : List Entry) → reseeds_after front ≤ reseeds_after (front ++ later)
reseeds-later [] front = omega (arith, ap reseeds_after (append-nil front))
reseeds-later (c ∷ later) front =
    let whole = ap reseeds_after (append_assoc front (c ∷ []) later) in
    omega (arith, whole, reseeds-more front c, reseeds-later later (front ++ (c ∷ [])))

-- ---- the call that makes reseed n, behind a front that has not made it

found : (n : ℕ) (later front : List Entry) → reseeds_after front < n → n ≤ reseeds_after (front ++ later) → Makes (front ++ later) n
found n [] front h k = absurd (omega (arith, ap reseeds_after (append-nil front)))
found n (c ∷ later) front h k =
    by-test (leb n (reseeds_after (front ++ (c ∷ [])))) (Makes (front ++ (c ∷ later)) n)
    (λ t.
    let there : n ≤ reseeds_after (front ++ (c ∷ [])) = leb-true n (reseeds_after (front ++ (c ∷ []))) t in
    makes-now (ltb 0 (entry_step (state_after front) c).effect.emptied) refl (reseeds-more front c) there)
    (λ t.
    let whole = append_assoc front (c ∷ []) later in
    subst (λ (l : List Entry). Makes l n) whole
    (found n later (front ++ (c ∷ [])) (leb-false n (reseeds_after (front ++ (c ∷ []))) t)
    (subst (λ (l : List Entry). n ≤ reseeds_after l) (sym whole) k)))
  where
    makes-now : (b : Bool) → ltb 0 (entry_step (state_after front) c).effect.emptied ≡ b
        → reseeds_after (front ++ (c ∷ [])) ≡ reseeds_after front + cond b 1 0 → n ≤ reseeds_after (front ++ (c ∷ []))
        → Makes (front ++ (c ∷ later)) n
    makes-now true e r there =
        record { before = front; call = c; later = later; whole = refl; empties = ltb-true 0 _ e; number = omega arith }
    makes-now false e r there = absurd (omega arith)

module _ (calls : List Entry) (n : ℕ) where
  makes_one : made calls n ≡ true → Makes calls n
  makes_one t =
      let m = made-parts calls n t in
      found n calls [] (omega (arith, reseeds-none, m.0)) m.1

  makes-made : Makes calls n → made calls n ≡ true
  makes-made m =
      let front = m.before ++ (m.call ∷ []) in
      let more : reseeds_after front ≡ reseeds_after m.before + 1 =
      reseeds-more m.before m.call ∙ ap (λ (b : Bool). reseeds_after m.before + cond b 1 0) (lt-ltb 0 _ m.empties) in
      let whole : reseeds_after (front ++ m.later) ≡ reseeds_after calls =
      ap reseeds_after (append_assoc m.before (m.call ∷ []) m.later ∙ m.whole) in
      made_by calls n (omega (arith, m.number)) (omega (arith, m.number, more, whole, reseeds-later m.later front))

  pub makes-are : (made calls n ≡ true) ↔ Makes calls n
  makes-are = (makes_one, makes-made)

-- ---- the strings tell the reseeds

strings-some : (calls : List Entry) (n : ℕ) → made calls n ≡ true → 0 < length (strings_at calls n)
unfolding entered_at
strings-some calls n t =
    let strings = strings-are calls n in
    subst (λ k. 0 < k) (sym (ap length strings ∙ go)) (used-some n)
  where
    go : length (map (λ x. string_of x.events) (entered_at calls n)) ≡ length (used_pools n)
    go = rw t (rw (length-map, length-map))

not-fewer : (calls others : List Entry) → ((n : ℕ) → strings_at calls n ≡ strings_at others n) → reseeds_after calls ≤ reseeds_after others
not-fewer calls others h =
    by-test (ltb 0 (reseeds_after calls)) (reseeds_after calls ≤ reseeds_after others)
    (λ t.
    let last = reseeds_after calls in
    let some : 0 < length (strings_at others last) =
    subst (λ (l : List (List ℕ)). 0 < length l) (h last) (strings-some calls last (made_by calls last (ltb-true 0 last t) (omega arith))) in
    by-test (made others last) (last ≤ reseeds_after others)
    (λ m. (made-parts others last m).1)
    (λ m. absurd (omega (arith, some, ap length (no-strings others last m)))))
    (λ t. omega (arith, ltb-false 0 (reseeds_after calls) t))

pub same-reseeds : SameReseeds
same-reseeds calls others h = omega (arith, not-fewer calls others h, not-fewer others calls (λ n. sym (h n)))
