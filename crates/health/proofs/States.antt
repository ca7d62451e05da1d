-- What the check of a state says, and which states pass it: the fresh one, and the one that a sample which fails neither
-- test leaves.
-- Assumes nothing.
use mathlib.Core.Path.{◌≡◌}
use mathlib.Core.Bool.{false}
use Prim.Native.Nat.{ℕ, ◌≤◌, ◌<◌, ◌+◌}
use native.Mathlib.Omega.{arith}
use Rattle.std.proofs.lemmas.Bool.Decides.{nat_tests}
use Rattle.health.specs.Samples.{run_after, repetition_fails, count_after, proportion_fails, fails, noted}
use Rattle.health.specs.Calls.{out_of_range, malformed, fresh}
use Rattle.health.specs.declared.HealthState.{HealthState}
use native.Mathlib.Nat.{pos_of_ne-zero}
use lib.Dec.{eqb, ltb, leb}
use borrow.Author.Tests.{ltb-false, leb-false, eqb-false}
use Rattle.laws.proofs.Cases.{split, neither}

-- ---- the check, as numbers

pub record Formed (r p : ℕ) (s : HealthState) : Type 0 where
  pub run-below : s.run < r
  pub count-below : s.count < p
  pub within : s.count ≤ s.seen
  pub unfilled : s.seen < 512
  pub counted : 0 < s.seen → 0 < s.count
  pub ran : 0 < s.seen → 0 < s.run
  pub unseen : s.seen ≡ 0 → s.first ≡ 0
  pub unrun : s.run ≡ 0 → s.last ≡ 0

pub formed : (r p : ℕ) (s : HealthState) → malformed r p s ≡ false → Formed r p s
unfolding malformed
formed r p s e = record {
  run-below = grind (arith, nat_tests);
  count-below = grind (arith, nat_tests);
  within = grind (arith, nat_tests);
  unfilled = grind (arith, nat_tests);
  counted = grind (arith, nat_tests);
  ran = grind (arith, nat_tests);
  unseen = grind (arith, nat_tests);
  unrun = grind (arith, nat_tests);
}

pub well-formed : (r p : ℕ) (s : HealthState) → Formed r p s → malformed r p s ≡ false
unfolding malformed
well-formed r p s f = grind (arith, nat_tests, f.run-below, f.count-below, f.within, f.unfilled, f.counted, f.ran, f.unseen, f.unrun)

pub in-range : (c : ℕ) → out_of_range c ≡ false → (2 ≤ c) × (c ≤ 512)
in-range c e = let p = neither (ltb c 2) (ltb 512 c) e in (ltb-false c 2 p.0, ltb-false 512 c p.1)

pub run-some : (s : HealthState) (x : ℕ) → 0 < run_after s x
unfolding run_after
run-some s x = split (λ (n : ℕ). 0 < n) (eqb x s.last) (λ _. omega arith) (λ _. omega arith)

count-some : (r p : ℕ) (s : HealthState) (x : ℕ) → Formed r p s → 0 < count_after s x
unfolding count_after
count-some r p s x f =
    split (λ (n : ℕ). 0 < n) (eqb s.seen 0) (λ _. omega arith)
    (λ t.
    let l : 0 < s.seen = pos_of_ne-zero (eqb-false s.seen 0 t) in
    split (λ (n : ℕ). 0 < n) (eqb x s.first) (λ _. omega arith) (λ _. f.counted l))

count-within : (r p : ℕ) (s : HealthState) (x : ℕ) → Formed r p s → count_after s x ≤ s.seen + 1
unfolding count_after
count-within r p s x f =
    split (λ (n : ℕ). n ≤ s.seen + 1) (eqb s.seen 0) (λ _. omega arith)
    (λ t. split (λ (n : ℕ). n ≤ s.seen + 1) (eqb x s.first) (λ _. omega (arith, f.within)) (λ _. omega (arith, f.within)))

pub passes-both : (r p : ℕ) (s : HealthState) (x : ℕ) → fails r p s x ≡ false → (run_after s x < r) × (count_after s x < p)
unfolding repetition_fails proportion_fails
passes-both r p s x e =
    let q = neither (leb r (run_after s x)) (leb p (count_after s x)) e in
    (leb-false r (run_after s x) q.0, leb-false p (count_after s x) q.1)

-- a state that passes, with cutoffs in range: its numbers are below 512
pub bounds : (r p : ℕ) (s : HealthState) → out_of_range r ≡ false → out_of_range p ≡ false → malformed r p s ≡ false
    → (s.run < 512) × (s.count < 512) × (s.seen < 512)
bounds r p s a b m =
    let f = formed r p s m in
    (omega (arith, (in-range r a).1, f.run-below), omega (arith, (in-range p b).1, f.count-below), f.unfilled)

-- ---- the states that pass it

pub fresh-passes : (r p : ℕ) → out_of_range r ≡ false → out_of_range p ≡ false → malformed r p fresh ≡ false
unfolding malformed fresh
fresh-passes r p a b = grind (arith, nat_tests)

pub noted-passes : (r p : ℕ) (s : HealthState) (x : ℕ) → out_of_range p ≡ false → malformed r p s ≡ false → fails r p s x ≡ false
    → malformed r p (noted s x) ≡ false
unfolding malformed repetition_fails proportion_fails noted run_after count_after
noted-passes r p s x range m e = grind (arith, nat_tests)
