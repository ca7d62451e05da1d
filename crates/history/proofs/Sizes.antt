-- What the reader's definitions say in numbers.
-- Assumes nothing.
use mathlib.Core.Path.{◌≡◌, refl, sym, ◌∙◌}
use mathlib.Core.Bool.{cond, ◌&&◌, true, false, true≢false}
use mathlib.Core.List.{List}
use Prim.Native.Nat.{ℕ, ◌+◌, ◌-◌, ◌≤◌, ◌<◌}
use lib.Dec.{eqb, ltb, leb}
use lib.ListN.{length, take, drop}
use Rattle.laws.proofs.Cases.{by-test, split}
use Rattle.pools.specs.Events.{max_data, header_length, gain}
use Rattle.history.specs.Reader.{entry, the_end, no_event, source_at, length_at, whole_at, size_at, data_at, entry_at}
use native.Mathlib.Omega.{arith}
use borrow.Author.Tests.{lt-ltb, le-leb, ltb-true, ltb-false}
use Rattle.history.proofs.Entries.{Tested, tested}

module _ (string : List ℕ) (place : ℕ) where
  pub whole_is : whole_at string place
      ≡ (ltb 0 (length_at string place) && leb (length_at string place) 32 && leb (place + (3 + length_at string place)) (length string))
  unfolding whole_at gain header_length max_data
  whole_is = refl

  pub entry_is : entry_at string place
      ≡ cond (eqb place (length string)) the_end
      (cond (whole_at string place)
      (entry (source_at string place) (place + 3) (place + (3 + length_at string place)))
      (no_event place))
  unfolding entry_at gain header_length
  entry_is = refl

  pub data_is : data_at string place ≡ take (cond (whole_at string place) (length_at string place) 0) (drop (place + 3) string)
  unfolding data_at size_at header_length
  data_is = refl

-- ---- the size

module _ (string : List ℕ) (place : ℕ) where
  untested : (Tested string place → ⊥) → 0 ≡ size_at string place
  unfolding size_at
  untested h = by-test (whole_at string place) (0 ≡ size_at string place) (λ t. absurd (h (tested string place t))) (λ t. rw t)

  pub size-short : length string < 4 → 0 ≡ size_at string place
  unfolding gain header_length
  size-short l = untested (λ t. omega (arith, t.some, t.fits))

  pub size-late : length string - 4 < place → 0 ≡ size_at string place
  unfolding gain header_length
  size-late l = untested (λ t. omega (arith, t.some, t.fits))

  pub size-large : (n : ℕ) → n ≡ length_at string place → 32 < n → 0 ≡ size_at string place
  unfolding max_data
  size-large n e l = untested (λ t. omega (arith, t.short))

  pub size-cut : (n : ℕ) → n ≡ length_at string place → length string - 3 - place < n → 0 ≡ size_at string place
  unfolding gain header_length
  size-cut n e l = untested (λ t. omega (arith, t.fits))

  whole_by : 0 < length_at string place → length_at string place ≤ 32 → place + (3 + length_at string place) ≤ length string
      → whole_at string place ≡ true
  unfolding whole_at gain header_length max_data
  whole_by a b d =
      rw (lt-ltb 0 (length_at string place) a, le-leb (length_at string place) 32 b, le-leb (place + (3 + length_at string place)) (length string) d)

  pub size-whole : (n : ℕ) → n ≡ length_at string place → 4 ≤ length string → place ≤ length string - 4 → n ≤ 32
      → n ≤ length string - 3 - place → n ≡ size_at string place
  unfolding size_at
  size-whole n e a b d f =
      split (λ (x : ℕ). n ≡ x) (whole_at string place) (λ _. e)
      (λ w.
      by-test (ltb 0 n) (n ≡ 0)
      (λ t.
      let l : 0 < n = ltb-true 0 n t in
      absurd (true≢false (sym (whole_by (omega arith) (omega arith) (omega arith)) ∙ w)))
      (λ t. let l : n ≤ 0 = ltb-false 0 n t in omega arith))

  -- ---- what a size says

  size_none : size_at string place ≡ 0 → whole_at string place ≡ false
  unfolding size_at
  size_none h =
      by-test (whole_at string place) (whole_at string place ≡ false)
      (λ t. let z : length_at string place ≡ 0 = rw t at h in absurd (omega (arith, (tested string place t).some)))
      (λ t. t)

  size-some : (size_at string place ≡ 0 → ⊥) → (whole_at string place ≡ true) × (size_at string place ≡ length_at string place)
  unfolding size_at
  size-some h =
      by-test (whole_at string place) ((whole_at string place ≡ true) × (size_at string place ≡ length_at string place))
      (λ t. (t, rw t))
      (λ t. absurd (h (rw t)))

  pub size_room : (n : ℕ) → n ≡ size_at string place → (n ≡ 0 → ⊥) → place + 3 + n ≤ length string
  unfolding gain header_length
  size_room n e h =
      let s = size-some (λ z. h (e ∙ z)) in
      omega (arith, s.1, (tested string place s.0).fits)
