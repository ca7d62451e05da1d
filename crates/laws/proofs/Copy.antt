-- What a copy to the front of a list is, as much as there is room for, and a loop that makes it one by one.
-- Assumes nothing.
use mathlib.Core.Path.{◌≡◌, refl, ◌∙◌}
use mathlib.Core.List.{List, ◌++◌, append-nil}
use Prim.Native.Nat.{ℕ, ◌+◌, ◌-◌, ◌≤◌, ◌<◌, min}
use native.Mathlib.Nat.{zero-add, le_of_eq, min-eq_left}
use native.Mathlib.Numerals.{add-one}
use native.Mathlib.Decide.{dec_le}
use native.Mathlib.Omega.{arith}
use lib.ListN.{length, get_or, take, drop, set, length-set, length-drop, drop_of_length-le}
use lib.Seq.{paste-suc, take_all}
use Rattle.laws.specs.Lists.{overwrite}

-- ---- a loop that copies s to the front of d, as much as there is room for

-- i bytes are copied
abbrev pub Copied : List ℕ → List ℕ → List ℕ → ℕ → Type 0
Copied s d₀ d i = (i ≤ length s) × (i ≤ length d₀) × (length d ≡ length d₀) × (d ≡ take i s ++ drop i d₀)

pub copied_none : (s d : List ℕ) → Copied s d d 0
copied_none s d = (omega arith, omega arith, refl, refl)

pub copied_more : (s d₀ d : List ℕ) (i : ℕ) → Copied s d₀ d i → i < length s → i < length d₀ → Copied s d₀ (set d i (get_or s i 0)) (i + 1)
copied_more s d₀ d i (b, b', l, e) h h' = (
  omega arith,
  omega arith,
  length-set d i (get_or s i 0) ∙ l,
  rw (e, add-one) (simp zero-add at (paste-suc d₀ 0 s i 0 (omega arith) h)),
)

-- s is at its end
pub copied_all : (s d₀ d : List ℕ) (i : ℕ) → Copied s d₀ d i → length s ≤ i → d ≡ overwrite d₀ s
unfolding overwrite
copied_all s d₀ d i (b, b', l, e) h =
    let n : i ≡ length s = omega arith in
    e ∙ rw (n, take_all (length s) s (omega arith), take_all (length d₀) s (omega arith)) refl

-- d is at its end
pub copied-cut : (s d₀ d : List ℕ) (i : ℕ) → Copied s d₀ d i → length d₀ ≤ i → d ≡ overwrite d₀ s
unfolding overwrite
copied-cut s d₀ d i (b, b', l, e) h =
    let n : i ≡ length d₀ = omega arith in
    e ∙ rw (n, drop_of_length-le d₀ {i = length d₀} (omega arith), drop_of_length-le d₀ {i = length s} (omega arith)) refl

-- ---- what such a copy is

-- all of s fits
pub overwrite-fits : {A : Type 0} (d s : List A) → length s ≤ length d → overwrite d s ≡ s ++ drop (length s) d
unfolding overwrite
overwrite-fits d s h = rw (take_all (length d) s h)

-- all of d is written over
pub overwrite-cut : {A : Type 0} (d s : List A) → length d ≤ length s → overwrite d s ≡ take (length d) s
unfolding overwrite
overwrite-cut d s h = rw (drop_of_length-le d {i = length s} h, append-nil)

-- the part of a list from d to its end
pub part_end : {A : Type 0} (d : ℕ) (m : List A) → take (length m - d) (drop d m) ≡ drop d m
part_end d m = take_all (length m - d) (drop d m) (le_of_eq (length-drop d m))

-- the first n elements of both, where n is all that fits
pub copied : {A : Type 0} (d s : List A) (n : ℕ) → n ≡ min (length s) (length d) → take n s ++ drop n d ≡ overwrite d s
unfolding overwrite
copied d s n e =
    elim (dec_le (length s) (length d)) [
      | yes h ↦
          let all : n ≡ length s = e ∙ min-eq_left h in
          rw (all, take_all (length s) s (omega arith), take_all (length d) s h) refl
      | no h ↦
          let cut : n ≡ length d = omega arith in
          rw (cut, drop_of_length-le d {i = length d} (omega arith), drop_of_length-le d {i = length s} (omega arith)) refl
    ]
