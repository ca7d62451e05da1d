-- A buffer that blocks are laid over in turn, each into its part of 16 bytes, the last cut short.
-- Assumes nothing.
use mathlib.Core.Path.{◌≡◌, refl, sym, ◌∙◌}
use mathlib.Core.List.{List, [], ◌++◌, append-nil, append_assoc}
use Prim.Native.Nat.{ℕ, ◌+◌, ◌-◌, ◌*◌, ◌≤◌, ◌<◌, min}
use native.Mathlib.Nat.{min-eq_left, min-eq_right}
use native.Mathlib.Decide.{dec_le}
use native.Mathlib.Omega.{arith}
use lib.ListN.{length, take, drop, length-append, length-take, length-drop, drop_of_length-le}
use lib.Seq.{take_all, take_at, drop_at, drop-drop, take-append-add, drop-length}
use Rattle.laws.specs.Lists.{overwrite}
use Rattle.laws.specs.Blocks.{block_count}
use Rattle.laws.proofs.Copy.{overwrite-cut}

-- d with x in front, as long as d
abbrev pub over : List ℕ → List ℕ → List ℕ
over x d = take (length d) (x ++ drop (length x) d)

-- the part of at most 16 elements behind x is overwritten by the front of y
module _ (x y d : List ℕ) (room : length x < length d) (block : length y ≡ 16) where
  abbrev part_length : ℕ
  part_length = min 16 (length d - length x)

  within : over x d ≡ x ++ drop (length x) d
  within = take_all (length d) (x ++ drop (length x) d) (simp (length-append, length-drop) (omega arith))

  joined : length (x ++ y) ≡ length x + 16
  joined = rw length-append (omega arith)

  over-part : take (length x) (over x d) ++ (take part_length y ++ drop part_length (drop (length x) (over x d))) ≡ over (x ++ y) d
  over-part =
      rw (within, take_at x (drop (length x) d) (length x) refl, drop_at x (drop (length x) d) (length x) refl, drop-drop)
      (elim (dec_le 16 (length d - length x)) [
        | yes h ↦
            rw (
              min-eq_left h,
              joined,
              take_all 16 y (omega arith),
              take_all (length d) (x ++ y ++ drop (length x + 16) d) (simp (length-append, length-drop) (omega arith)),
              append_assoc,
            )
        | no h ↦
            let e : length x + (length d - length x) ≡ length d = omega arith in
            rw (
              min-eq_right {n = length d - length x} {m = 16} (omega arith),
              e,
              drop-length,
              append-nil,
              joined,
              drop_of_length-le d {i = length x + 16} (omega arith),
              append-nil,
            )
            (sym (rw e at (take-append-add x y (length d - length x))))
      ])

length-over : (x d : List ℕ) → length (over x d) ≡ length d
length-over x d = simp (length-take, length-append, length-drop) (omega arith)

-- the blocks x are laid over the buffer d₀, and what then stands in it is d
abbrev pub Laid : List ℕ → List ℕ → List ℕ → Type 0
Laid x d₀ d = (length d ≡ length d₀) × (d ≡ over x d₀)

pub laid-none : (d : List ℕ) → Laid [] d d
laid-none d = (refl, sym (take_all (length d) d (omega arith)))

-- turn k: its part is lent, which ends at e, and the block y is laid over that
pub laid-more : (x y d₀ d ys : List ℕ) (k e : ℕ) → Laid x d₀ d → length x ≡ 16 * k → length y ≡ 16 → k < block_count (length d₀)
    → e ≡ 16 * k + min 16 (length d₀ - 16 * k) → ys ≡ overwrite (take (e - 16 * k) (drop (16 * k) d)) y
    → Laid (x ++ y) d₀ (take (16 * k) d ++ (ys ++ drop (e - 16 * k) (drop (16 * k) d)))
unfolding block_count
laid-more x y d₀ d ys k e (long, laid) size block turn end written =
    let room : length x < length d₀ = omega arith in
    let n : e - 16 * k ≡ min 16 (length d₀ - length x) = omega arith in
    let lent : length (take (e - 16 * k) (drop (16 * k) d)) ≡ e - 16 * k = simp (length-take, length-drop) (omega arith) in
    let part : ys ≡ take (e - 16 * k) y = written ∙ overwrite-cut _ y (omega arith) ∙ rw lent in
    let all : take (16 * k) d ++ (ys ++ drop (e - 16 * k) (drop (16 * k) d)) ≡ over (x ++ y) d₀ =
    rw (part, n, laid, ← size) (over-part x y d₀ room block) in
    (rw all (length-over (x ++ y) d₀), all)

-- after the last turn the buffer holds the blocks' front
pub laid-all : (x d₀ d : List ℕ) (k : ℕ) → Laid x d₀ d → length x ≡ 16 * k → block_count (length d₀) ≤ k → d ≡ take (length d₀) x
unfolding block_count
laid-all x d₀ d k (long, laid) size turns = laid ∙ rw (drop_of_length-le d₀ {i = length x} (omega arith), append-nil)
