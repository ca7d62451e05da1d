-- Messages in blocks: the laws of `blocks` and `absorb_from`.
-- Assumes nothing.
use Rattle.std.proofs.Common.{◌≡◌, ℕ, zero, suc, ◌+◌, ◌*◌, ◌/◌, ◌≤◌, List, ◌++◌, length, take, drop, refl, ap, ◌∙◌, ap₂, suc-add, zero-add, arith, length-append, length-drop, drop-drop, ◌-◌}
use Rattle.std.specs.List.{fold}
use Rattle.std.specs.Simd.{first_chunks}
use lib.Seq.{take-append-le, drop-append-le}
use Rattle.hash.specs.Block.{compress}
use Rattle.hash.specs.Sha256.{blocks}
use Rattle.hash.specs.Hasher.{absorb_from}
use native.Mathlib.Nat.{add-sub_cancel_left}

-- ---- the whole blocks of m, one after the other

pub fold-blocks : (n : ℕ) (h m : List ℕ) → fold compress h (first_chunks 64 n m) ≡ blocks n h m
unfolding blocks
fold-blocks zero h m = refl
fold-blocks (suc n) h m = fold-blocks n (compress h (take 64 m)) (drop 64 m)

-- ---- a message in two parts

-- what follows the first n blocks does not matter to them
blocks-append : (n : ℕ) (h m x : List ℕ) → n * 64 ≤ length m → blocks n h (m ++ x) ≡ blocks n h m
unfolding blocks
blocks-append zero h m x fits = refl
blocks-append (suc n) h m x fits =
    let one : 64 ≤ length m = omega arith in
    let rest : n * 64 ≤ length (drop 64 m) = rw length-drop (omega arith) in
    ap₂ (λ (b r : List ℕ). blocks n (compress h b) r) (take-append-le 64 m x one) (drop-append-le 64 m x one)
    ∙ blocks-append n (compress h (take 64 m)) (drop 64 m) x rest

blocks-add : (a b : ℕ) (h m : List ℕ) → blocks (a + b) h m ≡ blocks b (blocks a h m) (drop (a * 64) m)
unfolding blocks
blocks-add zero b h m = rw zero-add
blocks-add (suc a) b h m =
    let e : 64 + a * 64 ≡ suc a * 64 = omega arith in
    rw (suc-add, ← e, ← drop-drop (a * 64) 64 m) (blocks-add a b (compress h (take 64 m)) (drop 64 m))

module _ (n : ℕ) (h m x : List ℕ) (fits : n * 64 ≤ length m) where
  rest : drop (n * 64) (m ++ x) ≡ drop (n * 64) m ++ x
  rest = drop-append-le (n * 64) m x fits

  count : length (m ++ x) / 64 ≡ n + length (drop (n * 64) m ++ x) / 64
  count = simp (length-append, length-drop) (omega arith)

  -- the blocks of m ++ x are the first n blocks of m, and the blocks of what is left
  pub blocks-split : blocks (length (m ++ x) / 64) h (m ++ x) ≡ blocks (length (drop (n * 64) m ++ x) / 64) (blocks n h m) (drop (n * 64) m ++ x)
  blocks-split =
      ap (λ (k : ℕ). blocks k h (m ++ x)) count ∙ blocks-add n (length (drop (n * 64) m ++ x) / 64) h (m ++ x)
      ∙ rw (blocks-append n h m x fits, rest)

  same-tail : drop (length (drop (n * 64) m ++ x) / 64 * 64) (drop (n * 64) m ++ x) ≡ drop (length (m ++ x) / 64 * 64) (m ++ x)
  same-tail =
      let e : n * 64 + length (drop (n * 64) (m ++ x)) / 64 * 64 ≡ length (m ++ x) / 64 * 64 = rw (rest, count) (omega arith) in
      rw (← rest, drop-drop, e)

  pub after-split : (k : ℕ) → absorb_from (blocks n h m) (drop (n * 64) m ++ x) k ≡ absorb_from h (m ++ x) k
  unfolding absorb_from
  after-split k = cc (blocks-split, same-tail)

blocks_step : (h m : List ℕ) (at : ℕ) → at + 64 ≤ length m
    → blocks ((length m - at) / 64) h (drop at m) ≡ blocks ((length m - (at + 64)) / 64) (compress h (take 64 (drop at m))) (drop (at + 64) m)
unfolding blocks
blocks_step h m at fits =
    let e : (length m - at) / 64 ≡ suc ((length m - (at + 64)) / 64) = omega arith in
    rw (e, ← drop-drop 64 at m)

-- a turn: with h' after the block at `at`, what is left to hash starts 64 bytes later
pub blocks-turn : (h₀ h h' m : List ℕ) (at : ℕ) → at + 64 ≤ length m
    → blocks (length m / 64) h₀ m ≡ blocks ((length m - at) / 64) h (drop at m)
    → h' ≡ compress h (take (at + 64 - at) (drop at m))
    → blocks (length m / 64) h₀ m ≡ blocks ((length m - (at + 64)) / 64) h' (drop (at + 64) m)
blocks-turn h₀ h h' m at fits so_far next = so_far ∙ blocks_step h m at fits ∙ rw (next, add-sub_cancel_left)
