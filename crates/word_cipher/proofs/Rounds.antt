-- The rounds of the code, two a turn.
-- Assumes nothing.
use Prim.Native.Nat.{ℕ, suc, ◌+◌, ◌-◌, ◌*◌, ◌≤◌}
use mathlib.Core.Path.{◌≡◌, refl}
use mathlib.Core.List.{List, [], ◌∷◌}
use native.Mathlib.Omega.{arith}
use Rattle.word_cipher.specs.Cipher.{word_round, word_rounds, columns, add_words}
use native.Mathlib.Nat.{add-zero}
use Rattle.laws.specs.Lists.{tabulate}
use Rattle.cipher.specs.Field.{◌⊕◌}
use Rattle.cipher.specs.Aes.{at}

-- two rounds more, as a turn of the loop makes them
pub two-in-a-turn : (t w u₀ u m v : List ℕ) (n : ℕ) → u ≡ word_rounds t w (2 * n) u₀
    → m ≡ word_round t w (2 * n + 1) u → v ≡ word_round t w (2 * n + 2) m → v ≡ word_rounds t w (2 * (n + 1)) u₀
unfolding word_rounds
two-in-a-turn t w u₀ u m v n e f g =
    let k : 2 * (n + 1) ≡ suc (suc (2 * n)) = omega arith in
    let k' : suc (2 * n) ≡ 2 * n + 1 = omega arith in
    let k'' : suc (2 * n + 1) ≡ 2 * n + 2 = omega arith in
    rw (k, k', k'', ← e, ← f) g

-- two rounds more
pub two-more : (t w u₀ u m v : List ℕ) (n : ℕ) → 1 ≤ n → u ≡ word_rounds t w (n - 1) u₀
    → m ≡ word_round t w n u → v ≡ word_round t w (n + 1) m → v ≡ word_rounds t w (n + 2 - 1) u₀
unfolding word_rounds
two-more t w u₀ u m v n h e f g =
    let k : n + 2 - 1 ≡ suc (suc (n - 1)) = omega arith in
    let k' : suc (n - 1) ≡ n = omega arith in
    let k'' : suc n ≡ n + 1 = omega arith in
    rw (k, k', k'', ← e, ← f) g

-- four columns, each by its call, with the words of round key n
pub columns-are : (g : ℕ → ℕ → ℕ → ℕ → ℕ) (w : List ℕ) (n : ℕ) (u : List ℕ) (a b c d : ℕ)
    → a ≡ g (at u 0) (at u 1) (at u 2) (at u 3) → b ≡ g (at u 1) (at u 2) (at u 3) (at u 0)
    → c ≡ g (at u 2) (at u 3) (at u 0) (at u 1) → d ≡ g (at u 3) (at u 0) (at u 1) (at u 2)
    → (a ⊕ at w (4 * n)) ∷ (b ⊕ at w (4 * n + 1)) ∷ (c ⊕ at w (4 * n + 2)) ∷ (d ⊕ at w (4 * n + 3)) ∷ []
    ≡ add_words w n (columns g u)
unfolding add_words columns tabulate
columns-are g w n u a b c d p q r s = rw (p, q, r, s, add-zero) refl
