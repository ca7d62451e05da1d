-- The blocks that a cipher makes of counters.
-- Assumes nothing.
use mathlib.Core.Path.{◌≡◌, refl, ap, ◌∙◌}
use mathlib.Core.List.{List, [], ◌∷◌, ◌++◌, append-nil, append_assoc}
use Prim.Native.Nat.{ℕ, zero, suc, ◌+◌, ◌*◌}
use native.Mathlib.Nat.{add-zero}
use native.Mathlib.Omega.{arith}
use lib.ListN.{length, length-append}
use Rattle.generator.specs.Counter.{counter_block}
use Rattle.generator.specs.Closed.{counters, enciphered}

module _ (f : List ℕ → List ℕ) where
  pub enciphered-none : (c : ℕ) → enciphered f (counters c 0) ≡ []
  unfolding enciphered counters
  enciphered-none c = refl

  pub enciphered-more : (c k : ℕ) → enciphered f (counters c (suc k)) ≡ enciphered f (counters c k) ++ f (counter_block (c + k))
  unfolding enciphered counters
  enciphered-more c zero = rw (append-nil, add-zero)
  enciphered-more c (suc k) =
      let e : c + 1 + k ≡ c + suc k = omega arith in
      ap (λ (l : List ℕ). f (counter_block c) ++ l) (enciphered-more (c + 1) k) ∙ rw (append_assoc, e)

  pub length-enciphered : ((b : List ℕ) → length (f b) ≡ 16) → (c k : ℕ) → length (enciphered f (counters c k)) ≡ 16 * k
  unfolding enciphered counters
  length-enciphered size c zero = refl
  length-enciphered size c (suc k) = rw length-append (omega (arith, size (counter_block c), length-enciphered size (c + 1) k))

  -- two ciphers that agree on every counter block make the same
  pub enciphered-ext : (g : List ℕ → List ℕ) → ((c : ℕ) → f (counter_block c) ≡ g (counter_block c))
      → (cs : List ℕ) → enciphered f cs ≡ enciphered g cs
  unfolding enciphered
  enciphered-ext g h [] = refl
  enciphered-ext g h (c ∷ cs) = rw (h c, enciphered-ext g h cs)
