-- The hash computation on one block: FIPS 180-4, 5.2.1 and 6.2.2.
-- A block is 64 bytes and a hash value 8 words. Past its end a list reads as 0.
-- Assumes nothing.
use Rattle.std.specs.Prelude.{ℕ, zero, suc, ◌+◌, ◌-◌, ◌*◌, cond, List, [], ◌∷◌, ◌++◌, nat_lt, slice_index, slice_index_or}
use Rattle.hash.specs.Word.{◌⊞◌, Ch, Maj, Σ₀, Σ₁, σ₀, σ₁}
use Rattle.hash.specs.Constants.{K}
use Rattle.hash.specs.declared.block.Working.{Working}

-- word t of a block: four bytes, the most significant first (5.2.1)
abbrev pub block_word : List ℕ → ℕ → ℕ
block_word m t = ((slice_index m (t * 4) * 256 + slice_index m (t * 4 + 1)) * 256 + slice_index m (t * 4 + 2)) * 256 + slice_index m (t * 4 + 3)

-- word t of the message schedule from the words w before it, for t from 16 to 63 (6.2.2, 1)
unfoldable pub next_word : List ℕ → ℕ → ℕ
next_word w t = σ₁ (slice_index w (t - 2)) ⊞ slice_index_or w (t - 7) 0 ⊞ σ₀ (slice_index w (t - 15)) ⊞ slice_index_or w (t - 16) 0

-- the first t words of the message schedule of block m (6.2.2, 1)
unfoldable pub schedule : List ℕ → ℕ → List ℕ
schedule m zero = []
schedule m (suc t) = schedule m t ++ (cond (nat_lt t 16) (block_word m t) (next_word (schedule m t) t) ∷ [])

-- the working variables at the start, from the hash value h (6.2.2, 2)
abbrev pub initial_working : List ℕ → Working
initial_working h =
    record {
      a = slice_index h 0;
      b = slice_index h 1;
      c = slice_index h 2;
      d = slice_index h 3;
      e = slice_index h 4;
      f = slice_index h 5;
      g = slice_index h 6;
      h = slice_index h 7;
    }

-- the temporary words of a round with the constant k and the schedule's word w (6.2.2, 3)
unfoldable pub T₁ : Working → ℕ → ℕ → ℕ
T₁ s k w = s.h ⊞ Σ₁ s.e ⊞ Ch s.e s.f s.g ⊞ k ⊞ w

unfoldable pub T₂ : Working → ℕ
T₂ s = Σ₀ s.a ⊞ Maj s.a s.b s.c

-- one round (6.2.2, 3)
unfoldable pub round : Working → ℕ → ℕ → Working
round s k w =
    record {
      h = s.g;
      g = s.f;
      f = s.e;
      e = s.d ⊞ T₁ s k w;
      d = s.c;
      c = s.b;
      b = s.a;
      a = T₁ s k w ⊞ T₂ s;
    }

-- n rounds with the schedule w, the first of them round t (6.2.2, 3)
unfoldable pub rounds : List ℕ → ℕ → ℕ → Working → Working
rounds w t zero s = s
rounds w t (suc n) s = round (rounds w t n s) (slice_index K (t + n)) (slice_index w (t + n))

-- the hash value h with the working variables added (6.2.2, 4)
abbrev pub add_working : List ℕ → Working → List ℕ
add_working h s =
    (slice_index_or h 0 0 ⊞ s.a) ∷ (slice_index_or h 1 0 ⊞ s.b) ∷ (slice_index_or h 2 0 ⊞ s.c) ∷ (slice_index_or h 3 0 ⊞ s.d)
    ∷ (slice_index_or h 4 0 ⊞ s.e) ∷ (slice_index_or h 5 0 ⊞ s.f) ∷ (slice_index_or h 6 0 ⊞ s.g) ∷ (slice_index_or h 7 0 ⊞ s.h) ∷ []

-- the next hash value, from the hash value h and the block m (6.2.2)
unfoldable pub compress : List ℕ → List ℕ → List ℕ
compress h m = add_working h (rounds (schedule m 64) 0 64 (initial_working h))
