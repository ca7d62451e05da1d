-- AES-256 by tables: a state is four words, its columns. Step by step what FIPS 197, 5.1, does on bytes.
-- The steps speak of any list t of words as the tables and any list w as the schedule; Claims.antt takes those of Tables.antt and a key's.
-- Assumes nothing.
use Rattle.std.specs.Prelude.{ℕ, zero, suc, ◌+◌, ◌*◌, ◌%◌, List}
use Rattle.laws.specs.Lists.{tabulate}
use Rattle.cipher.specs.Field.{◌⊕◌}
use Rattle.cipher.specs.Aes.{at}
use Rattle.word_cipher.specs.Words.{word, byte_of, packed, unpacked}

-- A column substituted and mixed, from the words p, q, r, s that hold its bytes of rows 0 to 3: one entry of each table.
unfoldable pub mixed_word : List ℕ → ℕ → ℕ → ℕ → ℕ → ℕ
mixed_word t p q r s = at t (byte_of p 0) ⊕ at t (256 + byte_of q 1) ⊕ at t (512 + byte_of r 2) ⊕ at t (768 + byte_of s 3)

-- The substitution of a byte: byte 1 of its entry in the table of row 0, which is not multiplied.
unfoldable pub substituted : List ℕ → ℕ → ℕ
substituted t x = byte_of (at t x) 1

-- The same column substituted and not mixed, for the last round.
unfoldable pub last_word : List ℕ → ℕ → ℕ → ℕ → ℕ → ℕ
last_word t p q r s =
    word (substituted t (byte_of p 0)) (substituted t (byte_of q 1)) (substituted t (byte_of r 2)) (substituted t (byte_of s 3))

-- The four columns that g makes of a state u, after ShiftRows (5.1.2): the byte of row k comes from k columns further on.
unfoldable pub columns : (ℕ → ℕ → ℕ → ℕ → ℕ) → List ℕ → List ℕ
columns g u = tabulate (λ c. g (at u c) (at u ((c + 1) % 4)) (at u ((c + 2) % 4)) (at u ((c + 3) % 4))) 4

-- AddRoundKey (5.1.4) with round key n of the schedule w.
unfoldable pub add_words : List ℕ → ℕ → List ℕ → List ℕ
add_words w n u = tabulate (λ c. at u c ⊕ at w (4 * n + c)) 4

-- Round n, and the last round with its key.
unfoldable pub word_round : List ℕ → List ℕ → ℕ → List ℕ → List ℕ
word_round t w n u = add_words w n (columns (mixed_word t) u)

unfoldable pub last_round : List ℕ → List ℕ → List ℕ → List ℕ
last_round t w u = add_words w 14 (columns (last_word t) u)

-- Rounds 1 to n.
unfoldable pub word_rounds : List ℕ → List ℕ → ℕ → List ℕ → List ℕ
word_rounds t w zero u = u
word_rounds t w (suc n) u = word_round t w (suc n) (word_rounds t w n u)

-- A block enciphered with the tables t under the schedule w: round key 0, 13 rounds and the last.
unfoldable pub word_cipher : List ℕ → List ℕ → List ℕ → List ℕ
word_cipher t w block = unpacked 16 (last_round t w (word_rounds t w 13 (add_words w 0 (packed 4 block))))
