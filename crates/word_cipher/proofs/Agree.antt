-- The cipher by tables is the cipher of FIPS 197: on bytes, each word is a column of the state.
-- Assumes nothing.
use Prim.Native.Nat.{ℕ, zero, suc, ◌+◌, ◌*◌, ◌<◌}
use mathlib.Core.Path.{◌≡◌, refl, sym, ap, ap₂, ◌∙◌}
use mathlib.Core.List.{List}
use native.Mathlib.Omega.{arith}
use lib.Dec.{lit<}
use lib.ListN.{length}
use Rattle.laws.specs.Lists.{tabulate}
use Rattle.laws.proofs.Tabulate.{length-tabulate, get_d_tabulate, tabulate-ext}
use Rattle.cipher.specs.Field.{◌⊕◌, sub_byte}
use Rattle.cipher.specs.Aes.{at, Bytes, sub_bytes, shift_rows, mixed_byte, mix_columns, add_round_key, round, rounds, cipher_with}
use Rattle.cipher.proofs.Bytes.{sub-byte-lt, bytes_shifted, bytes-mixed, bytes-added, bytes-rounds}
use Rattle.word_cipher.specs.Words.{word, word_in, packed, unpacked}
use Rattle.word_cipher.specs.Tables.{entry, tables}
use Rattle.word_cipher.specs.Cipher.{mixed_word, last_word, columns, add_words, word_round, last_round, word_rounds, word_cipher}
use Rattle.word_cipher.specs.Claims.{SchedulesAgree}
use Rattle.word_cipher.proofs.Words.{list_ext, word-ext, xor-word, bytes-in, packed-at, unpacks, packs, bytes-unpacked}
use Rattle.word_cipher.proofs.Entries.{entry_at, substitutes, mix, spreads}

-- ---- a column, whose bytes of rows 0 to 3 stand in words i, j, k and l of the state

module _ (s : List ℕ) (h : Bytes s) (i j k l : ℕ) where
  abbrev a : ℕ
  a = sub_byte (at s (4 * i))

  abbrev b : ℕ
  b = sub_byte (at s (4 * j + 1))

  abbrev c : ℕ
  c = sub_byte (at s (4 * k + 2))

  abbrev d : ℕ
  d = sub_byte (at s (4 * l + 3))

  mixed-in : mixed_word tables (word_in s i) (word_in s j) (word_in s k) (word_in s l)
      ≡ word (mix a b c d) (mix b c d a) (mix c d a b) (mix d a b c)
  unfolding mixed_word entry
  mixed-in =
      let p = entry_at 0 (at s (4 * i)) (at s (4 * i)) (lit< tt) (h _) (omega arith) in
      let q = entry_at 1 (at s (4 * j + 1)) (256 + at s (4 * j + 1)) (lit< tt) (h _) (omega arith) in
      let r = entry_at 2 (at s (4 * k + 2)) (512 + at s (4 * k + 2)) (lit< tt) (h _) (omega arith) in
      let t = entry_at 3 (at s (4 * l + 3)) (768 + at s (4 * l + 3)) (lit< tt) (h _) (omega arith) in
      rw ((bytes-in s h i).0, (bytes-in s h j).1, (bytes-in s h k).2, (bytes-in s h l).3, p, q, r, t)
      (spreads _ _ _ _ (sub-byte-lt _) (sub-byte-lt _) (sub-byte-lt _) (sub-byte-lt _))

  last-in : last_word tables (word_in s i) (word_in s j) (word_in s k) (word_in s l) ≡ word a b c d
  unfolding last_word
  last-in =
      rw ((bytes-in s h i).0, (bytes-in s h j).1, (bytes-in s h k).2, (bytes-in s h l).3)
      (word-ext (substitutes _ (h _)) (substitutes _ (h _)) (substitutes _ (h _)) (substitutes _ (h _)))

-- ---- the steps of a round

mixed-columns : (s : List ℕ) → Bytes s → columns (mixed_word tables) (packed 4 s) ≡ packed 4 (mix_columns (shift_rows (sub_bytes s)))
unfolding columns packed tabulate mix_columns mixed_byte shift_rows sub_bytes
mixed-columns s h = list_ext (mixed-in s h 0 1 2 3) (mixed-in s h 1 2 3 0) (mixed-in s h 2 3 0 1) (mixed-in s h 3 0 1 2)

last-columns : (s : List ℕ) → Bytes s → columns (last_word tables) (packed 4 s) ≡ packed 4 (shift_rows (sub_bytes s))
unfolding columns packed tabulate shift_rows sub_bytes
last-columns s h = list_ext (last-in s h 0 1 2 3) (last-in s h 1 2 3 0) (last-in s h 2 3 0 1) (last-in s h 3 0 1 2)

added-at : (w s : List ℕ) (n i : ℕ) → i < 16 → at (add_round_key w n s) i ≡ at s i ⊕ at w (16 * n + i)
unfolding add_round_key
added-at w s n i h = get_d_tabulate (λ j. at s j ⊕ at w (16 * n + j)) 0 16 i h

-- byte i with its byte of round key n, which stands at j
added-byte : (w s : List ℕ) (n i j : ℕ) → i < 16 → j ≡ 16 * n + i → at s i ⊕ at w j ≡ at (add_round_key w n s) i
added-byte w s n i j h e = ap (λ (k : ℕ). at s i ⊕ at w k) e ∙ sym (added-at w s n i h)

added-word : (w s : List ℕ) (n c : ℕ) → c < 4 → Bytes w → Bytes s → word_in s c ⊕ word_in w (4 * n + c) ≡ word_in (add_round_key w n s) c
added-word w s n c l p h =
    xor-word _ _ _ _ _ _ _ _ (h _) (h _) (h _) (p _) (p _) (p _)
    ∙ word-ext (added-byte w s n (4 * c) _ (omega arith) (omega arith)) (added-byte w s n (4 * c + 1) _ (omega arith) (omega arith))
    (added-byte w s n (4 * c + 2) _ (omega arith) (omega arith)) (added-byte w s n (4 * c + 3) _ (omega arith) (omega arith))

added : (w s : List ℕ) (n : ℕ) → n < 15 → Bytes w → Bytes s → add_words (packed 60 w) n (packed 4 s) ≡ packed 4 (add_round_key w n s)
unfolding add_words packed
added w s n b p h =
    tabulate-ext _ _ 4
    (λ c l. ap₂ ◌⊕◌ (packed-at 4 c s l) (packed-at 60 (4 * n + c) w (omega arith)) ∙ added-word w s n c l p h)

-- ---- rounds

round-agrees : (w s : List ℕ) (n : ℕ) → n < 15 → Bytes w → Bytes s
    → word_round tables (packed 60 w) n (packed 4 s) ≡ packed 4 (round w n s)
unfolding word_round round
round-agrees w s n b p h =
    ap (add_words (packed 60 w) n) (mixed-columns s h) ∙ added w (mix_columns (shift_rows (sub_bytes s))) n b p (bytes-mixed _ (bytes_shifted s))

rounds-agree : (w s : List ℕ) (n : ℕ) → n < 15 → Bytes w → Bytes s
    → word_rounds tables (packed 60 w) n (packed 4 s) ≡ packed 4 (rounds w n s)
unfolding word_rounds rounds
rounds-agree w s zero b p h = refl
rounds-agree w s (suc n) b p h =
    ap (word_round tables (packed 60 w) (suc n)) (rounds-agree w s n (omega arith) p h)
    ∙ round-agrees w (rounds w n s) (suc n) b p (bytes-rounds w s n p h)

last-agrees : (w s : List ℕ) → Bytes w → Bytes s
    → last_round tables (packed 60 w) (packed 4 s) ≡ packed 4 (add_round_key w 14 (shift_rows (sub_bytes s)))
unfolding last_round
last-agrees w s p h =
    ap (add_words (packed 60 w) 14) (last-columns s h) ∙ added w (shift_rows (sub_bytes s)) 14 (lit< tt) p (bytes_shifted s)

length-added : (w s : List ℕ) (n : ℕ) → length (add_round_key w n s) ≡ 16
unfolding add_round_key
length-added w s n = length-tabulate _ 16

-- under a schedule of bytes
pub agrees : (w s : List ℕ) → Bytes w → Bytes s → word_cipher tables (packed 60 w) s ≡ cipher_with w s
unfolding word_cipher cipher_with
agrees w s p h =
    let s₀ : List ℕ = add_round_key w 0 s in
    let s₁ : List ℕ = rounds w 13 s₀ in
    let s₂ : List ℕ = shift_rows (sub_bytes s₁) in
    let h₀ : Bytes s₀ = bytes-added w s 0 p h in
    ap (λ (u : List ℕ). unpacked 16 (last_round tables (packed 60 w) u))
    (ap (word_rounds tables (packed 60 w) 13) (added w s 0 (lit< tt) p h) ∙ rounds-agree w s₀ 13 (lit< tt) p h₀)
    ∙ ap (unpacked 16) (last-agrees w s₁ p (bytes-rounds w s₀ 13 p h₀))
    ∙ unpacks 4 (add_round_key w 14 s₂) (bytes-added w s₂ 14 p (bytes_shifted s₁)) (length-added w s₂ 14)

-- under any words: they are those of their bytes
pub schedules-agree : SchedulesAgree
schedules-agree w s l b h =
    ap (λ (v : List ℕ). word_cipher tables v s) (sym (packs 60 w l b)) ∙ agrees (unpacked 240 w) s (bytes-unpacked 240 w) h
