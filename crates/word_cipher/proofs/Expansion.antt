-- The schedule of words is that of FIPS 197, four words at a time.
-- Assumes nothing.
use Prim.Native.Nat.{ℕ, suc, ◌+◌, ◌-◌, ◌*◌, ◌/◌, ◌%◌, ◌≤◌, ◌<◌}
use mathlib.Core.Path.{◌≡◌, refl, sym, ap, ap₂, ◌∙◌}
use mathlib.Core.Logic.{⊎_elim}
use mathlib.Core.List.{List}
use native.Mathlib.Nat.{eq-or-lt_of_le}
use native.Mathlib.Omega.{arith}
use borrow.Author.Tests.{ne_eqb}
use lib.ListN.{length, take, set, length-set}
use lib.Seq.{get_or-take, get_or-set_same, get_or-set_other, ext_get_or}
use Rattle.laws.specs.Lists.{tabulate}
use Rattle.laws.proofs.Tabulate.{length-tabulate, get_d_tabulate, Filled}
use Rattle.cipher.specs.Field.{◌⊕◌, sub_byte}
use Rattle.cipher.specs.Aes.{at, Bytes, word_at, xor_word, sub_word, rot_word, rcon, x_power, temp, next_word, key_expansion}
use Rattle.cipher.proofs.Bytes.{bytes-xor-word, bytes-sub-word, bytes-rcon, bytes-word-at, bytes-key-expansion}
use Rattle.cipher.proofs.ScheduleLaws.{key-front, next-at}
use Rattle.word_cipher.specs.Words.{word, byte_of, word_in, packed}
use Rattle.word_cipher.specs.Schedule.{sub_words, rotated_temp, four_more, Expands}
use Rattle.word_cipher.proofs.Words.{xor-word, word-ext, bytes-in, packed-at}

-- ---- a word of the schedule of bytes as a number

abbrev list_word : List ℕ → ℕ
list_word t = word (at t 0) (at t 1) (at t 2) (at t 3)

xor-list : (s t : List ℕ) → Bytes s → Bytes t → list_word (xor_word s t) ≡ list_word s ⊕ list_word t
xor-list s t p q = sym (xor-word _ _ _ _ _ _ _ _ (p 0) (p 1) (p 2) (q 0) (q 1) (q 2))

-- SubWord of bytes of a word x of the schedule
substituted-byte : (w : List ℕ) (i x k y : ℕ) → x ≡ word_in w i → byte_of (word_in w i) k ≡ y → sub_byte y ≡ sub_byte (byte_of x k)
substituted-byte w i x k y e f = ap sub_byte (sym f ∙ ap (λ (z : ℕ). byte_of z k) (sym e))

module _ (w : List ℕ) (p : Bytes w) (i x : ℕ) (e : x ≡ word_in w i) where
  plain_word : list_word (sub_word (word_at w i)) ≡ sub_words x 0 1 2 3
  unfolding sub_words
  plain_word =
      let b = bytes-in w p i in
      word-ext (substituted-byte w i x 0 _ e b.0) (substituted-byte w i x 1 _ e b.1)
      (substituted-byte w i x 2 _ e b.2) (substituted-byte w i x 3 _ e b.3)

  turned-word : list_word (sub_word (rot_word (word_at w i))) ≡ sub_words x 1 2 3 0
  unfolding sub_words
  turned-word =
      let b = bytes-in w p i in
      word-ext (substituted-byte w i x 1 _ e b.1) (substituted-byte w i x 2 _ e b.2)
      (substituted-byte w i x 3 _ e b.3) (substituted-byte w i x 0 _ e b.0)

rcon-word : (n : ℕ) → list_word (rcon n) ≡ x_power (n - 1)
unfolding word
rcon-word n = omega arith

rotated-word : (w : List ℕ) (i x : ℕ) → Bytes w → x ≡ word_in w (i - 1)
    → list_word (xor_word (sub_word (rot_word (word_at w (i - 1)))) (rcon (i / 8))) ≡ rotated_temp i x
unfolding rotated_temp
rotated-word w i x p e =
    let t : List ℕ = rot_word (word_at w (i - 1)) in
    xor-list (sub_word t) (rcon (i / 8)) (bytes-sub-word t) (bytes-rcon (i / 8)) ∙ ap₂ ◌⊕◌ (turned-word w p (i - 1) x e) (rcon-word (i / 8))

-- ---- temp, by the place

temp-rotated : (i : ℕ) (t : List ℕ) → i % 8 ≡ 0 → temp i t ≡ xor_word (sub_word (rot_word t)) (rcon (i / 8))
unfolding temp
temp-rotated i t e = rw e refl

temp-plain : (i : ℕ) (t : List ℕ) → i % 8 ≡ 4 → temp i t ≡ sub_word t
unfolding temp
temp-plain i t e = rw e refl

temp-other : (i : ℕ) (t : List ℕ) → (i % 8 ≡ 0 → ⊥) → (i % 8 ≡ 4 → ⊥) → temp i t ≡ t
unfolding temp
temp-other i t f g = rw (ne_eqb (i % 8) 0 f, ne_eqb (i % 8) 4 g) refl

-- ---- the words stored so far

-- the words of w before i are those of the schedule s
abbrev Stored : List ℕ → List ℕ → ℕ → Type 0
Stored s w i = (j : ℕ) → j < i → at w j ≡ word_in s j

stored-set : (s w : List ℕ) (i k v : ℕ) → k ≡ suc i → i < length w → Stored s w i → v ≡ word_in s i → Stored s (set w i v) k
stored-set s w i k v e l p q j h =
    let m : j ≤ i = omega arith in
    ⊎_elim
    (λ (f : j ≡ i). rw f (get_or-set_same w i v 0 l ∙ q))
    (λ (f : j < i). get_or-set_other w i j v 0 (λ (g : j ≡ i). omega arith) ∙ p j f)
    (eq-or-lt_of_le m)

four-stored : (s w : List ℕ) (i t : ℕ) → 8 ≤ i → i ≤ 56 → length w ≡ 60 → Stored s w i
    → word_in s i ≡ word_in s (i - 8) ⊕ t
    → word_in s (i + 1) ≡ word_in s (i - 7) ⊕ word_in s i
    → word_in s (i + 2) ≡ word_in s (i - 6) ⊕ word_in s (i + 1)
    → word_in s (i + 3) ≡ word_in s (i - 5) ⊕ word_in s (i + 2)
    → Stored s (four_more w i t) (i + 4)
unfolding four_more
four-stored s w i t low high l p e0 e1 e2 e3 =
    let x0 : ℕ = at w (i - 8) ⊕ t in
    let x1 : ℕ = at w (i - 7) ⊕ x0 in
    let x2 : ℕ = at w (i - 6) ⊕ x1 in
    let x3 : ℕ = at w (i - 5) ⊕ x2 in
    let a : x0 ≡ word_in s i = ap (λ (x : ℕ). x ⊕ t) (p (i - 8) (omega arith)) ∙ sym e0 in
    let b : x1 ≡ word_in s (i + 1) = ap₂ ◌⊕◌ (p (i - 7) (omega arith)) a ∙ sym e1 in
    let c : x2 ≡ word_in s (i + 2) = ap₂ ◌⊕◌ (p (i - 6) (omega arith)) b ∙ sym e2 in
    let d : x3 ≡ word_in s (i + 3) = ap₂ ◌⊕◌ (p (i - 5) (omega arith)) c ∙ sym e3 in
    let w1 : List ℕ = set w i x0 in
    let w2 : List ℕ = set w1 (i + 1) x1 in
    let w3 : List ℕ = set w2 (i + 2) x2 in
    let l1 : length w1 ≡ 60 = length-set w i x0 ∙ l in
    let l2 : length w2 ≡ 60 = length-set w1 (i + 1) x1 ∙ l1 in
    let l3 : length w3 ≡ 60 = length-set w2 (i + 2) x2 ∙ l2 in
    stored-set s w3 (i + 3) (i + 4) x3 (omega arith) (omega arith)
    (stored-set s w2 (i + 2) (i + 3) x2 (omega arith) (omega arith)
    (stored-set s w1 (i + 1) (i + 2) x1 (omega arith) (omega arith)
    (stored-set s w i (i + 1) x0 (omega arith) (omega arith) p a) b) c) d

pub length-four : (w : List ℕ) (i t : ℕ) → length (four_more w i t) ≡ length w
unfolding four_more
length-four w i t = simp length-set refl

-- ---- four words more of a key's schedule

module _ (key : List ℕ) (n : length key ≡ 32) (b : Bytes key) where
  abbrev s : List ℕ
  s = key_expansion key

  bytes : Bytes (key_expansion key)
  bytes = bytes-key-expansion key b

  -- word i, where temp is x
  word_next : (x : List ℕ) (i : ℕ) → 8 ≤ i → i < 60 → temp i (word_at s (i - 1)) ≡ x → Bytes x
      → word_in s i ≡ word_in s (i - 8) ⊕ list_word x
  unfolding next_word
  word_next x i h l e bx =
      let place : 8 + (i - 8) ≡ i = omega arith in
      ap list_word (rw place at (next-at key (i - 8) n (omega arith)))
      ∙ ap (λ (t : List ℕ). list_word (xor_word (word_at s (i - 8)) t)) e
      ∙ xor-list (word_at s (i - 8)) x (bytes-word-at s (i - 8) bytes) bx

  -- a word whose place 4 does not divide: temp is the word before
  other_word : (i k m : ℕ) → 8 ≤ i → i < 60 → 0 < i % 4 → k ≡ i - 8 → m ≡ i - 1 → word_in s i ≡ word_in s k ⊕ word_in s m
  other_word i k m low high e f g =
      let same = temp-other i (word_at s (i - 1)) (λ (z : i % 8 ≡ 0). omega arith) (λ (z : i % 8 ≡ 4). omega arith) in
      word_next (word_at s (i - 1)) i low high same (bytes-word-at s (i - 1) bytes)
      ∙ ap₂ (λ (x y : ℕ). word_in s x ⊕ word_in s y) (sym f) (sym g)

  four-words : (w : List ℕ) (i t : ℕ) → 8 ≤ i → i ≤ 56 → i % 4 ≡ 0 → length w ≡ 60 → Stored s w i
      → word_in s i ≡ word_in s (i - 8) ⊕ t → Stored s (four_more w i t) (i + 4)
  four-words w i t low high q l p e =
      four-stored s w i t low high l p e
      (other_word (i + 1) (i - 7) i (omega arith) (omega arith) (omega arith) (omega arith) (omega arith))
      (other_word (i + 2) (i - 6) (i + 1) (omega arith) (omega arith) (omega arith) (omega arith) (omega arith))
      (other_word (i + 3) (i - 5) (i + 2) (omega arith) (omega arith) (omega arith) (omega arith) (omega arith))

  -- from temp with RotWord and the round constant, where 8 divides i
  rotated-four : (w : List ℕ) (i t : ℕ) → 8 ≤ i → i ≤ 56 → i % 8 ≡ 0 → length w ≡ 60 → Stored s w i
      → t ≡ rotated_temp i (at w (i - 1)) → Stored s (four_more w i t) (i + 4)
  rotated-four w i t low high q l p e =
      let x : List ℕ = sub_word (rot_word (word_at s (i - 1))) in
      let bx : Bytes (xor_word x (rcon (i / 8))) = bytes-xor-word x (rcon (i / 8)) (bytes-sub-word (rot_word (word_at s (i - 1)))) (bytes-rcon (i / 8)) in
      four-words w i t low high (omega arith) l p
      (word_next (xor_word x (rcon (i / 8))) i low (omega arith) (temp-rotated i (word_at s (i - 1)) q) bx
      ∙ ap (λ (y : ℕ). word_in s (i - 8) ⊕ y) (rotated-word s i _ bytes (p (i - 1) (omega arith)) ∙ sym e))

  -- from temp with SubWord alone, where 8 leaves 4
  plain-four : (w : List ℕ) (i t : ℕ) → 8 ≤ i → i ≤ 56 → i % 8 ≡ 4 → length w ≡ 60 → Stored s w i
      → t ≡ sub_words (at w (i - 1)) 0 1 2 3 → Stored s (four_more w i t) (i + 4)
  plain-four w i t low high q l p e =
      four-words w i t low high (omega arith) l p
      (word_next (sub_word (word_at s (i - 1))) i low (omega arith) (temp-plain i (word_at s (i - 1)) q) (bytes-sub-word (word_at s (i - 1)))
      ∙ ap (λ (y : ℕ). word_in s (i - 8) ⊕ y) (plain_word s bytes (i - 1) _ (p (i - 1) (omega arith)) ∙ sym e))

  -- the schedule starts with the key
  key-words : (j : ℕ) → j < 8 → word_in key j ≡ word_in s j
  key-words j h =
      let front : (k : ℕ) → k < 32 → at key k ≡ at s k
      = λ k l. ap (λ (t : List ℕ). at t k) (sym (key-front key n)) ∙ get_or-take 32 s k 0 l in
      word-ext (front (4 * j) (omega arith)) (front (4 * j + 1) (omega arith)) (front (4 * j + 2) (omega arith)) (front (4 * j + 3) (omega arith))

-- ---- the loops of the code

-- the key's words are loaded
pub loaded : (key w : List ℕ) (k : ℕ) → Filled (word_in key) 60 w k → k ≡ 8 → take 8 w ≡ packed 8 key
unfolding packed
loaded key w k (b, l, e) m = rw m at e

-- the words before the turn are those of whatever key the first 8 words are: the loop no longer sees the key
abbrev pub Grown : List ℕ → List ℕ → ℕ → Type 0
Grown w₀ w turn = (key : List ℕ) → length key ≡ 32 → Bytes key → take 8 w₀ ≡ packed 8 key → Stored (key_expansion key) w (8 * turn)

pub grown-none : (w : List ℕ) → Grown w w 1
grown-none w key n b e j h =
    sym (get_or-take 8 w j 0 h) ∙ ap (λ (t : List ℕ). at t j) e ∙ packed-at 8 j key h ∙ key-words key n b j h

pub grown-more : (w₀ w w₁ w₂ : List ℕ) (turn r p : ℕ) → Grown w₀ w turn → 1 ≤ turn → turn < 7 → length w ≡ 60
    → r ≡ rotated_temp (8 * turn) (at w (8 * turn - 1)) → w₁ ≡ four_more w (8 * turn) r
    → p ≡ sub_words (at w₁ (8 * turn + 3)) 0 1 2 3 → w₂ ≡ four_more w₁ (8 * turn + 4) p
    → Grown w₀ w₂ (turn + 1)
grown-more w₀ w w₁ w₂ turn r p g low high l er e1 ep e2 key n b e =
    let l1 : length w₁ ≡ 60 = ap length e1 ∙ length-four w (8 * turn) r ∙ l in
    let m : 8 * (turn + 1) ≡ 8 * turn + 4 + 4 = omega arith in
    let k : 8 * turn + 3 ≡ 8 * turn + 4 - 1 = omega arith in
    let s1 : Stored (key_expansion key) w₁ (8 * turn + 4)
    = rw (← e1) at (rotated-four key n b w (8 * turn) r (omega arith) (omega arith) (omega arith) l (g key n b e) er) in
    rw (m, e2) (plain-four key n b w₁ (8 * turn + 4) p (omega arith) (omega arith) (omega arith) l1 s1 (rw k at ep))

pub grown-all : (w₀ w w₁ : List ℕ) (turn r : ℕ) → Grown w₀ w turn → turn ≡ 7 → length w ≡ 60
    → r ≡ rotated_temp 56 (at w 55) → w₁ ≡ four_more w 56 r → Expands w₀ w₁
unfolding packed
grown-all w₀ w w₁ turn r g h l er e1 key n b e =
    let s : List ℕ = key_expansion key in
    let s0 : Stored s w 56 = rw h at (g key n b e) in
    let s1 : Stored s w₁ 60 = rw (← e1) at (rotated-four key n b w 56 r (omega arith) (omega arith) refl l s0 er) in
    let l1 : length w₁ ≡ 60 = ap length e1 ∙ length-four w 56 r ∙ l in
    ext_get_or 0 w₁ (tabulate (word_in s) 60) (l1 ∙ sym (length-tabulate (word_in s) 60))
    (λ j lj. let lj' : j < 60 = omega arith in s1 j lj' ∙ sym (get_d_tabulate (word_in s) 0 60 j lj'))
