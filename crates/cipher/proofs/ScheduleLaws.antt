-- The schedule is filled word after word.
-- Assumes nothing.
use Prim.Native.Nat.{ℕ, zero, suc, ◌+◌, ◌-◌, ◌*◌, ◌≤◌, ◌<◌}
use mathlib.Core.Path.{◌≡◌, refl, sym, ap, ap₂, ◌∙◌}
use mathlib.Core.List.{List, ◌++◌}
use native.Mathlib.Nat.{add-suc, add-zero}
use native.Mathlib.Omega.{arith}
use lib.ListN.{length, take, length-append, length-drop}
use lib.Seq.{paste, take-paste, length-paste, take_all, take_at, take-append-le, get_or-take, get_or-append-add}
use Rattle.laws.specs.Lists.{overwrite}
use Rattle.laws.proofs.Copy.{overwrite-fits}
use Rattle.cipher.specs.Aes.{at, word_at, xor_word, temp, next_word, with_next_word, expand, key_expansion}

-- a word that the first m bytes hold
word_in : (w : List ℕ) (m i : ℕ) → 4 * i + 4 ≤ m → word_at (take m w) i ≡ word_at w i
word_in w m i h =
    rw (
      get_or-take m w (4 * i) 0 (omega arith),
      get_or-take m w (4 * i + 1) 0 (omega arith),
      get_or-take m w (4 * i + 2) 0 (omega arith),
      get_or-take m w (4 * i + 3) 0 (omega arith),
    )

next-in : (w : List ℕ) (i : ℕ) → 8 ≤ i → next_word (take (4 * i) w) i ≡ next_word w i
unfolding next_word
next-in w i h =
    ap₂ (λ (a b : List ℕ). xor_word a (temp i b)) (word_in w (4 * i) (i - 8) (omega arith)) (word_in w (4 * i) (i - 1) (omega arith))

next-length : (w : List ℕ) (i : ℕ) → length (next_word w i) ≡ 4
unfolding next_word
next-length w i = refl

pub length-expand : (key : List ℕ) (n : ℕ) → length (expand key n) ≡ length key + 4 * n
unfolding expand with_next_word
length-expand key zero = omega arith
length-expand key (suc n) = rw (length-append, length-expand key n, next-length) (omega arith)

-- the words before i are stored
abbrev pub Expanded : List ℕ → List ℕ → ℕ → Type 0
Expanded key w i = (length w ≡ 240) × (take (4 * i) w ≡ expand key (i - 8))

-- those before 8 are the key
pub expanded-none : (zeros key : List ℕ) → length zeros ≡ 240 → length key ≡ 32 → Expanded key (overwrite zeros key) 8
unfolding expand
expanded-none zeros key z k = rw (overwrite-fits zeros key (omega arith)) (simp (length-append, length-drop) (omega arith), take_at key _ 32 k)

pub expanded-more : (key w w' t : List ℕ) (i : ℕ) → Expanded key w i → 8 ≤ i → i < 60
    → t ≡ next_word w i → w' ≡ paste w (4 * i) t 4 → Expanded key w' (i + 1)
unfolding expand with_next_word
expanded-more key w w' t i (l, e) low h et ew =
    let lt : length t ≡ 4 = ap length et ∙ next-length w i in
    let m : 4 * (i + 1) ≡ 4 * i + 4 = omega arith in
    let k : i + 1 - 8 ≡ suc (i - 8) = omega arith in
    let k' : 8 + (i - 8) ≡ i = omega arith in (
      ap length ew ∙ length-paste w (4 * i) t 4 (omega arith) (omega arith) ∙ l,
      rw (m, ew, take-paste w (4 * i) t 4 (omega arith) (omega arith), take_all 4 t (omega arith), k, k')
          (rw (← e, next-in w i low, ← et) refl),
    )

pub expanded-all : (key w : List ℕ) (i : ℕ) → Expanded key w i → i ≡ 60 → w ≡ key_expansion key
unfolding key_expansion
expanded-all key w i (l, e) d = sym (take_all 240 w (omega arith)) ∙ rw d at e

-- ---- each word of a schedule is the next of those before

-- the words before 8 + n, however far the key is expanded
prefix : (key : List ℕ) (n d : ℕ) → length key ≡ 32 → take (4 * (8 + n)) (expand key (n + d)) ≡ expand key n
unfolding expand with_next_word
prefix key n zero k =
    let z : n + 0 ≡ n = omega arith in
    let e = length-expand key n in
    rw z (take_all (4 * (8 + n)) (expand key n) (omega arith))
prefix key n (suc d) k =
    let e = length-expand key (n + d) in
    rw (add-suc n d) (take-append-le (4 * (8 + n)) (expand key (n + d)) _ (omega arith) ∙ prefix key n d k)

whole-prefix : (key : List ℕ) (n : ℕ) → n ≤ 52 → length key ≡ 32 → take (4 * (8 + n)) (key_expansion key) ≡ expand key n
unfolding key_expansion
whole-prefix key n h k =
    let e : n + (52 - n) ≡ 52 = omega arith in
    ap (λ (m : ℕ). take (4 * (8 + n)) (expand key m)) (sym e) ∙ prefix key n (52 - n) k

-- the schedule starts with the key
pub key-front : (key : List ℕ) → length key ≡ 32 → take 32 (key_expansion key) ≡ key
unfolding expand
key-front key k = whole-prefix key 0 (omega arith) k

-- the word behind a list of whole words
appended : (p q : List ℕ) (i : ℕ) → length p ≡ 4 * i → word_at (p ++ q) i ≡ word_at q 0
appended p q i e =
    let at-end : (j : ℕ) → at (p ++ q) (4 * i + j) ≡ at q j = λ j. rw (← e) (get_or-append-add p q j 0) in
    let first : at (p ++ q) (4 * i) ≡ at q 0 = rw add-zero at (at-end 0) in
    rw (first, at-end 1, at-end 2, at-end 3) refl

next-whole : (w : List ℕ) (i : ℕ) → word_at (next_word w i) 0 ≡ next_word w i
unfolding next_word
next-whole w i = refl

last_word : (key : List ℕ) (n : ℕ) → length key ≡ 32 → word_at (expand key (suc n)) (8 + n) ≡ next_word (expand key n) (8 + n)
unfolding expand with_next_word
last_word key n k =
    let e = length-expand key n in
    appended (expand key n) (next_word (expand key n) (8 + n)) (8 + n) (omega arith) ∙ next-whole (expand key n) (8 + n)

pub next-at : (key : List ℕ) (n : ℕ) → length key ≡ 32 → n < 52 → word_at (key_expansion key) (8 + n) ≡ next_word (key_expansion key) (8 + n)
next-at key n k h =
    let w : List ℕ = key_expansion key in
    sym (word_in w (4 * (8 + suc n)) (8 + n) (omega arith))
    ∙ ap (λ (s : List ℕ). word_at s (8 + n)) (whole-prefix key (suc n) h k)
    ∙ last_word key n k
    ∙ ap (λ (s : List ℕ). next_word s (8 + n)) (sym (whole-prefix key n (omega arith) k))
    ∙ next-in w (8 + n) (omega arith)
