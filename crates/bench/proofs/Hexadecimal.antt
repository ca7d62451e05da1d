-- Hexadecimal text and the bytes that it stands for.
-- Assumes nothing.
use mathlib.Core.Path.{◌≡◌, refl, sym, ap, ap₂, ◌∙◌}
use mathlib.Core.Bool.{Bool, true, false, cond, ◌&&◌, false≢true}
use mathlib.Core.List.{List, [], ◌∷◌, ◌++◌, append_assoc, append-nil}
use Prim.Native.Nat.{ℕ, zero, suc, ◌+◌, ◌*◌, ◌/◌, ◌%◌, ◌<◌, ◌≤◌}
use native.Mathlib.Omega.{arith}
use native.Mathlib.Numerals.{add-one}
use lib.Dec.{leb, ltb}
use lib.ListN.{length, take, drop, get_or, set, length-drop, length-set, take-append-drop}
use lib.Seq.{drop-cons, append_snoc, take-suc-set, drop-set-lt, drop-drop, drop-length, get_or-take, get_or-drop}
use borrow.Author.Tests.{leb-true, ltb-true, ltb-false}
use Rattle.std.specs.List.{fold}
use Rattle.std.specs.Simd.{first_chunks}
use Rattle.laws.proofs.Cases.{split, by-test}
use Rattle.laws.proofs.Tables.{agree_at}
use Rattle.bench.specs.Hexadecimal.{is_decimal, is_capital, is_digit, digit_value, digit_character, decode_hex, encode_hex, all_digits}
use Rattle.bench.specs.Statements.{HexadecimalLaw}

-- ---- digits

digit-round : (n : ℕ) → n < 16 → digit_value (digit_character n) ≡ n
unfolding digit_value digit_character is_decimal is_capital
digit-round n h = agree_at (λ n. digit_value (digit_character n)) (λ n. n) 16 tt n h

decimal-small : (c : ℕ) → is_decimal c ≡ true → c ≤ 57
unfolding is_decimal
decimal-small c e = go (leb 48 c) e
  where
    go : (t : Bool) → (t && leb c 57) ≡ true → c ≤ 57
    go true e = leb-true c 57 e
    go false e = absurd (false≢true e)

capital-small : (c : ℕ) → is_capital c ≡ true → c ≤ 70
unfolding is_capital
capital-small c e = go (leb 65 c) e
  where
    go : (t : Bool) → (t && leb c 70) ≡ true → c ≤ 70
    go true e = leb-true c 70 e
    go false e = absurd (false≢true e)

-- a digit's value is below 16
pub digit_small : (c : ℕ) → digit_value c < 16
unfolding digit_value
digit_small c =
    split (λ (x : ℕ). x < 16) (is_decimal c)
    (λ t. omega (arith, decimal-small c t))
    (λ t. split (λ (x : ℕ). x < 16) (is_capital c) (λ u. omega (arith, capital-small c u)) (λ u. omega arith))

-- no character past F is a digit
digit-bound : (c : ℕ) → is_digit c ≡ true → c ≤ 70
unfolding is_digit
digit-bound c h =
    by-test (is_decimal c) (c ≤ 70)
    (λ t. omega (arith, decimal-small c t))
    (λ t. capital-small c (rw t at h))

-- a digit is the character of its value
digit-is : (c : ℕ) → is_digit c ≡ true → digit_character (digit_value c) ≡ c
digit-is c h =
    by-test (ltb c 71) (digit_character (digit_value c) ≡ c)
    (λ t.
    let a : cond (is_digit c) (digit_character (digit_value c)) c ≡ c = table c (ltb-true c 71 t) in
    rw h at a)
    (λ t. absurd (omega (arith, digit-bound c h, ltb-false c 71 t)))
  where
    table : (c : ℕ) → c < 71 → cond (is_digit c) (digit_character (digit_value c)) c ≡ c
    table =
        unfold is_digit is_decimal is_capital digit_value digit_character in
        agree_at (λ c. cond (is_digit c) (digit_character (digit_value c)) c) (λ c. c) 71 tt

-- two digits by the byte that they stand for
pub two_digits : (c d b : ℕ) → is_digit c ≡ true → is_digit d ≡ true → 16 * digit_value c + digit_value d ≡ b
    → (c ≡ digit_character (b / 16)) × (d ≡ digit_character (b % 16))
two_digits c d b p q e =
    let h : digit_value c ≡ b / 16 = omega (arith, digit_small c, digit_small d) in
    let l : digit_value d ≡ b % 16 = omega (arith, digit_small c, digit_small d) in
    (sym (digit-is c p) ∙ ap digit_character h, sym (digit-is d q) ∙ ap digit_character l)

-- a byte is below 256
pub byte_small : (text : List ℕ) (i : ℕ) → get_or (decode_hex text) i 0 < 256
unfolding decode_hex
byte_small [] i = omega arith
byte_small (c ∷ []) i = omega arith
byte_small (c ∷ d ∷ text) zero = omega (arith, digit_small c, digit_small d)
byte_small (c ∷ d ∷ text) (suc i) = byte_small text i

-- ---- the fold over a text's characters: `sofar` says of those before whether all are digits

pub digits-folded : (text : List ℕ) (sofar : Bool) → fold (λ digits c. digits && is_digit c) sofar text ≡ (sofar && all_digits text)
unfolding all_digits
digits-folded [] true = refl
digits-folded [] false = refl
digits-folded (c ∷ text) true = digits-folded text (is_digit c)
digits-folded (c ∷ text) false = digits-folded text false

-- ---- decode after encode

pub hexadecimal-law : HexadecimalLaw
unfolding decode_hex encode_hex
hexadecimal-law [] small = refl
hexadecimal-law (b ∷ bytes) small =
    let h : b < 256 = small 0 in
    let e : 16 * (b / 16) + b % 16 ≡ b = omega arith in
    ap₂ {B = List ℕ} (λ (x : ℕ) l. x ∷ l)
    (rw (digit-round (b / 16) (omega arith), digit-round (b % 16) (omega arith)) e)
    (hexadecimal-law bytes (λ i. small (suc i)))

-- ---- the loop that decodes

pub length-decode : (text : List ℕ) → length (decode_hex text) ≡ length text / 2
unfolding decode_hex
length-decode [] = refl
length-decode (c ∷ []) = refl
length-decode (c ∷ d ∷ text) = let e : length (decode_hex text) ≡ length text / 2 = length-decode text in omega arith

-- pair i of a text, and its characters
pair-at : (n i : ℕ) (text : List ℕ) → i < n → get_or (first_chunks 2 n text) i [] ≡ take 2 (drop (2 * i) text)
pair-at zero i text h = absurd (omega arith)
pair-at (suc n) zero text h = refl
pair-at (suc n) (suc i) text h =
    let e : 2 + 2 * i ≡ 2 * suc i = omega arith in
    pair-at n i (drop 2 text) (omega arith) ∙ ap (take 2) (drop-drop (2 * i) 2 text ∙ ap (λ (k : ℕ). drop k text) e)

pub pair-digit : (pairs : List (List ℕ)) (n : ℕ) (text : List ℕ) (i j : ℕ) → pairs ≡ first_chunks 2 n text → i < n → j < 2
    → get_or (get_or pairs i []) j 0 ≡ get_or text (2 * i + j) 0
pair-digit pairs n text i j e h k =
    ap (λ (l : List (List ℕ)). get_or (get_or l i []) j 0) e ∙ ap (λ (l : List ℕ). get_or l j 0) (pair-at n i text h)
    ∙ get_or-take 2 (drop (2 * i) text) j 0 k ∙ get_or-drop (2 * i) text j 0

-- two characters more
decode-two : (text : List ℕ) (i : ℕ) → 2 * i + 1 < length text
    → decode_hex (drop (2 * i) text)
    ≡ (16 * digit_value (get_or text (2 * i) 0) + digit_value (get_or text (2 * i + 1) 0)) ∷ decode_hex (drop (2 * (i + 1)) text)
unfolding decode_hex
decode-two text i h =
    let e : suc (2 * i) ≡ 2 * i + 1 = omega arith in
    let f : suc (2 * i + 1) ≡ 2 * (i + 1) = omega arith in
    rw (drop-cons text (2 * i) 0 (omega arith), e, drop-cons text (2 * i + 1) 0 h, f)

-- at most one is left
decode-end : (text : List ℕ) → length text ≤ 1 → decode_hex text ≡ []
unfolding decode_hex
decode-end [] h = refl
decode-end (c ∷ []) h = refl
decode-end (c ∷ d ∷ text) h = absurd (omega arith)

-- the first i bytes stand in out, and what is left of the text gives the others
abbrev pub Decoded : List ℕ → List ℕ → List ℕ → ℕ → Type 0
Decoded text out₀ out i = (length out ≡ length out₀) × (take i out ++ decode_hex (drop (2 * i) text) ≡ decode_hex text) × (drop i out ≡ drop i out₀)

pub decoded-none : (text out : List ℕ) → Decoded text out out 0
decoded-none text out = (refl, refl, refl)

pub decoded-more : (text out₀ out : List ℕ) (i v : ℕ) → Decoded text out₀ out i
    → v ≡ 16 * digit_value (get_or text (2 * i) 0) + digit_value (get_or text (2 * i + 1) 0) → 2 * i + 1 < length text → i < length out₀
    → Decoded text out₀ (set out i v) (i + 1)
decoded-more text out₀ out i v (l, front, back) e h room = (
  length-set out i v ∙ l,
  rw (add-one i, take-suc-set out i v (omega arith), append_snoc, ← add-one i, e, ← decode-two text i h) front,
  drop-set-lt (i + 1) out i v (omega arith) ∙ sym (drop-drop 1 i out) ∙ ap (drop 1) back ∙ drop-drop 1 i out₀,
)

pub decoded-all : (text out₀ out : List ℕ) (i : ℕ) → Decoded text out₀ out i → i ≡ length text / 2
    → out ≡ decode_hex text ++ drop (length text / 2) out₀
decoded-all text out₀ out i (l, front, back) e =
    let z : decode_hex (drop (2 * i) text) ≡ [] = decode-end (drop (2 * i) text) (rw length-drop (omega arith)) in
    let f : take i out ≡ decode_hex text = sym (append-nil (take i out)) ∙ (rw z at front) in
    sym (take-append-drop i out) ∙ rw (f, back, e)

-- ---- the loop that encodes

pub length-encode : (bytes : List ℕ) → length (encode_hex bytes) ≡ 2 * length bytes
unfolding encode_hex
length-encode [] = refl
length-encode (b ∷ bytes) = let e : length (encode_hex bytes) ≡ 2 * length bytes = length-encode bytes in omega arith

-- a byte more
encode_one : (bytes : List ℕ) (i : ℕ) → i < length bytes
    → encode_hex (drop i bytes) ≡ digit_character (get_or bytes i 0 / 16) ∷ digit_character (get_or bytes i 0 % 16) ∷ encode_hex (drop (i + 1) bytes)
unfolding encode_hex
encode_one bytes i h = rw (drop-cons bytes i 0 h, add-one i)

-- the text of the first i bytes stands in out, and what is left of the bytes gives the rest
abbrev pub Encoded : List ℕ → List ℕ → List ℕ → ℕ → Type 0
Encoded bytes out₀ out i =
    (length out ≡ length out₀) × (take (2 * i) out ++ encode_hex (drop i bytes) ≡ encode_hex bytes) × (drop (2 * i) out ≡ drop (2 * i) out₀)

pub encoded-none : (bytes out : List ℕ) → Encoded bytes out out 0
encoded-none bytes out = (refl, refl, refl)

-- two stores, one after the other
take-two : (d : List ℕ) (k v w : ℕ) → k + 1 < length d → take (k + 2) (set (set d k v) (k + 1) w) ≡ take k d ++ (v ∷ w ∷ [])
take-two d k v w h =
    let e : k + 2 ≡ suc (k + 1) = omega arith in
    rw (e, take-suc-set (set d k v) (k + 1) w (rw length-set h), add-one k, take-suc-set d k v (omega arith)) (append_assoc (take k d) (v ∷ []) (w ∷ []))

pub encoded-more : (bytes out₀ out : List ℕ) (i v w : ℕ) → Encoded bytes out₀ out i
    → v ≡ digit_character (get_or bytes i 0 / 16) → w ≡ digit_character (get_or bytes i 0 % 16) → i < length bytes → 2 * i + 1 < length out₀
    → Encoded bytes out₀ (set (set out (2 * i) v) (2 * i + 1) w) (i + 1)
encoded-more bytes out₀ out i v w (l, front, back) e f h room =
    let k : ℕ = 2 * i in
    let g : 2 * (i + 1) ≡ k + 2 = omega arith in (
      simp length-set l,
      rw (g, take-two out k v w (omega arith), e, f) (append_assoc (take k out) _ _ ∙ rw (← encode_one bytes i h) front),
      rw g
          (drop-set-lt (k + 2) (set out k v) (k + 1) w (omega arith) ∙ drop-set-lt (k + 2) out k v (omega arith)
          ∙ sym (drop-drop 2 k out) ∙ ap (drop 2) back ∙ drop-drop 2 k out₀),
    )

pub encoded-all : (bytes out₀ out : List ℕ) (i : ℕ) → Encoded bytes out₀ out i → i ≡ length bytes
    → out ≡ encode_hex bytes ++ drop (2 * length bytes) out₀
unfolding encode_hex
encoded-all bytes out₀ out i (l, front, back) e =
    let z : encode_hex (drop i bytes) ≡ [] = rw (e, drop-length) in
    let f : take (2 * i) out ≡ encode_hex bytes = sym (append-nil (take (2 * i) out)) ∙ (rw z at front) in
    sym (take-append-drop (2 * i) out) ∙ rw (f, back, e)
