-- Which frame a line of text is, and which lines make a call: not one of more characters than its first two allow, nor one that is not hexadecimal.
-- Assumes nothing.
use mathlib.Core.Path.{◌≡◌, refl, sym, ap, subst, ◌∙◌}
use mathlib.Core.Bool.{true, false, ◌&&◌, true≢false}
use mathlib.Core.List.{List, [], ◌∷◌}
use Rattle.std.specs.Prelude.{Option, Some, None}
use Prim.Native.Nat.{ℕ, ◌%◌, ◌<◌, ◌≤◌}
use native.Mathlib.Omega.{arith}
use lib.Dec.{eqb, leb, ltb}
use lib.ListN.{length, take}
use lib.Seq.{length-take-le, take_all}
use borrow.Author.Tests.{ltb-true, ltb-false, leb-true, le-leb, lt-leb, ne_eqb}
use Rattle.laws.proofs.Cases.{split, by-test, both}
use Rattle.pools.specs.declared.Fortuna.{Fortuna}
use Rattle.bench.specs.Hexadecimal.{is_decimal, is_capital, is_digit, all_digits, is_hex, decode_hex}
use Rattle.bench.specs.Frames.{max_wide_line, is_wide, max_line, is_readable, frame_of, frame_of_text}
use Rattle.bench.specs.Lines.{line_feed, call_of, line_call, executed, line_of}
use Rattle.bench.specs.Input.{has_line_feed}
use Rattle.bench.specs.declared.frame.Frame.{Frame}

-- ---- how long a line may be

-- no more than the longest frame
max-line : (text : List ℕ) → max_line text ≤ max_wide_line
unfolding max_line
max-line text = split (λ (n : ℕ). n ≤ max_wide_line) (is_wide text) (λ t. omega arith) (λ t. omega arith)

-- ---- which frame a text is

pub long-frame : (text : List ℕ) → max_line text < length text → frame_of_text text ≡ None
unfolding frame_of_text
long-frame text h = rw (lt-leb (length text) (max_line text) h)

pub too_long : (text : List ℕ) → max_wide_line < length text → frame_of_text text ≡ None
too_long text h = long-frame text (omega (arith, max-line text))

pub hex-frame : (text : List ℕ) → length text ≤ max_line text → is_hex text ≡ true → frame_of_text text ≡ frame_of (decode_hex text)
unfolding frame_of_text
hex-frame text h e = rw (le-leb (length text) (max_line text) h, e)

-- a line that is a frame
pub record Readable (text : List ℕ) (f : Frame) : Type 0 where
  pub short : length text ≤ max_line text
  pub hex : is_hex text ≡ true
  pub frame : frame_of (decode_hex text) ≡ Some f

pub readable : (text : List ℕ) (f : Frame) → frame_of_text text ≡ Some f → Readable text f
unfolding frame_of_text
readable text f e =
    by-test (leb (length text) (max_line text) && is_hex text) (Readable text f)
    (λ t.
    let b = both (leb (length text) (max_line text)) (is_hex text) t in
    record { short = leb-true (length text) (max_line text) b.0; hex = b.1; frame = rw t at e })
    (λ t. let z : ◌≡◌ {A = Option Frame} None (Some f) = rw t at e in cc)

-- it has a character, and no line feed
empty-frame : frame_of_text [] ≡ None
unfolding frame_of_text frame_of is_hex all_digits decode_hex
empty-frame = split (λ (f : Option Frame). f ≡ None) (leb 0 (max_line []) && true) (λ _. refl) (λ _. refl)

pub frame-characters : (text : List ℕ) → (frame_of_text text ≡ None → ⊥) → 0 < length text
frame-characters [] n = absurd (n empty-frame)
frame-characters (c ∷ text) n = omega arith

no_digit : is_digit line_feed ≡ true → ⊥
unfolding is_digit is_decimal is_capital
no_digit h = true≢false (sym h)

digits-feedless : (text : List ℕ) → all_digits text ≡ true → has_line_feed text ≡ false
unfolding all_digits has_line_feed
digits-feedless [] h = refl
digits-feedless (c ∷ text) h =
    let p = both (is_digit c) (all_digits text) h in
    rw (ne_eqb c line_feed (λ q. no_digit (subst (λ (x : ℕ). is_digit x ≡ true) q p.0)), digits-feedless text p.1)

pub frame-feedless : (text : List ℕ) → (frame_of_text text ≡ None → ⊥) → has_line_feed text ≡ false
unfolding is_hex
frame-feedless text n =
    go (frame_of_text text) refl
  where
    go : (f : Option Frame) → frame_of_text text ≡ f → has_line_feed text ≡ false
    go None e = absurd (n e)
    go (Some f) e = digits-feedless text (both (eqb (length text % 2) 0) (all_digits text) (readable text f e).hex).1

-- ---- which lines make a call

-- the call of a text, by its frame
call_by : (text : List ℕ) (f : Option Frame) → frame_of_text text ≡ f → line_call text ≡ call_of f (decode_hex text)
unfolding line_call
call_by text f e = ap (λ (x : Option Frame). call_of x (decode_hex text)) e

no_call : (text : List ℕ) → frame_of_text text ≡ None → line_call text ≡ None
no_call text e = call_by text None e ∙ (unfold call_of in refl)

long-call : (text : List ℕ) → max_line text < length text → line_call text ≡ None
long-call text h = no_call text (long-frame text h)

-- by whether a frame may have such characters
pub unreadable-frame : (text : List ℕ) → is_readable text ≡ false → frame_of_text text ≡ None
unfolding frame_of_text
unreadable-frame text h = rw h

pub readable-frame : (text : List ℕ) → is_readable text ≡ true → frame_of_text text ≡ frame_of (decode_hex text)
unfolding frame_of_text
readable-frame text h = rw h

pub readable-short : (text : List ℕ) → is_readable text ≡ true → length text ≤ max_wide_line
readable-short text h = omega (arith, leb-true (length text) (max_line text) (both (leb (length text) (max_line text)) (is_hex text) h).0, max-line text)

pub unreadable-line : (s : Fortuna) (text : List ℕ) → is_readable text ≡ false → line_of s text ≡ executed s None
unfolding line_of
unreadable-line s text h = ap (executed s) (no_call text (unreadable-frame text h))

pub readable-line : (s : Fortuna) (text : List ℕ) → is_readable text ≡ true
    → line_of s text ≡ executed s (call_of (frame_of (decode_hex text)) (decode_hex text))
unfolding line_of
readable-line s text h = ap (executed s) (call_by text _ (readable-frame text h))

-- a line may be cut where it is too long for any frame
cut-call : (c : ℕ) (text : List ℕ) → max_wide_line < c → line_call (take c text) ≡ line_call text
cut-call c text h =
    by-test (ltb c (length text)) (line_call (take c text) ≡ line_call text)
    (λ t. let k : c < length text = ltb-true c (length text) t in
    let l : length (take c text) ≡ c = length-take-le c text (omega arith) in
    long-call (take c text) (rw l (omega (arith, max-line (take c text)))) ∙ sym (long-call text (omega (arith, max-line text))))
    (λ t. ap line_call (take_all c text (ltb-false c (length text) t)))

pub cut_line : (s : Fortuna) (c : ℕ) (text : List ℕ) → max_wide_line < c → line_of s (take c text) ≡ line_of s text
unfolding line_of
cut_line s c text h = ap (executed s) (cut-call c text h)
