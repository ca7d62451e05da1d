-- The characters of a line that is an event frame of either kind, and the frame that such characters are.
-- Assumes nothing.
use mathlib.Core.Path.{◌≡◌, refl, sym, ap, subst, ◌∙◌}
use mathlib.Core.Bool.{true, ◌&&◌}
use mathlib.Core.List.{List, [], ◌∷◌}
use Rattle.std.specs.Prelude.{Some}
use Prim.Native.Nat.{ℕ, suc, ◌+◌, ◌*◌, ◌/◌, ◌%◌, ◌≤◌}
use native.Mathlib.Omega.{arith}
use lib.Dec.{eqb}
use lib.ListN.{length, get_or, drop}
use borrow.Author.Tests.{le-leb, eqb-true, eq-eqb}
use Rattle.laws.proofs.Cases.{both}
use Rattle.pools.specs.Calls.{event}
use Rattle.bench.specs.Hexadecimal.{is_decimal, is_capital, is_digit, digit_value, digit_character, decode_hex, all_digits, is_hex}
use Rattle.bench.specs.Frames.{is_wide, max_line, frame_of, frame_of_text, header_length}
use Rattle.bench.specs.Lines.{call_of, line_call}
use Rattle.bench.specs.declared.frame.Frame.TheVariants.{Event, WideEvent}
use Rattle.bench.proofs.Hexadecimal.{two_digits}
use Rattle.bench.proofs.Texts.{readable, hex-frame}
use Rattle.bench.proofs.EventBytes.{event-bytes, wide-bytes, frame-one, frame-five}

-- ---- the characters: 48 49 is 01, and 48 53 is 05

-- what comes after the first characters: digits, an even number of them, as many as a line may have
pub record Fields (t : List ℕ) : Type 0 where
  pub digits : all_digits t ≡ true
  pub even : length t % 2 ≡ 0
  pub short : length t ≤ 254
  pub long : 2 ≤ length (decode_hex t)

-- a line of frame 01
pub record EventText (text : List ℕ) (source pool : ℕ) : Type 0 where
  pub rest : List ℕ
  pub is : text ≡ 48 ∷ 49 ∷ rest
  pub fields : Fields rest
  pub source_is : source ≡ get_or (decode_hex rest) 0 0
  pub pool-is : pool ≡ get_or (decode_hex rest) 1 0

-- a line of frame 05, with the two digits of the source's first byte apart
pub record WideText (text : List ℕ) (source pool : ℕ) : Type 0 where
  pub high : ℕ
  pub low : ℕ
  pub rest : List ℕ
  pub is : text ≡ 48 ∷ 53 ∷ high ∷ low ∷ rest
  pub high_digit : is_digit high ≡ true
  pub low_digit : is_digit low ≡ true
  pub fields : Fields rest
  pub source_is : source ≡ (16 * digit_value high + digit_value low) * 256 + get_or (decode_hex rest) 0 0
  pub pool-is : pool ≡ get_or (decode_hex rest) 1 0

-- the first two digits of a line, by its first byte
record First (text : List ℕ) (b : ℕ) (rest : List ℕ) : Type 0 where
  after : List ℕ
  is : text ≡ digit_character (b / 16) ∷ digit_character (b % 16) ∷ after
  decoded : decode_hex after ≡ rest
  digits : all_digits after ≡ true
  even : length after % 2 ≡ 0

first : (text : List ℕ) (b : ℕ) (rest : List ℕ) → is_hex text ≡ true → decode_hex text ≡ b ∷ rest → First text b rest
unfolding decode_hex is_hex all_digits
first [] b rest h e = let z : ◌≡◌ {A = ℕ} 0 (suc (length rest)) = ap length e in absurd (omega arith)
first (c ∷ []) b rest h e = let z : ◌≡◌ {A = ℕ} 0 (suc (length rest)) = ap length e in absurd (omega arith)
first (c ∷ d ∷ text) b rest h e =
    let p = both (eqb (length (c ∷ d ∷ text) % 2) 0) (is_digit c && (is_digit d && all_digits text)) h in
    let q = both (is_digit c) (is_digit d && all_digits text) p.1 in
    let r = both (is_digit d) (all_digits text) q.1 in
    let byte : 16 * digit_value c + digit_value d ≡ b = cc in
    let two = two_digits c d b q.0 r.0 byte in
    let l : length (c ∷ d ∷ text) % 2 ≡ 0 = eqb-true (length (c ∷ d ∷ text) % 2) 0 p.0 in
    record {
      after = text;
      is = λ i. two.0 i ∷ two.1 i ∷ text;
      decoded = cc;
      digits = r.1;
      even = omega arith;
    }

-- a line that begins with 01 has 256 characters or fewer, one with 05 258
narrow_short : (t : List ℕ) → max_line (48 ∷ 49 ∷ t) ≡ 256
unfolding max_line is_wide
narrow_short t = refl

wide_short : (t : List ℕ) → max_line (48 ∷ 53 ∷ t) ≡ 258
unfolding max_line is_wide
wide_short t = refl

narrow-limit : (text t : List ℕ) → text ≡ 48 ∷ 49 ∷ t → length text ≤ max_line text → length t ≤ 254
narrow-limit text t e h =
    let l : length (48 ∷ 49 ∷ t) ≤ max_line (48 ∷ 49 ∷ t) = subst (λ (x : List ℕ). length x ≤ max_line x) e h in
    omega (arith, narrow_short t)

wide-limit : (text t : List ℕ) → text ≡ 48 ∷ 53 ∷ t → length text ≤ max_line text → length t ≤ 256
wide-limit text t e h =
    let l : length (48 ∷ 53 ∷ t) ≤ max_line (48 ∷ 53 ∷ t) = subst (λ (x : List ℕ). length x ≤ max_line x) e h in
    omega (arith, wide_short t)

pub event-text : (text : List ℕ) (source pool : ℕ) → frame_of_text text ≡ Some (Event source pool) → EventText text source pool
unfolding digit_character
event-text text source pool e =
    let r = readable text (Event source pool) e in
    let b = event-bytes (decode_hex text) source pool r.frame in
    let f = first text 1 b.rest r.hex b.is in
    let is : text ≡ 48 ∷ 49 ∷ f.after = f.is in
    let l : length f.after ≤ 254 = narrow-limit text f.after is r.short in
    record {
      rest = f.after;
      is = is;
      fields = record { digits = f.digits; even = f.even; short = omega arith; long = rw f.decoded b.long };
      source_is = rw f.decoded b.source_is;
      pool-is = rw f.decoded b.pool-is;
    }

-- the second byte of a 05 line
record Two (t : List ℕ) : Type 0 where
  high : ℕ
  low : ℕ
  rest : List ℕ
  is : t ≡ high ∷ low ∷ rest
  high_digit : is_digit high ≡ true
  low_digit : is_digit low ≡ true
  digits : all_digits rest ≡ true
  even : length rest % 2 ≡ 0
  decoded : decode_hex t ≡ (16 * digit_value high + digit_value low) ∷ decode_hex rest

two : (t : List ℕ) → all_digits t ≡ true → length t % 2 ≡ 0 → 3 ≤ length (decode_hex t) → Two t
unfolding decode_hex all_digits
two [] d e l = absurd (omega arith)
two (a ∷ []) d e l = absurd (omega arith)
two (a ∷ b ∷ t) d e l =
    let q = both (is_digit a) (is_digit b && all_digits t) d in
    let r = both (is_digit b) (all_digits t) q.1 in
    record {
      high = a;
      low = b;
      rest = t;
      is = refl;
      high_digit = q.0;
      low_digit = r.0;
      digits = r.1;
      even = omega arith;
      decoded = refl;
    }

pub wide-text : (text : List ℕ) (source pool : ℕ) → frame_of_text text ≡ Some (WideEvent source pool) → WideText text source pool
unfolding digit_character
wide-text text source pool e =
    let r = readable text (WideEvent source pool) e in
    let b = wide-bytes (decode_hex text) source pool r.frame in
    let f = first text 5 b.rest r.hex b.is in
    let is : text ≡ 48 ∷ 53 ∷ f.after = f.is in
    let l : length f.after ≤ 256 = wide-limit text f.after is r.short in
    let w = two f.after f.digits f.even (rw f.decoded b.long) in
    let whole : b.rest ≡ (16 * digit_value w.high + digit_value w.low) ∷ decode_hex w.rest = sym f.decoded ∙ w.decoded in
    let size : length f.after ≡ suc (suc (length w.rest)) = ap length w.is in
    let long : 3 ≤ length b.rest = b.long in
    let more : length b.rest ≡ suc (length (decode_hex w.rest)) = ap length whole in
    record {
      high = w.high;
      low = w.low;
      rest = w.rest;
      is = is ∙ ap (λ (x : List ℕ). 48 ∷ 53 ∷ x) w.is;
      high_digit = w.high_digit;
      low_digit = w.low_digit;
      fields = record { digits = w.digits; even = w.even; short = omega arith; long = omega arith };
      source_is = b.source_is ∙ ap (λ (x : List ℕ). get_or x 0 0 * 256 + get_or x 1 0) whole;
      pool-is = b.pool-is ∙ ap (λ (x : List ℕ). get_or x 2 0) whole;
    }

-- ---- the frames that such characters are

module _ (t : List ℕ) (f : Fields t) where
  -- with the digits and the length that a line needs
  hex-narrow : is_hex (48 ∷ 49 ∷ t) ≡ true
  unfolding is_hex all_digits is_digit is_decimal is_capital
  hex-narrow =
      let e : length (48 ∷ 49 ∷ t) % 2 ≡ 0 = omega (arith, f.even) in
      rw (eq-eqb (length (48 ∷ 49 ∷ t) % 2) 0 e, f.digits)

  hex-wide : is_hex (48 ∷ 53 ∷ 48 ∷ 48 ∷ t) ≡ true
  unfolding is_hex all_digits is_digit is_decimal is_capital
  hex-wide =
      let e : length (48 ∷ 53 ∷ 48 ∷ 48 ∷ t) % 2 ≡ 0 = omega (arith, f.even) in
      rw (eq-eqb (length (48 ∷ 53 ∷ 48 ∷ 48 ∷ t) % 2) 0 e, f.digits)

  decode-narrow : decode_hex (48 ∷ 49 ∷ t) ≡ 1 ∷ decode_hex t
  unfolding decode_hex digit_value is_decimal is_capital
  decode-narrow = refl

  decode-wide : decode_hex (48 ∷ 53 ∷ 48 ∷ 48 ∷ t) ≡ 5 ∷ 0 ∷ decode_hex t
  unfolding decode_hex digit_value is_decimal is_capital
  decode-wide = refl

  pub narrow-frame : frame_of_text (48 ∷ 49 ∷ t) ≡ Some (Event (get_or (decode_hex t) 0 0) (get_or (decode_hex t) 1 0))
  narrow-frame =
      hex-frame (48 ∷ 49 ∷ t) (rw (narrow_short t) (omega (arith, f.short))) hex-narrow
      ∙ ap frame_of decode-narrow ∙ frame-one (decode_hex t) ∙ rw (le-leb 3 (length (1 ∷ decode_hex t)) (omega (arith, f.long)))

  pub wide-frame : frame_of_text (48 ∷ 53 ∷ 48 ∷ 48 ∷ t) ≡ Some (WideEvent (get_or (decode_hex t) 0 0) (get_or (decode_hex t) 1 0))
  wide-frame =
      let z : 0 * 256 + get_or (decode_hex t) 0 0 ≡ get_or (decode_hex t) 0 0 = omega arith in
      hex-frame (48 ∷ 53 ∷ 48 ∷ 48 ∷ t) (rw (wide_short (48 ∷ 48 ∷ t)) (omega (arith, f.short))) hex-wide
      ∙ ap frame_of decode-wide ∙ frame-five (0 ∷ decode_hex t)
      ∙ rw (le-leb 4 (length (5 ∷ 0 ∷ decode_hex t)) (omega (arith, f.long)), z)

  -- and the calls, which are one
  pub narrow-call : line_call (48 ∷ 49 ∷ t) ≡ Some (event (get_or (decode_hex t) 0 0) (get_or (decode_hex t) 1 0) (drop 2 (decode_hex t)))
  unfolding line_call call_of header_length
  narrow-call = rw (narrow-frame, decode-narrow)

  pub wide-call : line_call (48 ∷ 53 ∷ 48 ∷ 48 ∷ t) ≡ Some (event (get_or (decode_hex t) 0 0) (get_or (decode_hex t) 1 0) (drop 2 (decode_hex t)))
  unfolding line_call call_of header_length
  wide-call = rw (wide-frame, decode-wide)

-- a source of 255 or less has a first byte 00
pub zero_high : (text : List ℕ) (source pool : ℕ) (w : WideText text source pool) → source ≤ 255 → text ≡ 48 ∷ 53 ∷ 48 ∷ 48 ∷ w.rest
unfolding digit_character
zero_high text source pool w h =
    let b : 16 * digit_value w.high + digit_value w.low ≡ 0 = omega (arith, w.source_is) in
    let d = two_digits w.high w.low 0 w.high_digit w.low_digit b in
    w.is ∙ (λ i. 48 ∷ 53 ∷ d.0 i ∷ d.1 i ∷ w.rest)

pub zero-source : (text : List ℕ) (source pool : ℕ) (w : WideText text source pool) → source ≤ 255 → source ≡ get_or (decode_hex w.rest) 0 0
zero-source text source pool w h = omega (arith, w.source_is)
