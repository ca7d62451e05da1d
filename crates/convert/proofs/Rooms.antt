-- How much room is always enough.
-- Assumes nothing.
use mathlib.Core.Path.{◌≡◌, refl, sym, ap, ◌∙◌}
use mathlib.Core.Bool.{Bool, true, false}
use mathlib.Core.List.{List, [], ◌∷◌}
use mathlib.Core.Logic.{◌⊎◌, inl, inr}
use Prim.Native.Nat.{ℕ, suc, ◌+◌, ◌-◌, ◌*◌, ◌≤◌}
use native.Mathlib.Omega.{arith}
use lib.Dec.{ltb}
use lib.ListN.{length, length-append}
use borrow.Author.Tests.{ltb-true, ltb-false}
use Rattle.laws.specs.Lists.{joined}
use Rattle.laws.proofs.Cases.{by-test}
use Rattle.std.specs.Prelude.{Option, Some, None}
use Rattle.bench.specs.Frames.{frame_of_text}
use Rattle.bench.specs.declared.frame.Frame.{Frame}
use Rattle.bench.specs.declared.frame.Frame.TheVariants.{Event, Request, Update, Write, WideEvent}
use Rattle.bench.proofs.Hexadecimal.{length-decode}
use Rattle.convert.specs.Texts.{max_narrow_source, is_wanted, text_number, converted}
use Rattle.convert.specs.Logs.{Line, end_of, whole_line, log_lines, written_of, Conversion, converted_lines, conversion}
use Rattle.convert.specs.Statements.{EnoughRoomLaw}
use Rattle.convert.proofs.Lines.{line-laws, shape, wider-text, wide-shape, narrower-text, large-number, high_zero}
use Rattle.convert.proofs.TextNumbers.{stray-text}
use Rattle.convert.proofs.LogLines.{lines_cut}
use Rattle.convert.proofs.Conversions.{LineAccepted, RoomRefused, TextRefused, which, no-refusal, goes_on, stops, no_lines, number-with, text-not-46, length-written}

-- ---- how a line grows

-- 01 of 6 characters or more gains two
longer : (text : List ℕ) (source pool : ℕ) → frame_of_text text ≡ Some (Event source pool) → 3 * length (converted true text) ≤ 4 * length text
longer text source pool e =
    let s = shape text source pool e in
    let before : length text ≡ 2 + length s.rest = ap length s.is ∙ omega arith in
    let new : length (converted true text) ≡ 4 + length s.rest = ap length (wider-text text source pool e) ∙ omega arith in
    omega (arith, before, new, s.fields.long, length-decode s.rest)

shorter : (text : List ℕ) (source pool : ℕ) (e : frame_of_text text ≡ Some (WideEvent source pool)) → source ≤ max_narrow_source
    → length (converted false text) ≤ length text
shorter text source pool e h =
    let before : length text ≡ 4 + length (wide-shape text source pool e).rest = ap length (high_zero text source pool e h) ∙ omega arith in
    let new : length (converted false text) ≡ 2 + length (wide-shape text source pool e).rest =
    ap length (narrower-text text source pool e h) ∙ omega arith in
    omega (arith, before, new)

-- a line that stays keeps its length
same_size : (wide : Bool) (text : List ℕ) → is_wanted wide (frame_of_text text) ≡ true → length (converted wide text) ≡ length text
same_size wide text w = ap length ((line-laws text).unchanged wide w).1

wide-size : (text : List ℕ) (f : Option Frame) → frame_of_text text ≡ f → text_number true text ≡ 0 → 3 * length (converted true text) ≤ 4 * length text
unfolding is_wanted
wide-size text (Some (Event source pool)) e n = longer text source pool e
wide-size text (Some (Request clock count)) e n = omega (arith, same_size true text (ap (is_wanted true) e))
wide-size text (Some (Update clock)) e n = omega (arith, same_size true text (ap (is_wanted true) e))
wide-size text (Some (Write clock)) e n = omega (arith, same_size true text (ap (is_wanted true) e))
wide-size text (Some (WideEvent source pool)) e n = omega (arith, same_size true text (ap (is_wanted true) e))
wide-size text None e n = let z : text_number true text ≡ 16 = (stray-text true text).1 e in absurd (omega arith)

narrow_size : (text : List ℕ) (f : Option Frame) → frame_of_text text ≡ f → text_number false text ≡ 0 → length (converted false text) ≤ length text
unfolding is_wanted
narrow_size text (Some (Event source pool)) e n = omega (arith, same_size false text (ap (is_wanted false) e))
narrow_size text (Some (Request clock count)) e n = omega (arith, same_size false text (ap (is_wanted false) e))
narrow_size text (Some (Update clock)) e n = omega (arith, same_size false text (ap (is_wanted false) e))
narrow_size text (Some (Write clock)) e n = omega (arith, same_size false text (ap (is_wanted false) e))
narrow_size text (Some (WideEvent source pool)) e n =
    by-test (ltb max_narrow_source source) (length (converted false text) ≤ length text)
    (λ t. absurd (let z : text_number false text ≡ 43 = large-number text source pool e (ltb-true max_narrow_source source t) in omega arith))
    (λ t. shorter text source pool e (ltb-false max_narrow_source source t))
narrow_size text None e n = let z : text_number false text ≡ 16 = (stray-text false text).1 e in absurd (omega arith)

-- ---- enough room

length_whole : (l : Line) → length (whole_line l) ≡ length l.text + length (end_of l.ended)
unfolding whole_line
length_whole l = length-append l.text (end_of l.ended)

-- E says that so much room is enough for so many characters: then there is room for the first line, and enough for those after it
module _ (wide : Bool) (E : ℕ → ℕ → Type 0)
    (step : (l : Line) → text_number wide l.text ≡ 0 → (n room : ℕ) → E (length (whole_line l) + n) room
    → (length (written_of wide l) ≤ room) × E n (room - length (written_of wide l))) where
  never-short : (ls : List Line) (room k : ℕ) → E (length (joined whole_line ls)) room → (converted_lines wide room k ls).number ≡ 46 → ⊥
  never-short [] room k h e = let z : ◌≡◌ {A = ℕ} 0 46 = sym (ap (λ (c : Conversion). c.number) (no_lines wide room k)) ∙ e in omega arith
  never-short (l ∷ ls) room k h e = go (which wide room l) (λ n i. never-short ls n (suc k) i)
    where
      whole : E (length (whole_line l) + length (joined whole_line ls)) room
      whole = unfold joined in rw (← length-append (whole_line l) (joined whole_line ls)) h

      go : LineAccepted wide room l ⊎ (RoomRefused wide room l ⊎ TextRefused wide room l)
          → ((n : ℕ) → E (length (joined whole_line ls)) n → (converted_lines wide n (suc k) ls).number ≡ 46 → ⊥) → ⊥
      go (inl a) rest =
          let c = converted_lines wide (room - length (written_of wide l)) (suc k) ls in
          let more = goes_on wide room k l ls (no-refusal wide room l a.text a.fits) in
          rest (room - length (written_of wide l)) (step l a.text (length (joined whole_line ls)) room whole).1
          (sym (ap (λ (c : Conversion). c.number) more ∙ number-with (written_of wide l) c) ∙ e)
      go (inr (inl r)) rest = omega (arith, (step l r.text (length (joined whole_line ls)) room whole).0, r.short)
      go (inr (inr r)) rest =
          let stop = stops wide room k l ls (λ z. r.some (sym r.number ∙ z)) in
          text-not-46 wide room l (sym r.number ∙ sym (ap (λ (c : Conversion). c.number) stop) ∙ e)

pub enough-room : EnoughRoomLaw
unfolding conversion
enough-room room log = record {
  narrow = λ h. never-short false (λ n room. n ≤ room) narrow_step (log_lines log) room 1 (rw (lines_cut log).whole h);
  wide = λ h. never-short true (λ n room. 4 * n ≤ 3 * room) wide_step (log_lines log) room 1 (rw (lines_cut log).whole h);
}
  where
    narrow_step : (l : Line) → text_number false l.text ≡ 0 → (n room : ℕ) → length (whole_line l) + n ≤ room
        → (length (written_of false l) ≤ room) × (n ≤ room - length (written_of false l))
    narrow_step l p n room h =
        let size = narrow_size l.text (frame_of_text l.text) refl p in
        (omega (arith, size, length_whole l, length-written false l), omega (arith, size, length_whole l, length-written false l))

    wide_step : (l : Line) → text_number true l.text ≡ 0 → (n room : ℕ) → 4 * (length (whole_line l) + n) ≤ 3 * room
        → (length (written_of true l) ≤ room) × (4 * n ≤ 3 * (room - length (written_of true l)))
    wide_step l p n room h =
        let size = wide-size l.text (frame_of_text l.text) refl p in
        (omega (arith, size, length_whole l, length-written true l), omega (arith, size, length_whole l, length-written true l))
