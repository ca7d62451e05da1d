-- The order of the three numbers.
-- Assumes nothing.
use mathlib.Core.Path.{◌≡◌, sym, ◌∙◌}
use mathlib.Core.Bool.{Bool}
use mathlib.Core.Logic.{◌⊎◌, inl, inr}
use Prim.Native.Nat.{ℕ, ◌+◌, ◌<◌}
use native.Mathlib.Omega.{arith}
use lib.ListN.{length}
use Rattle.convert.specs.Texts.{text_number, converted}
use Rattle.convert.specs.Logs.{Line, end_of, refusal_of}
use Rattle.convert.specs.Statements.{OrderLaws}
use Rattle.convert.proofs.TextNumbers.{stray-text, large-text, text-numbers}
use Rattle.convert.proofs.Conversions.{LineAccepted, RoomRefused, TextRefused, which, no-refusal, room-refusal, refusal-text, text-not-46, length-written}

module _ (wide : Bool) (room : ℕ) (l : Line) where
  abbrev Which : Type 0
  Which = LineAccepted wide room l ⊎ (RoomRefused wide room l ⊎ TextRefused wide room l)

  -- a number that no room gives comes from the text
  by-text : (n : ℕ) → (n ≡ 0 → ⊥) → (n ≡ 46 → ⊥) → refusal_of wide room l ≡ n → text_number wide l.text ≡ n
  by-text n z s e = go (which wide room l)
    where
      go : Which → text_number wide l.text ≡ n
      go (inl a) = absurd (z (sym e ∙ no-refusal wide room l a.text a.fits))
      go (inr (inl r)) = absurd (s (sym e ∙ r.number))
      go (inr (inr r)) = sym r.number ∙ e

  from-text : (n : ℕ) → (n ≡ 0 → ⊥) → text_number wide l.text ≡ n → refusal_of wide room l ≡ n
  from-text n z e = refusal-text wide room l (λ q. z (sym e ∙ q)) ∙ e

  by-room : refusal_of wide room l ≡ 46 → (text_number wide l.text ≡ 0) × (room < length (converted wide l.text) + length (end_of l.ended))
  by-room e = go (which wide room l)
    where
      go : Which → (text_number wide l.text ≡ 0) × (room < length (converted wide l.text) + length (end_of l.ended))
      go (inl a) = absurd (omega (arith, e, no-refusal wide room l a.text a.fits))
      go (inr (inl r)) = (r.text, omega (arith, r.short, length-written wide l))
      go (inr (inr r)) = absurd (text-not-46 wide room l (sym r.number ∙ e))

  no_other : (refusal_of wide room l ≡ 16 → ⊥) → (refusal_of wide room l ≡ 43 → ⊥) → (refusal_of wide room l ≡ 46 → ⊥)
      → refusal_of wide room l ≡ 0
  no_other a b c = go (which wide room l) (text-numbers wide l.text)
    where
      go : Which → (text_number wide l.text ≡ 0) ⊎ ((text_number wide l.text ≡ 16) ⊎ (text_number wide l.text ≡ 43))
          → refusal_of wide room l ≡ 0
      go (inl p) n = no-refusal wide room l p.text p.fits
      go (inr (inl r)) n = absurd (c r.number)
      go (inr (inr r)) (inl n) = absurd (r.some n)
      go (inr (inr r)) (inr (inl n)) = absurd (a (r.number ∙ n))
      go (inr (inr r)) (inr (inr n)) = absurd (b (r.number ∙ n))

pub order-laws : OrderLaws
order-laws wide room l = record {
  stray = (
    (λ e. (stray-text wide l.text).0 (by-text wide room l 16 (λ z. omega arith) (λ z. omega arith) e)),
    (λ f. from-text wide room l 16 (λ z. omega arith) ((stray-text wide l.text).1 f)),
  );
  large_source = (
    (λ e. (large-text wide l.text).0 (by-text wide room l 43 (λ z. omega arith) (λ z. omega arith) e)),
    (λ f. from-text wide room l 43 (λ z. omega arith) ((large-text wide l.text).1 f)),
  );
  no_room = ((λ e. by-room wide room l e), (λ h. room-refusal wide room l h.0 (omega (arith, h.1, length-written wide l))));
  else = no_other wide room l;
}
