-- A conversion that had enough room comes to the same in any room that takes what is written.
-- Assumes nothing.
use mathlib.Core.Path.{◌≡◌, sym, ap, ◌∙◌}
use mathlib.Core.Bool.{Bool}
use mathlib.Core.List.{List, [], ◌∷◌}
use mathlib.Core.Logic.{◌⊎◌, inl, inr}
use Prim.Native.Nat.{ℕ, suc, ◌+◌, ◌-◌, ◌≤◌}
use native.Mathlib.Omega.{arith}
use lib.ListN.{length}
use Rattle.convert.specs.Logs.{Line, written_of, refusal_of, Conversion, with_bytes, converted_lines}
use Rattle.convert.proofs.Conversions.{LineAccepted, RoomRefused, TextRefused, which, no-refusal, refusal-text, goes_on, stops, no_lines, number-with, length-with}

-- where the first line is accepted, or its text is refused
module _ (wide : Bool) (room other k : ℕ) (l : Line) (ls : List Line) where
  abbrev rest : ℕ → Conversion
  rest n = converted_lines wide (n - length (written_of wide l)) (suc k) ls

  both-go-on : LineAccepted wide room l → length (converted_lines wide room k (l ∷ ls)).written ≤ other
      → (length (rest room).written ≤ other - length (written_of wide l) → rest other ≡ rest room)
      → converted_lines wide other k (l ∷ ls) ≡ converted_lines wide room k (l ∷ ls)
  both-go-on a h same =
      let here = goes_on wide room k l ls (no-refusal wide room l a.text a.fits) in
      let size : length (converted_lines wide room k (l ∷ ls)).written ≡ length (written_of wide l) + length (rest room).written =
      ap (λ (c : Conversion). length c.written) here ∙ length-with (written_of wide l) (rest room) in
      goes_on wide other k l ls (no-refusal wide other l a.text (omega (arith, h, size)))
      ∙ ap (with_bytes (written_of wide l)) (same (omega (arith, h, size))) ∙ sym here

  both-stop : TextRefused wide room l → converted_lines wide other k (l ∷ ls) ≡ converted_lines wide room k (l ∷ ls)
  both-stop r =
      let same : refusal_of wide other l ≡ refusal_of wide room l = refusal-text wide other l r.some ∙ sym r.number in
      let some : refusal_of wide room l ≡ 0 → ⊥ = λ z. r.some (sym r.number ∙ z) in
      stops wide other k l ls (λ z. some (sym same ∙ z)) ∙ ap (λ (n : ℕ). record { written = []; number = n; line = k }) same
      ∙ sym (stops wide room k l ls some)

pub other-room : (wide : Bool) (room other k : ℕ) (ls : List Line) → ((converted_lines wide room k ls).number ≡ 46 → ⊥)
    → length (converted_lines wide room k ls).written ≤ other → converted_lines wide other k ls ≡ converted_lines wide room k ls
other-room wide room other k [] n h = no_lines wide other k ∙ sym (no_lines wide room k)
other-room wide room other k (l ∷ ls) n h =
    go (which wide room l) (other-room wide (room - length (written_of wide l)) (other - length (written_of wide l)) (suc k) ls)
  where
    go : LineAccepted wide room l ⊎ (RoomRefused wide room l ⊎ TextRefused wide room l)
        → (((rest wide room other k l ls room).number ≡ 46 → ⊥)
        → length (rest wide room other k l ls room).written ≤ other - length (written_of wide l)
        → rest wide room other k l ls other ≡ rest wide room other k l ls room)
        → converted_lines wide other k (l ∷ ls) ≡ converted_lines wide room k (l ∷ ls)
    go (inl a) same =
        let here = goes_on wide room k l ls (no-refusal wide room l a.text a.fits) in
        both-go-on wide room other k l ls a h
        (same (λ e. n (ap (λ (c : Conversion). c.number) here ∙ number-with (written_of wide l) (rest wide room other k l ls room) ∙ e)))
    go (inr (inl r)) same =
        absurd (n (ap (λ (c : Conversion). c.number) (stops wide room k l ls (λ z. omega (arith, z, r.number))) ∙ r.number))
    go (inr (inr r)) same = both-stop wide room other k l ls r
