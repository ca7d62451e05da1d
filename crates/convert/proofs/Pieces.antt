-- A log that is cut after its lines and converted piece by piece.
-- Assumes nothing.
use mathlib.Core.Path.{◌≡◌, refl, sym, ap, ap₂, ◌∙◌}
use mathlib.Core.Bool.{Bool}
use mathlib.Core.List.{List, [], ◌∷◌, ◌++◌, append-nil}
use mathlib.Core.Logic.{◌⊎◌, inl, inr}
use Prim.Native.Nat.{ℕ, suc, ◌+◌, ◌-◌, ◌≤◌}
use native.Mathlib.Omega.{arith}
use lib.Dec.{eqb}
use lib.ListN.{length}
use borrow.Author.Tests.{eqb-true, eqb-false, eq-eqb, ne_eqb}
use Rattle.laws.specs.Lists.{joined}
use Rattle.laws.proofs.Cases.{by-test}
use Rattle.bench.specs.Lines.{line_feed}
use Rattle.convert.specs.Logs.{Line, log_lines, written_of, refusal_of, Conversion, all_written, with_bytes, converted_lines, conversion}
use Rattle.convert.specs.Pieces.{with_lines, in_pieces}
use Rattle.convert.specs.Statements.{CutAfterLines, PiecesLaw}
use Rattle.convert.proofs.LogLines.{joined-none, lines_none, lines-append}
use Rattle.convert.proofs.Conversions.{goes_on, stops, no_lines, with-with, number-with, length-with}
use Rattle.convert.proofs.OtherRooms.{other-room}

-- ---- line numbers

count-with : (n : ℕ) (bytes : List ℕ) (c : Conversion) → with_lines n (with_bytes bytes c) ≡ with_bytes bytes (with_lines n c)
unfolding with_lines with_bytes
count-with n bytes c = refl

count-some : (n k m : ℕ) → (m ≡ 0 → ⊥)
    → with_lines n (record { written = []; number = m; line = k }) ≡ record { written = []; number = m; line = n + k }
unfolding with_lines
count-some n k m h = rw (ne_eqb m 0 h)

count_none : (n : ℕ) → with_lines n (all_written []) ≡ (all_written [])
unfolding with_lines
count_none n = refl

-- lines that are counted from n + k on
numbered : (wide : Bool) (room n k : ℕ) (ls : List Line) → converted_lines wide room (n + k) ls ≡ with_lines n (converted_lines wide room k ls)
numbered wide room n k [] = no_lines wide room (n + k) ∙ sym (count_none n) ∙ ap (with_lines n) (sym (no_lines wide room k))
numbered wide room n k (l ∷ ls) =
    by-test (eqb (refusal_of wide room l) 0) (converted_lines wide room (n + k) (l ∷ ls) ≡ with_lines n (converted_lines wide room k (l ∷ ls)))
    (λ t.
    let e = eqb-true (refusal_of wide room l) 0 t in
    let less = room - length (written_of wide l) in
    let next : suc (n + k) ≡ n + suc k = omega arith in
    goes_on wide room (n + k) l ls e
    ∙ ap (with_bytes (written_of wide l)) (ap (λ (x : ℕ). converted_lines wide less x ls) next ∙ numbered wide less n (suc k) ls)
    ∙ sym (count-with n (written_of wide l) (converted_lines wide less (suc k) ls)) ∙ ap (with_lines n) (sym (goes_on wide room k l ls e)))
    (λ t.
    let s = eqb-false (refusal_of wide room l) 0 t in
    stops wide room (n + k) l ls s ∙ sym (count-some n k (refusal_of wide room l) s) ∙ ap (with_lines n) (sym (stops wide room k l ls s)))

-- ---- lines and those after them

module _ (wide : Bool) (ms : List Line) where
  -- what comes after the first ones, with the room that they leave
  abbrev followed : ℕ → ℕ → Conversion → Conversion
  followed room k c = with_bytes c.written (converted_lines wide (room - length c.written) k ms)

  followed-none : (room k : ℕ) → followed room (k + 0) (all_written []) ≡ converted_lines wide room k ms
  unfolding with_bytes
  followed-none room k =
      let z : room - 0 ≡ room = omega arith in
      let same : k + 0 ≡ k = omega arith in
      ap₂ (λ (r n : ℕ). converted_lines wide r n ms) z same

  followed-more : (room k : ℕ) (bytes : List ℕ) (c : Conversion)
      → with_bytes bytes (followed (room - length bytes) k c) ≡ followed room k (with_bytes bytes c)
  followed-more room k bytes c =
      let less : room - length bytes - length c.written ≡ room - length (with_bytes bytes c).written = omega (arith, length-with bytes c) in
      with-with bytes c.written _ ∙ ap (λ (r : ℕ). with_bytes (bytes ++ c.written) (converted_lines wide r k ms)) less
      ∙ ap (λ (x : List ℕ). with_bytes x (converted_lines wide (room - length (with_bytes bytes c).written) k ms)) (unfold with_bytes in refl)

  -- where the first ones are all written
  goes_over : (room k : ℕ) (ls : List Line) → (converted_lines wide room k ls).number ≡ 0
      → converted_lines wide room k (ls ++ ms) ≡ followed room (k + length ls) (converted_lines wide room k ls)
  goes_over room k [] e = sym (followed-none room k) ∙ ap (followed room (k + 0)) (sym (no_lines wide room k))
  goes_over room k (l ∷ ls) e =
      by-test (eqb (refusal_of wide room l) 0)
      (converted_lines wide room k (l ∷ (ls ++ ms)) ≡ followed room (k + suc (length ls)) (converted_lines wide room k (l ∷ ls)))
      (λ t.
      let a = eqb-true (refusal_of wide room l) 0 t in
      let less = room - length (written_of wide l) in
      let rest = converted_lines wide less (suc k) ls in
      let here = goes_on wide room k l ls a in
      let none : rest.number ≡ 0 = sym (ap (λ (c : Conversion). c.number) here ∙ number-with (written_of wide l) rest) ∙ e in
      let count : suc k + length ls ≡ k + suc (length ls) = omega arith in
      goes_on wide room k l (ls ++ ms) a
      ∙ ap (with_bytes (written_of wide l)) (goes_over less (suc k) ls none ∙ ap (λ (n : ℕ). followed less n rest) count)
      ∙ followed-more room (k + suc (length ls)) (written_of wide l) rest ∙ ap (followed room (k + suc (length ls))) (sym here))
      (λ t.
      let s = eqb-false (refusal_of wide room l) 0 t in
      absurd (s (sym (ap (λ (c : Conversion). c.number) (stops wide room k l ls s)) ∙ e)))

  -- where one of them is refused
  stops-before : (room k : ℕ) (ls : List Line) → ((converted_lines wide room k ls).number ≡ 0 → ⊥)
      → converted_lines wide room k (ls ++ ms) ≡ converted_lines wide room k ls
  stops-before room k [] n = absurd (n (ap (λ (c : Conversion). c.number) (no_lines wide room k)))
  stops-before room k (l ∷ ls) n =
      by-test (eqb (refusal_of wide room l) 0) (converted_lines wide room k (l ∷ (ls ++ ms)) ≡ converted_lines wide room k (l ∷ ls))
      (λ t.
      let e = eqb-true (refusal_of wide room l) 0 t in
      let less = room - length (written_of wide l) in
      let here = goes_on wide room k l ls e in
      let some : (converted_lines wide less (suc k) ls).number ≡ 0 → ⊥ =
      λ z. n (ap (λ (c : Conversion). c.number) here ∙ number-with (written_of wide l) (converted_lines wide less (suc k) ls) ∙ z) in
      goes_on wide room k l (ls ++ ms) e ∙ ap (with_bytes (written_of wide l)) (stops-before less (suc k) ls some) ∙ sym here)
      (λ t.
      let s = eqb-false (refusal_of wide room l) 0 t in
      stops wide room k l (ls ++ ms) s ∙ sym (stops wide room k l ls s))

-- ---- pieces

-- the lines of a piece and of those after it
lines-pieces : (piece : List ℕ) (pieces : List (List ℕ)) → CutAfterLines (piece ∷ pieces)
    → log_lines (joined (λ p. p) (piece ∷ pieces)) ≡ log_lines piece ++ log_lines (joined (λ p. p) pieces)
unfolding joined
lines-pieces piece [] cut =
    ap log_lines (append-nil piece) ∙ sym (append-nil (log_lines piece)) ∙ ap (λ (x : List Line). log_lines piece ++ x) (sym lines_none)
lines-pieces piece (next ∷ pieces) cut =
    go (cut 0 (omega arith))
  where
    rest : List ℕ
    rest = next ++ joined (λ p. p) pieces

    go : (piece ≡ []) ⊎ ((before : List ℕ) × (piece ≡ before ++ (line_feed ∷ []))) → log_lines (piece ++ rest) ≡ log_lines piece ++ log_lines rest
    go (inl e) =
        ap (λ (x : List ℕ). log_lines (x ++ rest)) e ∙ ap (λ (x : List Line). x ++ log_lines rest) (sym lines_none ∙ ap log_lines (sym e))
    go (inr (before, e)) = lines-append piece _ before e

lines-written : (before : ℕ) (c : Conversion) → (with_lines before c).written ≡ c.written
unfolding with_lines
lines-written before c = refl

lines-number : (before : ℕ) (c : Conversion) → (with_lines before c).number ≡ c.number
unfolding with_lines
lines-number before c = refl

-- a piece whose lines are all written, and one in which a line is refused
module _ (wide : Bool) (room before : ℕ) (piece : List ℕ) (pieces : List (List ℕ)) where
  abbrev here : Conversion
  here = conversion wide room piece

  abbrev later : Conversion
  later = in_pieces wide room (before + length (log_lines piece)) pieces

  pieces-on : here.number ≡ 0 → in_pieces wide room before (piece ∷ pieces) ≡ with_bytes here.written later
  unfolding in_pieces with_lines
  pieces-on e = rw (eq-eqb here.number 0 e)

  pieces-stop : (here.number ≡ 0 → ⊥) → in_pieces wide room before (piece ∷ pieces) ≡ with_lines before here
  unfolding in_pieces with_lines
  pieces-stop n = rw (ne_eqb here.number 0 n)

  -- the piece's own lines, in another room, counted from those before
  here-is : (whole : ℕ) → (here.number ≡ 46 → ⊥) → length here.written ≤ whole
      → converted_lines wide whole (before + 1) (log_lines piece) ≡ with_lines before here
  unfolding conversion
  here-is whole n h =
      numbered wide whole before 1 (log_lines piece) ∙ ap (with_lines before) (other-room wide room whole 1 (log_lines piece) n h)

  abbrev both : Conversion
  both = in_pieces wide room before (piece ∷ pieces)

  module _ (whole : ℕ) (n : both.number ≡ 46 → ⊥) (h : length both.written ≤ whole) (ls : List Line) where
    on : here.number ≡ 0
        → ((later.number ≡ 46 → ⊥) → length later.written ≤ whole - length here.written
        → converted_lines wide (whole - length here.written) (before + length (log_lines piece) + 1) ls ≡ later)
        → converted_lines wide whole (before + 1) (log_lines piece ++ ls) ≡ both
    on e rest =
        let more = pieces-on e in
        let size : length both.written ≡ length here.written + length later.written =
        ap (λ (c : Conversion). length c.written) more ∙ length-with here.written later in
        let is = here-is whole (λ z. omega (arith, e, z)) (omega (arith, h, size)) in
        let none : (converted_lines wide whole (before + 1) (log_lines piece)).number ≡ 0 =
        ap (λ (c : Conversion). c.number) is ∙ lines-number before here ∙ e in
        let count : before + 1 + length (log_lines piece) ≡ before + length (log_lines piece) + 1 = omega arith in
        let last = rest (λ z. n (ap (λ (c : Conversion). c.number) more ∙ number-with here.written later ∙ z)) (omega (arith, h, size)) in
        goes_over wide ls whole (before + 1) (log_lines piece) none
        ∙ ap (λ (x : List ℕ). with_bytes x (converted_lines wide (whole - length x) (before + 1 + length (log_lines piece)) ls))
        (ap (λ (c : Conversion). c.written) is ∙ lines-written before here)
        ∙ ap (with_bytes here.written) (ap (λ (k : ℕ). converted_lines wide (whole - length here.written) k ls) count ∙ last) ∙ sym more

    stop : (here.number ≡ 0 → ⊥) → converted_lines wide whole (before + 1) (log_lines piece ++ ls) ≡ both
    stop s =
        let end = pieces-stop s in
        let number : both.number ≡ here.number = ap (λ (c : Conversion). c.number) end ∙ lines-number before here in
        let size : length both.written ≡ length here.written =
        ap (λ (c : Conversion). length c.written) end ∙ ap length (lines-written before here) in
        let is = here-is whole (λ z. n (number ∙ z)) (omega (arith, h, size)) in
        let some : (converted_lines wide whole (before + 1) (log_lines piece)).number ≡ 0 → ⊥ =
        λ z. s (sym (ap (λ (c : Conversion). c.number) is ∙ lines-number before here) ∙ z) in
        stops-before wide ls whole (before + 1) (log_lines piece) some ∙ is ∙ sym end

no_pieces : (wide : Bool) (room before : ℕ) → in_pieces wide room before [] ≡ (all_written [])
unfolding in_pieces
no_pieces wide room before = refl

later-cut : (piece : List ℕ) (pieces : List (List ℕ)) → CutAfterLines (piece ∷ pieces) → CutAfterLines pieces
later-cut piece pieces cut k h = cut (suc k) (omega arith)

module _ (wide : Bool) (room : ℕ) where
  piece-by-piece : (pieces : List (List ℕ)) (before whole : ℕ) → CutAfterLines pieces → ((in_pieces wide room before pieces).number ≡ 46 → ⊥)
      → length (in_pieces wide room before pieces).written ≤ whole
      → converted_lines wide whole (before + 1) (log_lines (joined (λ p. p) pieces)) ≡ in_pieces wide room before pieces
  piece-by-piece [] before whole cut n h =
      ap (converted_lines wide whole (before + 1)) (ap log_lines (joined-none (λ p. p)) ∙ lines_none)
      ∙ no_lines wide whole (before + 1) ∙ sym (no_pieces wide room before)
  piece-by-piece (piece ∷ pieces) before whole cut n h =
      ap (converted_lines wide whole (before + 1)) (lines-pieces piece pieces cut)
      ∙ by-test (eqb (conversion wide room piece).number 0)
      (converted_lines wide whole (before + 1) (log_lines piece ++ log_lines (joined (λ p. p) pieces)) ≡ in_pieces wide room before (piece ∷ pieces))
      (λ t.
      on wide room before piece pieces whole n h (log_lines (joined (λ p. p) pieces)) (eqb-true (conversion wide room piece).number 0 t)
      (piece-by-piece pieces (before + length (log_lines piece)) (whole - length (conversion wide room piece).written) (later-cut piece pieces cut)))
      (λ t. stop wide room before piece pieces whole n h (log_lines (joined (λ p. p) pieces)) (eqb-false (conversion wide room piece).number 0 t))

pub in-pieces : PiecesLaw
unfolding conversion
in-pieces wide room whole pieces cut n h = piece-by-piece wide room pieces 0 whole cut n h
