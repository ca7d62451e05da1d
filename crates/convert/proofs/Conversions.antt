-- The work line by line: what a line's number says, and what a list of lines comes to by its first.
-- Assumes nothing.
use mathlib.Core.Path.{◌≡◌, refl, sym, ◌∙◌}
use mathlib.Core.Bool.{Bool}
use mathlib.Core.List.{List, [], ◌∷◌, ◌++◌, append_assoc}
use mathlib.Core.Logic.{◌⊎◌, inl, inr}
use Prim.Native.Nat.{ℕ, suc, ◌+◌, ◌-◌, ◌≤◌, ◌<◌}
use native.Mathlib.Omega.{arith}
use lib.Dec.{eqb, ltb}
use lib.ListN.{length, length-append}
use borrow.Author.Tests.{eqb-true, eqb-false, eq-eqb, ne_eqb, ltb-true, ltb-false, lt-ltb, le-ltb}
use Rattle.laws.specs.Refusals.{refuse}
use Rattle.laws.proofs.Cases.{by-test}
use Rattle.laws.proofs.Refusals.{refused, not-refused}
use Rattle.pools.specs.Refusals.{and_then}
use Rattle.convert.specs.Texts.{text_number, converted}
use Rattle.convert.specs.Logs.{Line, end_of, whole_line, converted_line, written_of, refusal_of, Conversion, all_written, with_bytes, converted_lines}
use Rattle.convert.proofs.TextNumbers.{text-numbers}

-- ---- the number of a line

module _ (wide : Bool) (room : ℕ) (l : Line) where
  abbrev size : ℕ
  size = length (written_of wide l)

  -- by the text, or else by the room
  pub refusal-text : (text_number wide l.text ≡ 0 → ⊥) → refusal_of wide room l ≡ text_number wide l.text
  unfolding refusal_of and_then
  refusal-text n = rw (ne_eqb (text_number wide l.text) 0 n)

  pub refusal-room : text_number wide l.text ≡ 0 → refusal_of wide room l ≡ refuse (ltb room size) 46 0
  unfolding refusal_of and_then
  refusal-room e = rw e

  pub no-refusal : text_number wide l.text ≡ 0 → size ≤ room → refusal_of wide room l ≡ 0
  no-refusal e h = refusal-room e ∙ not-refused (ltb room size) 46 0 (le-ltb room size h)

  pub room-refusal : text_number wide l.text ≡ 0 → room < size → refusal_of wide room l ≡ 46
  room-refusal e h = refusal-room e ∙ refused (ltb room size) 46 0 (lt-ltb room size h)

  -- which of the three it is
  pub record LineAccepted : Type 0 where
    pub text : text_number wide l.text ≡ 0
    pub fits : size ≤ room

  pub record RoomRefused : Type 0 where
    pub text : text_number wide l.text ≡ 0
    pub short : room < size
    pub number : refusal_of wide room l ≡ 46

  pub record TextRefused : Type 0 where
    pub some : text_number wide l.text ≡ 0 → ⊥
    pub number : refusal_of wide room l ≡ text_number wide l.text

  pub which : LineAccepted ⊎ (RoomRefused ⊎ TextRefused)
  which =
      by-test (eqb (text_number wide l.text) 0) (LineAccepted ⊎ (RoomRefused ⊎ TextRefused))
      (λ t.
      let e = eqb-true (text_number wide l.text) 0 t in
      by-test (ltb room size) (LineAccepted ⊎ (RoomRefused ⊎ TextRefused))
      (λ u. let h = ltb-true room size u in inr (inl (record { text = e; short = h; number = room-refusal e h })))
      (λ u. inl (record { text = e; fits = ltb-false room size u })))
      (λ t. let n = eqb-false (text_number wide l.text) 0 t in inr (inr (record { some = n; number = refusal-text n })))

  pub text-not-46 : text_number wide l.text ≡ 46 → ⊥
  text-not-46 e = go (text-numbers wide l.text)
    where
      go : (text_number wide l.text ≡ 0) ⊎ ((text_number wide l.text ≡ 16) ⊎ (text_number wide l.text ≡ 43)) → ⊥
      go (inl z) = omega arith
      go (inr (inl z)) = omega arith
      go (inr (inr z)) = omega arith

  pub line-accepted : refusal_of wide room l ≡ 0 → LineAccepted
  line-accepted e = go which
    where
      go : LineAccepted ⊎ (RoomRefused ⊎ TextRefused) → LineAccepted
      go (inl a) = a
      go (inr (inl r)) = absurd (omega (arith, e, r.number))
      go (inr (inr r)) = absurd (r.some (sym r.number ∙ e))

pub length-written : (wide : Bool) (l : Line) → length (written_of wide l) ≡ length (converted wide l.text) + length (end_of l.ended)
unfolding written_of whole_line converted_line
length-written wide l = length-append (converted wide l.text) (end_of l.ended)

-- ---- a list of lines

pub with-with : (a b : List ℕ) (c : Conversion) → with_bytes a (with_bytes b c) ≡ with_bytes (a ++ b) c
unfolding with_bytes
with-with a b c = λ i. record { written = sym (append_assoc a b c.written) i; number = c.number; line = c.line }

pub number-with : (bytes : List ℕ) (c : Conversion) → (with_bytes bytes c).number ≡ c.number
unfolding with_bytes
number-with bytes c = refl

pub length-with : (bytes : List ℕ) (c : Conversion) → length (with_bytes bytes c).written ≡ length bytes + length c.written
unfolding with_bytes
length-with bytes c = length-append bytes c.written

pub no_lines : (wide : Bool) (room k : ℕ) → converted_lines wide room k [] ≡ all_written []
unfolding converted_lines
no_lines wide room k = refl

-- the first of them is accepted, or refused
module _ (wide : Bool) (room k : ℕ) (l : Line) (ls : List Line) where
  pub goes_on : refusal_of wide room l ≡ 0
      → converted_lines wide room k (l ∷ ls) ≡ with_bytes (written_of wide l) (converted_lines wide (room - length (written_of wide l)) (suc k) ls)
  unfolding converted_lines
  goes_on h = rw (eq-eqb (refusal_of wide room l) 0 h)

  pub stops : (refusal_of wide room l ≡ 0 → ⊥)
      → converted_lines wide room k (l ∷ ls) ≡ record { written = []; number = refusal_of wide room l; line = k }
  unfolding converted_lines
  stops h = rw (ne_eqb (refusal_of wide room l) 0 h)

  -- what holds of either holds of the list
  pub either : (P : Conversion → Type 0)
      → (refusal_of wide room l ≡ 0 → P (with_bytes (written_of wide l) (converted_lines wide (room - length (written_of wide l)) (suc k) ls)))
      → ((refusal_of wide room l ≡ 0 → ⊥) → P (record { written = []; number = refusal_of wide room l; line = k }))
      → P (converted_lines wide room k (l ∷ ls))
  either P f g =
      by-test (eqb (refusal_of wide room l) 0) (P (converted_lines wide room k (l ∷ ls)))
      (λ t. let e = eqb-true (refusal_of wide room l) 0 t in rw (goes_on e) (f e))
      (λ t. let n = eqb-false (refusal_of wide room l) 0 t in rw (stops n) (g n))

-- what is written fits
pub fits : (wide : Bool) (room k : ℕ) (ls : List Line) → length (converted_lines wide room k ls).written ≤ room
fits wide room k [] = rw (no_lines wide room k) (omega arith)
fits wide room k (l ∷ ls) =
    let rest = converted_lines wide (room - length (written_of wide l)) (suc k) ls in
    either wide room k l ls (λ (c : Conversion). length c.written ≤ room)
    (λ e.
    let size : length (written_of wide l) ≤ room = (line-accepted wide room l e).fits in
    omega (arith, size, length-with (written_of wide l) rest, fits wide (room - length (written_of wide l)) (suc k) ls))
    (λ n. omega arith)
