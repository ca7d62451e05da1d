-- The lines that are written, and the first refused one.
-- Assumes nothing.
use mathlib.Core.Path.{◌≡◌, refl, ap, ◌∙◌}
use mathlib.Core.Bool.{Bool}
use mathlib.Core.List.{List, [], ◌∷◌, ◌++◌}
use mathlib.Core.Logic.{◌⊎◌, inl, inr}
use Prim.Native.Nat.{ℕ, zero, suc, ◌+◌, ◌-◌, ◌<◌}
use native.Mathlib.Omega.{arith}
use lib.ListN.{length, take, get_or, length-append}
use lib.Seq.{take_all}
use Rattle.laws.specs.Lists.{joined}
use Rattle.convert.specs.Logs.{Line, log_lines, written_of, refusal_of, Conversion, all_written, with_bytes, converted_lines, conversion}
use Rattle.convert.specs.Statements.{absent_line, Finished, Stopped, FirstRefusedLaw}
use Rattle.convert.proofs.Conversions.{no_lines, either, fits}

-- the room that the first j lines leave
abbrev pub left_room : Bool → ℕ → List Line → ℕ → ℕ
left_room wide room ls j = room - length (joined (written_of wide) (take j ls))

-- every line was written
pub record Ended (ls : List Line) (k : ℕ) (c : Conversion) : Type 0 where
  pub all : k ≡ length ls
  pub number : c.number ≡ 0
  pub line : c.line ≡ 0

-- the line after the first k is refused
pub record Refused (wide : Bool) (room first : ℕ) (ls : List Line) (k : ℕ) (c : Conversion) : Type 0 where
  pub inside : k < length ls
  pub some : c.number ≡ 0 → ⊥
  pub number : refusal_of wide (left_room wide room ls k) (get_or ls k absent_line) ≡ c.number
  pub line : c.line ≡ first + k

-- the first k lines are written, and no more
pub record Came (wide : Bool) (room first : ℕ) (ls : List Line) (c : Conversion) : Type 0 where
  pub k : ℕ
  pub passed : (j : ℕ) → j < k → refusal_of wide (left_room wide room ls j) (get_or ls j absent_line) ≡ 0
  pub written : c.written ≡ joined (written_of wide) (take k ls)
  pub last : Ended ls k c ⊎ Refused wide room first ls k c

none_came : (wide : Bool) (room first : ℕ) → Came wide room first [] (all_written [])
unfolding joined
none_came wide room first = record {
  k = 0;
  passed = λ j h. absurd (omega arith);
  written = refl;
  last = inl (record { all = refl; number = refl; line = refl });
}

-- the first line is refused
came-here : (wide : Bool) (room first : ℕ) (l : Line) (ls : List Line) → (refusal_of wide room l ≡ 0 → ⊥)
    → Came wide room first (l ∷ ls) (record { written = []; number = refusal_of wide room l; line = first })
unfolding joined
came-here wide room first l ls n =
    let z : room - 0 ≡ room = omega arith in
    record {
      k = 0;
      passed = λ j h. absurd (omega arith);
      written = refl;
      last = inr (record { inside = omega arith; some = n; number = ap (λ (x : ℕ). refusal_of wide x l) z; line = omega arith });
    }

-- or it is written, and the rest comes to what it comes to
module _ (wide : Bool) (room first : ℕ) (l : Line) (ls : List Line) (c : Conversion) (e : refusal_of wide room l ≡ 0)
    (r : Came wide (room - length (written_of wide l)) (suc first) ls c) where
  left-more : (j : ℕ) → left_room wide room (l ∷ ls) (suc j) ≡ left_room wide (room - length (written_of wide l)) ls j
  unfolding joined
  left-more j = rw (length-append (written_of wide l) (joined (written_of wide) (take j ls))) (omega arith)

  earlier : (j : ℕ) → j < suc r.k → refusal_of wide (left_room wide room (l ∷ ls) j) (get_or (l ∷ ls) j absent_line) ≡ 0
  unfolding joined
  earlier zero h = let z : room - 0 ≡ room = omega arith in ap (λ (n : ℕ). refusal_of wide n l) z ∙ e
  earlier (suc j) h = ap (λ (n : ℕ). refusal_of wide n (get_or ls j absent_line)) (left-more j) ∙ r.passed j (omega arith)

  last_more : Ended ls r.k c ⊎ Refused wide (room - length (written_of wide l)) (suc first) ls r.k c
      → Ended (l ∷ ls) (suc r.k) (with_bytes (written_of wide l) c) ⊎ Refused wide room first (l ∷ ls) (suc r.k) (with_bytes (written_of wide l) c)
  unfolding with_bytes
  last_more (inl x) = inl (record { all = ap suc x.all; number = x.number; line = x.line })
  last_more (inr x) = inr (record {
    inside = omega (arith, x.inside);
    some = x.some;
    number = ap (λ (n : ℕ). refusal_of wide n (get_or ls r.k absent_line)) (left-more r.k) ∙ x.number;
    line = x.line ∙ omega arith;
  })

  came-later : Came wide room first (l ∷ ls) (with_bytes (written_of wide l) c)
  came-later = record {
    k = suc r.k;
    passed = earlier;
    written = unfold with_bytes joined in ap (λ (x : List ℕ). written_of wide l ++ x) r.written;
    last = last_more r.last;
  }

pub came : (wide : Bool) (room first : ℕ) (ls : List Line) → Came wide room first ls (converted_lines wide room first ls)
came wide room first [] = rw (no_lines wide room first) (none_came wide room first)
came wide room first (l ∷ ls) =
    either wide room first l ls (Came wide room first (l ∷ ls))
    (λ e. came-later wide room first l ls _ e (came wide (room - length (written_of wide l)) (suc first) ls))
    (came-here wide room first l ls)

-- ---- of a log

pub came-log : (wide : Bool) (room : ℕ) (log : List ℕ) → Came wide room 1 (log_lines log) (conversion wide room log)
unfolding conversion
came-log wide room log = came wide room 1 (log_lines log)

module _ (wide : Bool) (room : ℕ) (log : List ℕ) (r : Came wide room 1 (log_lines log) (conversion wide room log)) where
  abbrev End : Type 0
  End = Ended (log_lines log) r.k (conversion wide room log) ⊎ Refused wide room 1 (log_lines log) r.k (conversion wide room log)

  whole : (conversion wide room log).number ≡ 0 → End → Finished wide room log
  whole h (inl x) = record {
    passed = λ j i. r.passed j (omega (arith, i, x.all));
    line = x.line;
    written = r.written ∙ ap (joined (written_of wide)) (take_all r.k (log_lines log) (omega (arith, x.all)));
  }
  whole h (inr x) = absurd (x.some h)

  at-line : ((conversion wide room log).number ≡ 0 → ⊥) → End → Stopped wide room log
  at-line h (inl x) = absurd (h x.number)
  at-line h (inr x) = record {
    k = r.k;
    inside = x.inside;
    passed = r.passed;
    refused = x.number;
    line = x.line ∙ omega arith;
    written = r.written;
  }

pub first-refused : FirstRefusedLaw
first-refused wide room log =
    let r = came-log wide room log in
    record {
      fits = unfold conversion in fits wide room 1 (log_lines log);
      all = λ h. whole wide room log r h r.last;
      stopped = λ h. at-line wide room log r h r.last;
    }
