-- The lines of a log, one after the other, as the code walks them.
-- Assumes nothing.
use mathlib.Core.Path.{◌≡◌, refl, sym, ap, ap₂, ◌∙◌}
use mathlib.Core.Bool.{Bool, true, false}
use mathlib.Core.List.{List, [], ◌∷◌, ◌++◌, append_assoc, append-nil}
use Prim.Native.Nat.{ℕ, suc, ◌+◌, ◌-◌, ◌≤◌, ◌<◌}
use native.Mathlib.Nat.{le_of_eq}
use native.Mathlib.Omega.{arith}
use lib.ListN.{length, take, drop, length-append, length-drop, take-append-drop, drop_of_length-le}
use lib.Seq.{drop-drop, take_at, drop_at, length-take-le}
use lib.Dec.{eqb, ltb}
use lib.Pointwise.{pointwise}
use denote.Ref.{Bor}
use denote.Param.Members.{Mut}
use borrow.Author.Tests.{eq-eqb, ne_eqb}
use Rattle.std.specs.Prelude.{Option, Some, MatchOption, unwrap_or, nat_eq, Result, Ok, Err}
use Rattle.std.specs.Fn.{CalledAt}
use Rattle.std.specs.Iterator.{Yields}
use Rattle.std.specs.Slice.Iter.{split_inclusive_rest, split_inclusive_callee}
use Rattle.std.specs.declared.slice.SplitInclusive.{SplitInclusive}
use Rattle.std.proofs.lemmas.List.{nil_from_length}
use Rattle.laws.specs.Lists.{overwrite}
use Rattle.laws.proofs.Copy.{overwrite-fits, part_end}
use Rattle.bench.proofs.Buffers.{overwrite-nothing}
use Rattle.bench.specs.Lines.{line_feed}
use Rattle.bench.proofs.Lines.{used-more}
use Rattle.bench.proofs.Logs.{Cuts, part-text, part-uses, part-cut, part-some}
use Rattle.convert.specs.Logs.{Line, line_with, log_lines, written_of, refusal_of, Conversion, all_written, with_bytes, converted_lines, conversion}
use Rattle.convert.specs.Promises.{code, code-above-0, number, written_bytes, line_writes, Gives, ConvertsLine, FirstPart}
use Rattle.convert.specs.declared.refusal.Refusal.{Refusal}
use Rattle.convert.proofs.Writes.{first-part}
use Rattle.convert.proofs.LogLines.{lines_none, lines-first}
use Rattle.convert.proofs.Conversions.{line-accepted, goes_on, stops, no_lines, with-with, number-with}
use Rattle.convert.proofs.FirstRefused.{first-refused}

-- what was done of a log, of which `left` is still to be done: so many bytes are written, and what comes of the rest comes after them
pub record Walked (wide : Bool) (log out₀ out left : List ℕ) (line written : ℕ) : Type 0 where
  pub room : written ≤ length out₀
  pub kept : length out ≡ length out₀
  pub lines-few : line + length left ≤ length log + 1
  pub rest : drop written out ≡ drop written out₀
  pub whole :
      conversion wide (length out₀) log
      ≡ with_bytes (take written out) (converted_lines wide (length out₀ - written) line (log_lines left))

pub walked_none : (wide : Bool) (log out : List ℕ) → Walked wide log out out log 1 0
walked_none wide log out = record {
  room = omega arith;
  kept = refl;
  lines-few = omega arith;
  rest = refl;
  whole = begun;
}
  where
    begun : conversion wide (length out) log ≡ with_bytes (take 0 out) (converted_lines wide (length out - 0) 1 (log_lines log))
    begun =
        unfold conversion with_bytes in
        let z : length out - 0 ≡ length out = omega arith in ap (λ (n : ℕ). converted_lines wide n 1 (log_lines log)) (sym z)

-- a part that `split_inclusive` gives is the first line of what it has left, and its end
module _ {F : Type 0} (g : Mut F (Bor ℕ × Unit {0}) Bool) (s t u : SplitInclusive ℕ F) (xs : List (Bor (List ℕ))) (sofar : Yields (Cuts g) s xs t)
    (tests : (x : ℕ) (b : Bool) (q : F) → CalledAt g (split_inclusive_callee s) x b q → (q ≡ split_inclusive_callee s) × (b ≡ eqb x line_feed))
    (r : Option (Bor (List ℕ))) (x : Bor (List ℕ)) (is : r ≡ Some x) (next : Cuts g t r u) (found : Option (Bor (List ℕ)))
    (m : MatchOption found (pointwise nat_eq (drop (length x.now - 1) x.now) (line_feed ∷ []) ≡ false)
    (λ y. (pointwise nat_eq (drop (length x.now - 1) x.now) (line_feed ∷ []) ≡ true) × (y.now ≡ take (length x.now - 1) x.now)
    × (length y.now + 1 ≡ length x.now)))
    (text : Bor (List ℕ)) (is-text : text ≡ unwrap_or found x) where
  pub part-first : FirstPart (split_inclusive_rest t) x.now text.now (ltb (length text.now) (length x.now)) (split_inclusive_rest u)
  part-first =
      first-part (split_inclusive_rest t) x.now text.now (split_inclusive_rest u)
      (ap (λ (b : Bor (List ℕ)). b.now) is-text ∙ part-text g s t u xs sofar tests r x is next found m)
      (part-uses g s t u xs sofar tests r x is next) (part-cut g s t u xs sofar tests r x is next) (part-some g s t u xs sofar tests r x is next)

-- the same of the text and the end that the code passes on, whatever words it has for them
pub given-first : (rest piece text text' : List ℕ) (ended : Bool) (after : List ℕ) → FirstPart rest piece text (ltb (length text) (length piece)) after
    → text' ≡ text → ended ≡ ltb (length text) (length piece) → FirstPart rest piece text' ended after
given-first rest piece text text' ended after f same-text same-end = rw (same-text, same-end) f

-- what a buffer holds where its front is written and the rest is as it was
front-is : (out₀ out : List ℕ) (n : ℕ) → n ≤ length out₀ → length out ≡ length out₀ → drop n out ≡ drop n out₀
    → out ≡ overwrite out₀ (take n out)
front-is out₀ out n h e r =
    let size : length (take n out) ≡ n = length-take-le n out (omega arith) in
    sym (take-append-drop n out) ∙ ap (λ (x : List ℕ). take n out ++ x) (r ∙ ap (λ (k : ℕ). drop k out₀) (sym size))
    ∙ sym (overwrite-fits out₀ (take n out) (omega (arith, size)))

line-with : (bytes : List ℕ) (c : Conversion) → (with_bytes bytes c).line ≡ c.line
unfolding with_bytes
line-with bytes c = refl

-- what one line writes, by its number
module _ (wide : Bool) (room : ℕ) (l : Line) where
  writes-all : refusal_of wide room l ≡ 0 → line_writes wide room l ≡ written_of wide l
  unfolding line_writes
  writes-all e = rw (eq-eqb (refusal_of wide room l) 0 e)

  writes-none : (refusal_of wide room l ≡ 0 → ⊥) → line_writes wide room l ≡ []
  unfolding line_writes
  writes-none n = rw (ne_eqb (refusal_of wide room l) 0 n)

module _ (wide : Bool) (log out₀ out left : List ℕ) (line written : ℕ) (w : Walked wide log out₀ out left line written) where
  -- what is left of the buffer
  abbrev part : List ℕ
  part = take (length out - written) (drop written out)

  part-is : part ≡ drop written out₀
  part-is = part_end written out ∙ w.rest

  part_room : length part ≡ length out₀ - written
  part_room = ap length part-is ∙ length-drop written out₀

  front-size : length (take written out) ≡ written
  front-size = length-take-le written out (omega (arith, w.room, w.kept))

  -- a conversion that comes to what is written so far
  so_far : (c : Conversion) → conversion wide (length out₀) log ≡ with_bytes (take written out) c → c.written ≡ []
      → (written ≡ length (conversion wide (length out₀) log).written) × (out ≡ overwrite out₀ (conversion wide (length out₀) log).written)
  so_far c e none =
      let all : (conversion wide (length out₀) log).written ≡ take written out =
      ap (λ (x : Conversion). x.written) e ∙ (unfold with_bytes in ap (λ (x : List ℕ). take written out ++ x) none ∙ append-nil (take written out)) in
      (sym (ap length all ∙ front-size), front-is out₀ out written w.room w.kept w.rest ∙ ap (overwrite out₀) (sym all))

  pub walk_ends : length left ≡ 0 → Gives (conversion wide (length out₀) log) (record { answer = Ok tt; written = written }) out₀ out
  walk_ends h =
      let none : left ≡ [] = nil_from_length left h in
      let e : conversion wide (length out₀) log ≡ with_bytes (take written out) (all_written []) =
      w.whole ∙ ap (with_bytes (take written out)) (ap (λ (x : List ℕ). converted_lines wide (length out₀ - written) line (log_lines x)) none
      ∙ ap (converted_lines wide (length out₀ - written) line) lines_none ∙ no_lines wide (length out₀ - written) line) in
      let s = so_far (all_written []) e refl in
      record {
        number_is = sym (ap (λ (x : Conversion). x.number) e ∙ number-with (take written out) (all_written []));
        line-is = sym (ap (λ (x : Conversion). x.line) e ∙ line-with (take written out) (all_written []));
        written_is = s.0;
        fits = (first-refused wide (length out₀) log).fits;
        buffer-is = s.1;
      }

  -- a line more
  module _ (piece text : List ℕ) (ended : Bool) (after : List ℕ) (o : Result ℕ Refusal) (part' : List ℕ)
      (g : ConvertsLine wide (line_with text ended) o part part') (f : FirstPart left piece text ended after) where
    used-some : 0 < length piece
    used-some = omega (arith, f.used-is, used-more left f.some)

    after-size : length piece + length after ≡ length left
    after-size = sym (ap length f.cut ∙ length-append piece after)

    abbrev here : Line
    here = line_with text ended

    abbrev behind : List Line
    behind = log_lines after

    lines-here : log_lines left ≡ here ∷ behind
    lines-here =
        lines-first left f.some
        ∙ ap₂ (λ (l : Line) (x : List ℕ). l ∷ log_lines x) (sym f.line-is)
        (ap₂ drop (sym f.used-is) f.cut ∙ drop_at piece after (length piece) refl)

    -- what is left to do begins with this line
    abbrev remaining : Conversion
    remaining = converted_lines wide (length part) line (here ∷ behind)

    whole_here : conversion wide (length out₀) log ≡ with_bytes (take written out) remaining
    whole_here =
        w.whole
        ∙ ap₂ (λ (k : ℕ) (ls : List Line). with_bytes (take written out) (converted_lines wide k line ls)) (sym part_room) lines-here

    number_is : number o ≡ refusal_of wide (length part) here
    number_is = g.number_is

    abbrev out' : List ℕ
    out' = take written out ++ (part' ++ drop (length out - written) (drop written out))

    -- ---- it is refused

    module _ (refusal : Refusal) (refused : o ≡ Err refusal) where
      code-is : code refusal ≡ refusal_of wide (length part) here
      code-is = sym (ap number refused) ∙ number_is

      is-some : refusal_of wide (length part) here ≡ 0 → ⊥
      is-some e = omega (arith, code-is, code-above-0 refusal, e)

      same_out : out' ≡ out
      same_out =
          let none = writes-none wide (length part) here is-some in
          let e : part' ≡ part = g.buffer-is ∙ ap (overwrite part) none ∙ overwrite-nothing part in
          rw (e, take-append-drop (length out - written) (drop written out)) (take-append-drop written out)

      pub walk-stops : Gives (conversion wide (length out₀) log)
          (record { answer = Err (record { line = line; refusal = refusal }); written = written }) out₀ out'
      walk-stops =
          let end = stops wide (length part) line here behind is-some in
          let e = whole_here ∙ ap (with_bytes (take written out)) end in
          let s = so_far (record { written = []; number = refusal_of wide (length part) here; line = line }) e refl in
          record {
            number_is = code-is ∙ sym (ap (λ (x : Conversion). x.number) e ∙ number-with (take written out) _);
            line-is = sym (ap (λ (x : Conversion). x.line) e ∙ line-with (take written out) _);
            written_is = s.0;
            fits = (first-refused wide (length out₀) log).fits;
            buffer-is = same_out ∙ s.1;
          }

    -- ---- it is written

    module _ (count : ℕ) (taken : o ≡ Ok count) where
      none : refusal_of wide (length part) here ≡ 0
      none = sym number_is ∙ ap number taken

      abbrev new : List ℕ
      new = written_of wide here

      new-fits : length new ≤ length part
      new-fits = (line-accepted wide (length part) here none).fits

      new-size : count ≡ length new
      new-size = sym (ap written_bytes taken) ∙ g.written_is ∙ ap length (writes-all wide (length part) here none)

      out-is : out' ≡ (take written out ++ new) ++ drop (written + count) out₀
      out-is =
          let z : drop (length out - written) (drop written out) ≡ [] =
          drop_of_length-le (drop written out) {i = length out - written} (le_of_eq (length-drop written out)) in
          let p : part' ≡ new ++ drop (written + count) out₀ =
          g.buffer-is ∙ ap (overwrite part) (writes-all wide (length part) here none) ∙ overwrite-fits part new new-fits
          ∙ ap (λ (x : List ℕ). new ++ x) (ap₂ drop (sym new-size) part-is ∙ drop-drop count written out₀) in
          rw (z, append-nil part', p) (sym (append_assoc (take written out) new (drop (written + count) out₀)))

      new-front : length (take written out ++ new) ≡ written + count
      new-front = length-append (take written out) new ∙ omega (arith, front-size, new-size)

      front-now : take (written + count) out' ≡ take written out ++ new
      front-now = ap (take (written + count)) out-is ∙ take_at (take written out ++ new) _ (written + count) new-front

      whole-more : conversion wide (length out₀) log
          ≡ with_bytes (take (written + count) out') (converted_lines wide (length out₀ - (written + count)) (line + 1) behind)
      whole-more =
          let k : length part - length new ≡ length out₀ - (written + count) = omega (arith, part_room, new-size) in
          let next : suc line ≡ line + 1 = omega arith in
          whole_here ∙ ap (with_bytes (take written out)) (goes_on wide (length part) line here behind none)
          ∙ with-with (take written out) new (converted_lines wide (length part - length new) (suc line) behind)
          ∙ ap₂ (λ (n m : ℕ). with_bytes (take written out ++ new) (converted_lines wide n m behind)) k next
          ∙ ap (λ (x : List ℕ). with_bytes x (converted_lines wide (length out₀ - (written + count)) (line + 1) behind)) (sym front-now)

      pub walk-on : Walked wide log out₀ out' after (line + 1) (written + count)
      walk-on = record {
        room = omega (arith, new-fits, new-size, part_room, w.room);
        kept =
            ap length out-is ∙ length-append (take written out ++ new) (drop (written + count) out₀)
            ∙ omega (arith, new-front, length-drop (written + count) out₀, new-fits, new-size, part_room, w.room);
        lines-few = omega (arith, w.lines-few, used-some, after-size);
        rest = ap (drop (written + count)) out-is ∙ drop_at (take written out ++ new) _ (written + count) new-front;
        whole = whole-more;
      }
