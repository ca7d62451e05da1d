-- How a log is cut into lines, with their ends.
-- Assumes nothing.
use mathlib.Core.Path.{◌≡◌, refl, sym, ap, ap₂, ◌∙◌}
use mathlib.Core.Bool.{Bool, true, false, cond, true≢false}
use mathlib.Core.List.{List, [], ◌∷◌, ◌++◌, map, append-nil}
use mathlib.Core.Logic.{◌⊎◌, inl, inr}
use Prim.Native.Nat.{ℕ, zero, suc, ◌≤◌, ◌<◌}
use native.Mathlib.Omega.{arith}
use lib.Dec.{eqb, ltb}
use lib.ListN.{length, drop, length-drop}
use lib.Seq.{append_snoc, drop-length}
use borrow.Author.Tests.{ltb-true, ltb-false}
use Rattle.laws.specs.Lists.{joined}
use Rattle.laws.proofs.Cases.{by-test}
use Rattle.bench.specs.Lines.{line_feed}
use Rattle.bench.specs.Input.{lines, first_line, has_line_feed, used_by}
use Rattle.bench.proofs.Lines.{lines-law, feedless-more, first-feedless, first_ended, first-all, used_all, used-more}
use Rattle.convert.specs.Logs.{Line, line_with, end_of, whole_line, unended_line, lines_from, log_lines}
use Rattle.convert.specs.Promises.{first_of}
use Rattle.convert.specs.Statements.{LogLinesLaw}

-- ---- what `log_lines` is, as bench's law says it of `lines`

pub lines_none : log_lines [] ≡ []
unfolding log_lines lines_from unended_line
lines_none = refl

-- characters that are no line feed go on with the line
no-feed : (sofar r rest : List ℕ) → has_line_feed r ≡ false → lines_from sofar (r ++ rest) ≡ lines_from (sofar ++ r) rest
unfolding lines_from
no-feed sofar [] rest e = rw (append-nil sofar)
no-feed sofar (c ∷ r) rest e =
    let p = feedless-more c r e in
    rw p.0 (no-feed (sofar ++ (c ∷ [])) r rest p.1 ∙ rw (append_snoc sofar c r))

pub line-ended : (text rest : List ℕ) → has_line_feed text ≡ false → log_lines (text ++ (line_feed ∷ rest)) ≡ line_with text true ∷ log_lines rest
unfolding log_lines lines_from
line-ended text rest e = no-feed [] text (line_feed ∷ rest) e

pub line-unended : (text : List ℕ) → has_line_feed text ≡ false → 0 < length text → log_lines text ≡ line_with text false ∷ []
unfolding log_lines lines_from
line-unended text e h = ap (lines_from []) (sym (append-nil text)) ∙ no-feed [] text [] e ∙ one text h
  where
    one : (text : List ℕ) → 0 < length text → unended_line text ≡ line_with text false ∷ []
    one [] h = absurd (omega arith)
    one (c ∷ text) h = unfold unended_line in refl

-- ---- the line at the front

pub lines-first : (log : List ℕ) → 0 < length log → log_lines log ≡ first_of log ∷ log_lines (drop (used_by log) log)
lines-first log h =
    by-test (has_line_feed log) (log_lines log ≡ first_of log ∷ log_lines (drop (used_by log) log))
    (λ t. ap log_lines (first_ended log t) ∙ line-ended (first_line log) _ (first-feedless log) ∙ rw t)
    (λ t.
    let none : drop (used_by log) log ≡ [] = rw (used_all log t) (drop-length log) in
    line-unended log t h ∙ rw (none, lines_none, t, first-all log t))

-- ---- lists of lines that a log can have: no text has a line feed; only the last may be without an end, and it then has a character

abbrev pub Proper : List Line → Type 0
Proper [] = Unit {0}
Proper (l ∷ ls) = (has_line_feed l.text ≡ false) × ((l.ended ≡ true) ⊎ ((ls ≡ []) × (0 < length l.text))) × Proper ls

whole-ended : (text : List ℕ) → whole_line (line_with text true) ≡ text ++ (line_feed ∷ [])
unfolding whole_line end_of
whole-ended text = refl

whole-unended : (text : List ℕ) → whole_line (line_with text false) ≡ text
unfolding whole_line end_of
whole-unended text = append-nil text

pub joined-none : {A B : Type 0} (f : A → List B) → joined f [] ≡ []
unfolding joined
joined-none f = refl

-- the log that a list of lines makes, by the end of its first line
joined-ended : (l : Line) (ls : List Line) → l.ended ≡ true → joined whole_line (l ∷ ls) ≡ l.text ++ (line_feed ∷ joined whole_line ls)
unfolding joined
joined-ended l ls e =
    ap (λ (t : Bool). whole_line (line_with l.text t) ++ joined whole_line ls) e
    ∙ ap (λ (x : List ℕ). x ++ joined whole_line ls) (whole-ended l.text) ∙ append_snoc l.text line_feed (joined whole_line ls)

joined-unended : (l : Line) → l.ended ≡ false → joined whole_line (l ∷ []) ≡ l.text
unfolding joined
joined-unended l e =
    append-nil (whole_line l) ∙ ap (λ (t : Bool). whole_line (line_with l.text t)) e ∙ whole-unended l.text

-- its lines are that list
pub lines-joined : (ls : List Line) → Proper ls → log_lines (joined whole_line ls) ≡ ls
lines-joined [] p = ap log_lines (joined-none whole_line) ∙ lines_none
lines-joined (l ∷ ls) p =
    by-test l.ended (log_lines (joined whole_line (l ∷ ls)) ≡ l ∷ ls)
    (λ t.
    ap log_lines (joined-ended l ls t) ∙ line-ended l.text (joined whole_line ls) p.0
    ∙ ap₂ (λ (e : Bool) (x : List Line). line_with l.text e ∷ x) (sym t) (lines-joined ls p.2))
    (λ t. unended t p.1)
  where
    unended : l.ended ≡ false → (l.ended ≡ true) ⊎ ((ls ≡ []) × (0 < length l.text)) → log_lines (joined whole_line (l ∷ ls)) ≡ l ∷ ls
    unended t (inl u) = absurd (true≢false (sym u ∙ t))
    unended t (inr u) =
        ap (λ (x : List Line). log_lines (joined whole_line (l ∷ x))) u.0 ∙ ap log_lines (joined-unended l t)
        ∙ line-unended l.text p.0 u.1 ∙ ap₂ (λ (e : Bool) (x : List Line). line_with l.text e ∷ x) (sym t) (sym u.0)

-- and bench's lines are its texts
texts-joined : (ls : List Line) → Proper ls → lines (joined whole_line ls) ≡ map (λ l. l.text) ls
texts-joined [] p = ap lines (joined-none whole_line) ∙ lines-law.nothing
texts-joined (l ∷ ls) p =
    by-test l.ended (lines (joined whole_line (l ∷ ls)) ≡ map (λ l. l.text) (l ∷ ls))
    (λ t.
    ap lines (joined-ended l ls t) ∙ lines-law.ended l.text (joined whole_line ls) p.0
    ∙ ap (λ (x : List (List ℕ)). l.text ∷ x) (texts-joined ls p.2))
    (λ t. unended t p.1)
  where
    unended : l.ended ≡ false → (l.ended ≡ true) ⊎ ((ls ≡ []) × (0 < length l.text))
        → lines (joined whole_line (l ∷ ls)) ≡ map (λ l. l.text) (l ∷ ls)
    unended t (inl u) = absurd (true≢false (sym u ∙ t))
    unended t (inr u) =
        ap (λ (x : List Line). lines (joined whole_line (l ∷ x))) u.0 ∙ ap lines (joined-unended l t)
        ∙ lines-law.last l.text p.0 u.1 ∙ ap (λ (x : List Line). l.text ∷ map (λ l. l.text) x) (sym u.0)

-- ---- the lines of a log are such a list, and make the log

record Cut (log : List ℕ) (ls : List Line) : Type 0 where
  proper : Proper ls
  whole : joined whole_line ls ≡ log

-- by the line at the front
cut-more : (log : List ℕ) (ls : List Line) → 0 < length log → Cut (drop (used_by log) log) ls → Cut log (first_of log ∷ ls)
cut-more log ls h r =
    by-test (has_line_feed log) (Cut log (first_of log ∷ ls))
    (λ t. record {
      proper = (first-feedless log, inl t, r.proper);
      whole =
          joined-ended (first_of log) ls t ∙ ap (λ (x : List ℕ). first_line log ++ (line_feed ∷ x)) r.whole ∙ sym (first_ended log t);
    })
    (λ t.
    let all = first-all log t in
    let none : drop (used_by log) log ≡ [] = rw (used_all log t) (drop-length log) in
    let no_more : ls ≡ [] = sym (lines-joined ls r.proper) ∙ ap log_lines (r.whole ∙ none) ∙ lines_none in
    record {
      proper = (first-feedless log, inr (no_more, rw all h), r.proper);
      whole = ap (λ (x : List Line). joined whole_line (first_of log ∷ x)) no_more ∙ joined-unended (first_of log) t ∙ all;
    })

no_line : (log : List ℕ) → length log ≤ 0 → Cut log (log_lines log)
no_line [] h = rw lines_none (record { proper = tt; whole = joined-none whole_line })
no_line (c ∷ log) h = absurd (omega arith)

-- n is at least the log's length
cut-within : (n : ℕ) (log : List ℕ) → length log ≤ n → Cut log (log_lines log)
cut-within zero log h = no_line log h
cut-within (suc n) log h =
    by-test (ltb 0 (length log)) (Cut log (log_lines log))
    (λ t.
    let some : 0 < length log = ltb-true 0 (length log) t in
    let used = used-more log some in
    let left = length-drop (used_by log) log in
    rw (lines-first log some) (cut-more log _ some (cut-within n (drop (used_by log) log) (omega (arith, used, left)))))
    (λ t. no_line log (ltb-false 0 (length log) t))

pub proper-lines : (log : List ℕ) → Proper (log_lines log)
proper-lines log = (cut-within (length log) log (omega arith)).proper

pub lines_cut : LogLinesLaw
lines_cut log =
    let r = cut-within (length log) log (omega arith) in
    record { texts = sym (texts-joined (log_lines log) r.proper) ∙ ap lines r.whole; whole = r.whole }

-- ---- a log and one after it

from-append : (sofar before rest : List ℕ)
    → lines_from sofar (before ++ (line_feed ∷ rest)) ≡ lines_from sofar (before ++ (line_feed ∷ [])) ++ lines_from [] rest
unfolding lines_from unended_line
from-append sofar [] rest = refl
from-append sofar (c ∷ before) rest =
    go (eqb c line_feed) (from-append [] before rest) (from-append (sofar ++ (c ∷ [])) before rest)
  where
    go : (t : Bool) → lines_from [] (before ++ (line_feed ∷ rest)) ≡ lines_from [] (before ++ (line_feed ∷ [])) ++ lines_from [] rest
        → lines_from (sofar ++ (c ∷ [])) (before ++ (line_feed ∷ rest))
        ≡ lines_from (sofar ++ (c ∷ [])) (before ++ (line_feed ∷ [])) ++ lines_from [] rest
        → cond t (line_with sofar true ∷ lines_from [] (before ++ (line_feed ∷ rest))) (lines_from (sofar ++ (c ∷ [])) (before ++ (line_feed ∷ rest)))
        ≡ cond t (line_with sofar true ∷ lines_from [] (before ++ (line_feed ∷ []))) (lines_from (sofar ++ (c ∷ [])) (before ++ (line_feed ∷ [])))
        ++ lines_from [] rest
    go true a b = ap (λ (x : List Line). line_with sofar true ∷ x) a
    go false a b = b

-- where the first ends with a line feed
pub lines-append : (front rest before : List ℕ) → front ≡ before ++ (line_feed ∷ []) → log_lines (front ++ rest) ≡ log_lines front ++ log_lines rest
unfolding log_lines
lines-append front rest before e =
    ap (λ (x : List ℕ). lines_from [] (x ++ rest)) e ∙ ap (lines_from []) (append_snoc before line_feed rest) ∙ from-append [] before rest
    ∙ ap (λ (x : List ℕ). lines_from [] x ++ lines_from [] rest) (sym e)
