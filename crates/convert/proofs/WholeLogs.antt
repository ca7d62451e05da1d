-- Whole logs: the lines of what is written, the answers that they get, and the trip there and back.
-- Assumes nothing.
use mathlib.Core.Path.{◌≡◌, refl, sym, ap, ap₂, ◌∙◌}
use mathlib.Core.Bool.{Bool, true, false, true≢false}
use mathlib.Core.List.{List, [], ◌∷◌, ◌++◌, map}
use mathlib.Core.Logic.{◌⊎◌, inl, inr}
use Rattle.std.specs.Prelude.{Option, Some, None}
use Prim.Native.Nat.{ℕ, zero, suc, ◌+◌, ◌-◌, ◌≤◌, ◌<◌}
use native.Mathlib.Omega.{arith}
use lib.Dec.{eqb}
use lib.ListN.{length, take, get_or, length-append}
use lib.Seq.{take_all}
use borrow.Author.Tests.{eqb-true, eqb-false}
use Rattle.laws.specs.Lists.{joined}
use Rattle.laws.proofs.Cases.{by-test}
use Rattle.pools.specs.Calls.{Call}
use Rattle.laws.proofs.Lists.{joined-map}
use Rattle.bench.specs.Frames.{frame_of_text}
use Rattle.bench.specs.Lines.{line_call}
use Rattle.bench.specs.Input.{lines, has_line_feed}
use Rattle.bench.specs.declared.frame.Frame.{Frame}
use Rattle.bench.specs.declared.frame.Frame.TheVariants.{Event, Request, Update, Write, WideEvent}
use Rattle.bench.proofs.Model as Model
use Rattle.bench.proofs.Texts.{frame-characters, frame-feedless}
use Rattle.convert.specs.Texts.{is_wanted, text_number, converted}
use Rattle.convert.specs.Logs.{Line, line_with, whole_line, log_lines, converted_line, written_of, all_written, with_bytes, converted_lines, conversion}
use Rattle.convert.specs.Statements.{absent_line, first_written, Stopped, SameEnds, SameAnswers, AllWanted, OnlyWanted, Unchanged, Trip}
use Rattle.convert.proofs.Lines.{line-laws}
use Rattle.convert.proofs.LogLines.{Proper, proper-lines, lines-joined, lines_cut}
use Rattle.convert.proofs.Conversions.{LineAccepted, RoomRefused, TextRefused, which, line-accepted, no-refusal, goes_on, no_lines}
use Rattle.convert.proofs.Rooms.{enough-room}
use Rattle.convert.proofs.FirstRefused.{Ended, Refused, came-log, first-refused}

-- ---- lines that are not refused

-- what holds of each line
abbrev Each : (Line → Type 0) → List Line → Type 0
Each P [] = Unit {0}
Each P (l ∷ ls) = P l × Each P ls

-- its text is not refused
abbrev Passes : Bool → Line → Type 0
Passes wide l = text_number wide l.text ≡ 0

wanted-frame : (wide : Bool) (f : Option Frame) → is_wanted wide f ≡ true → f ≡ None → ⊥
wanted-frame wide f w e = true≢false (sym w ∙ ap (is_wanted wide) e ∙ (unfold is_wanted in refl))

module _ (wide : Bool) (l : Line) (p : Passes wide l) where
  new-frame : frame_of_text (converted wide l.text) ≡ None → ⊥
  new-frame = wanted-frame wide _ ((line-laws l.text).wanted wide p)

  new-feedless : has_line_feed (converted_line wide l).text ≡ false
  unfolding converted_line
  new-feedless = frame-feedless (converted wide l.text) new-frame

  new-characters : 0 < length (converted_line wide l).text
  unfolding converted_line
  new-characters = frame-characters (converted wide l.text) new-frame

same_end : (wide : Bool) (l : Line) → (converted_line wide l).ended ≡ l.ended
unfolding converted_line
same_end wide l = refl

-- ---- the lines of what is written

-- the first k lines are such as a log can have
proper-new : (wide : Bool) (ls : List Line) (k : ℕ) → Proper ls → Each (Passes wide) (take k ls) → Proper (map (converted_line wide) (take k ls))
proper-new wide ls zero p h = tt
proper-new wide [] (suc k) p h = tt
proper-new wide (l ∷ ls) (suc k) p h =
    (new-feedless wide l h.0, ends p.1, proper-new wide ls k p.2 h.1)
  where
    ends : (l.ended ≡ true) ⊎ ((ls ≡ []) × (0 < length l.text))
        → ((converted_line wide l).ended ≡ true) ⊎ ((map (converted_line wide) (take k ls) ≡ []) × (0 < length (converted_line wide l).text))
    ends (inl e) = inl (same_end wide l ∙ e)
    ends (inr e) = inr (ap (λ (x : List Line). map (converted_line wide) (take k x)) e.0 ∙ none k, new-characters wide l h.0)
      where
        none : (k : ℕ) → map (converted_line wide) (take k []) ≡ []
        none zero = refl
        none (suc k) = refl

-- what is written of lines is made of the new ones
joined-new : (wide : Bool) (ls : List Line) → joined (written_of wide) ls ≡ joined whole_line (map (converted_line wide) ls)
unfolding written_of
joined-new wide ls = sym (joined-map whole_line (converted_line wide) ls)

-- what holds at each of the first k places holds of each of the first k lines
each_first : (P : Line → Type 0) (ls : List Line) (k : ℕ) → ((j : ℕ) → j < k → P (get_or ls j absent_line)) → Each P (take k ls)
each_first P ls zero h = tt
each_first P [] (suc k) h = tt
each_first P (l ∷ ls) (suc k) h = (h 0 (omega arith), each_first P ls k (λ j i. h (suc j) (omega arith)))

module _ (wide : Bool) (room : ℕ) (log : List ℕ) where
  -- how many lines are written
  count : ℕ
  count = (came-log wide room log).k

  abbrev written_lines : List Line
  written_lines = take count (log_lines log)

  first-pass : Each (Passes wide) written_lines
  unfolding count
  first-pass =
      each_first (Passes wide) (log_lines log) _
      (λ j h. (line-accepted wide _ (get_or (log_lines log) j absent_line) ((came-log wide room log).passed j h)).text)

  written_is : (conversion wide room log).written ≡ joined whole_line (map (converted_line wide) written_lines)
  unfolding count
  written_is = (came-log wide room log).written ∙ joined-new wide _

  new-lines : log_lines (conversion wide room log).written ≡ map (converted_line wide) written_lines
  new-lines =
      ap log_lines written_is
      ∙ lines-joined (map (converted_line wide) written_lines) (proper-new wide (log_lines log) count (proper-lines log) first-pass)

  new-texts : lines (conversion wide room log).written ≡ map (λ l. l.text) (map (converted_line wide) written_lines)
  new-texts = sym (lines_cut (conversion wide room log).written).texts ∙ ap (map (λ l. l.text)) new-lines

-- ---- they are of the wanted kind

wanted-at : (wide : Bool) (ls : List Line) → Each (Passes wide) ls → (n : ℕ) → n < length (map (λ l. l.text) (map (converted_line wide) ls))
    → is_wanted wide (frame_of_text (get_or (map (λ l. l.text) (map (converted_line wide) ls)) n [])) ≡ true
wanted-at wide [] h n i = absurd (omega arith)
wanted-at wide (l ∷ ls) h zero i = unfold converted_line in (line-laws l.text).wanted wide h.0
wanted-at wide (l ∷ ls) h (suc n) i = wanted-at wide ls h.1 n (omega arith)

pub only-wanted : OnlyWanted
only-wanted wide room log = rw (new-texts wide room log) (wanted-at wide (written_lines wide room log) (first-pass wide room log))

-- ---- they make the same calls

calls-kept : (wide : Bool) (ls : List Line) → Each (Passes wide) ls
    → map line_call (map (λ l. l.text) (map (converted_line wide) ls)) ≡ map line_call (map (λ l. l.text) ls)
unfolding converted_line
calls-kept wide [] h = refl
calls-kept wide (l ∷ ls) h =
    ap₂ (λ (x : Option Call) (y : List (Option Call)). x ∷ y) ((line-laws l.text).same_call wide h.0) (calls-kept wide ls h.1)

-- where all lines are written
all_lines : (wide : Bool) (room : ℕ) (log : List ℕ) → (conversion wide room log).number ≡ 0 → written_lines wide room log ≡ log_lines log
unfolding count
all_lines wide room log e = take_all _ (log_lines log) (go (came-log wide room log).last)
  where
    go : Ended (log_lines log) (came-log wide room log).k (conversion wide room log)
        ⊎ Refused wide room 1 (log_lines log) (came-log wide room log).k (conversion wide room log) → length (log_lines log) ≤ (came-log wide room log).k
    go (inl x) = omega (arith, x.all)
    go (inr x) = absurd (x.some e)

pub same_ends : SameEnds
same_ends wide room log e = new-lines wide room log ∙ ap (map (converted_line wide)) (all_lines wide room log e)

pub same-answers : SameAnswers
same-answers wide room log e =
    let ls = all_lines wide room log e in
    Model.same-calls (conversion wide room log).written log
    (ap (map line_call) (new-texts wide room log) ∙ calls-kept wide (written_lines wide room log) (first-pass wide room log)
    ∙ ap (λ (x : List Line). map line_call (map (λ l. l.text) x)) ls ∙ ap (map line_call) (lines_cut log).texts)

-- ---- lines that all pass, with room for them

all_pass : (wide : Bool) (room k : ℕ) (ls : List Line) → Each (Passes wide) ls → length (joined (written_of wide) ls) ≤ room
    → converted_lines wide room k ls ≡ all_written (joined (written_of wide) ls)
all_pass wide room k [] h fits = no_lines wide room k ∙ (unfold joined in refl)
all_pass wide room k (l ∷ ls) h fits =
    let whole : length (joined (written_of wide) (l ∷ ls)) ≡ length (written_of wide l) + length (joined (written_of wide) ls) =
    (unfold joined in length-append (written_of wide l) (joined (written_of wide) ls)) in
    goes_on wide room k l ls (no-refusal wide room l h.0 (omega (arith, fits, whole)))
    ∙ ap (with_bytes (written_of wide l)) (all_pass wide (room - length (written_of wide l)) (suc k) ls h.1 (omega (arith, fits, whole)))
    ∙ (unfold joined with_bytes in refl)

-- what holds of every text of a log
each-text : (P : List ℕ → Type 0) (ls : List Line)
    → ((k : ℕ) → k < length (map (λ l. l.text) ls) → P (get_or (map (λ l. l.text) ls) k [])) → Each (λ l. P l.text) ls
each-text P [] h = tt
each-text P (l ∷ ls) h = (h 0 (omega arith), each-text P ls (λ k i. h (suc k) (omega arith)))

abbrev Wanted : Bool → Line → Type 0
Wanted wide l = is_wanted wide (frame_of_text l.text) ≡ true

all_wanted : (wide : Bool) (log : List ℕ) → AllWanted wide log → Each (Wanted wide) (log_lines log)
all_wanted wide log h = each-text (λ text. is_wanted wide (frame_of_text text) ≡ true) (log_lines log) (rw (lines_cut log).texts h)

-- ---- a log of the wanted kind

stay : (wide : Bool) (ls : List Line) → Each (Wanted wide) ls → Each (Passes wide) ls × (joined (written_of wide) ls ≡ joined whole_line ls)
unfolding joined written_of converted_line
stay wide [] h = (tt, refl)
stay wide (l ∷ ls) h =
    let one = (line-laws l.text).unchanged wide h.0 in
    let rest = stay wide ls h.1 in
    ((one.0, rest.0), ap₂ (λ (x y : List ℕ). whole_line (line_with x l.ended) ++ y) one.1 rest.1)

pub unchanged : Unchanged
unfolding conversion
unchanged wide room log h fits =
    let kept = stay wide (log_lines log) (all_wanted wide log h) in
    let whole : joined (written_of wide) (log_lines log) ≡ log = kept.1 ∙ (lines_cut log).whole in
    all_pass wide room 1 (log_lines log) kept.0 (rw whole fits) ∙ ap all_written whole

-- ---- there and back

-- a frame of both kinds stays both times
both-kinds : (text : List ℕ) → is_wanted true (frame_of_text text) ≡ true → is_wanted false (frame_of_text text) ≡ true
    → (text_number false (converted true text) ≡ 0) × (converted false (converted true text) ≡ text)
both-kinds text v w =
    let there = ((line-laws text).unchanged true v).1 in
    let back = (line-laws text).unchanged false w in
    (ap (text_number false) there ∙ back.0, ap (converted false) there ∙ back.1)

round_trip : (text : List ℕ) (f : Option Frame) → frame_of_text text ≡ f → is_wanted false f ≡ true
    → (text_number false (converted true text) ≡ 0) × (converted false (converted true text) ≡ text)
unfolding is_wanted
round_trip text (Some (Event source pool)) e w = (line-laws text).trip source pool e
round_trip text (Some (Request clock n)) e w = both-kinds text (ap (is_wanted true) e) (ap (is_wanted false) e)
round_trip text (Some (Update clock)) e w = both-kinds text (ap (is_wanted true) e) (ap (is_wanted false) e)
round_trip text (Some (Write clock)) e w = both-kinds text (ap (is_wanted true) e) (ap (is_wanted false) e)
round_trip text (Some (WideEvent source pool)) e w = absurd (true≢false (sym w))
round_trip text None e w = absurd (true≢false (sym w))

come-back : (ls : List Line) → Each (Wanted false) ls
    → Each (Passes false) (map (converted_line true) ls) × (joined (written_of false) (map (converted_line true) ls) ≡ joined whole_line ls)
unfolding joined written_of converted_line
come-back [] h = (tt, refl)
come-back (l ∷ ls) h =
    let one = round_trip l.text (frame_of_text l.text) refl h.0 in
    let rest = come-back ls h.1 in
    ((one.0, rest.0), ap₂ (λ (x y : List ℕ). whole_line (line_with x l.ended) ++ y) one.1 rest.1)

by_lines : (wide : Bool) (room : ℕ) (log : List ℕ) (ls : List Line) → log_lines log ≡ ls → conversion wide room log ≡ converted_lines wide room 1 ls
unfolding conversion
by_lines wide room log ls e = ap (converted_lines wide room 1) e

-- what holds of each line holds at each place
each_at : (P : Line → Type 0) (ls : List Line) (k : ℕ) → Each P ls → k < length ls → P (get_or ls k absent_line)
each_at P [] k h i = absurd (omega arith)
each_at P (l ∷ ls) zero h i = h.0
each_at P (l ∷ ls) (suc k) h i = each_at P ls k h.1 (omega arith)

-- texts that are not refused, and room that is never too little
passes-whole : (wide : Bool) (room : ℕ) (log : List ℕ) → Each (Passes wide) (log_lines log) → ((conversion wide room log).number ≡ 46 → ⊥)
    → (conversion wide room log).number ≡ 0
passes-whole wide room log h enough =
    by-test (eqb (conversion wide room log).number 0) ((conversion wide room log).number ≡ 0)
    (λ t. eqb-true (conversion wide room log).number 0 t)
    (λ t.
    let s = (first-refused wide room log).stopped (eqb-false (conversion wide room log).number 0 t) in
    go s (each_at (Passes wide) (log_lines log) s.k h s.inside) (which wide _ (get_or (log_lines log) s.k absent_line)))
  where
    go : (s : Stopped wide room log) → Passes wide (get_or (log_lines log) s.k absent_line)
        → LineAccepted wide (room - length (first_written wide s.k log)) (get_or (log_lines log) s.k absent_line)
        ⊎ (RoomRefused wide (room - length (first_written wide s.k log)) (get_or (log_lines log) s.k absent_line)
        ⊎ TextRefused wide (room - length (first_written wide s.k log)) (get_or (log_lines log) s.k absent_line))
        → (conversion wide room log).number ≡ 0
    go s p (inl a) = sym s.refused ∙ no-refusal wide _ (get_or (log_lines log) s.k absent_line) a.text a.fits
    go s p (inr (inl r)) = absurd (enough (sym s.refused ∙ r.number))
    go s p (inr (inr r)) = absurd (r.some p)

-- a frame that is no 05 can always become of kind 05
widens : (text : List ℕ) (f : Option Frame) → frame_of_text text ≡ f → is_wanted false f ≡ true → text_number true text ≡ 0
unfolding is_wanted
widens text (Some (Event source pool)) e w = ((line-laws text).wider source pool e).0
widens text (Some (Request clock n)) e w = ((line-laws text).unchanged true (ap (is_wanted true) e)).0
widens text (Some (Update clock)) e w = ((line-laws text).unchanged true (ap (is_wanted true) e)).0
widens text (Some (Write clock)) e w = ((line-laws text).unchanged true (ap (is_wanted true) e)).0
widens text (Some (WideEvent source pool)) e w = absurd (true≢false (sym w))
widens text None e w = absurd (true≢false (sym w))

all-widen : (ls : List Line) → Each (Wanted false) ls → Each (Passes true) ls
all-widen [] h = tt
all-widen (l ∷ ls) h = (widens l.text (frame_of_text l.text) refl h.0, all-widen ls h.1)

pub trip : Trip
trip there back log h enough fits =
    let e = passes-whole true there log (all-widen (log_lines log) (all_wanted false log h)) ((enough-room there log).wide enough) in
    let kept = come-back (log_lines log) (all_wanted false log h) in
    let whole : joined (written_of false) (map (converted_line true) (log_lines log)) ≡ log = kept.1 ∙ (lines_cut log).whole in (
      e,
      by_lines false back _ _ (same_ends true there log e)
          ∙ all_pass false back 1 (map (converted_line true) (log_lines log)) kept.0 (rw whole fits) ∙ ap all_written whole,
    )
