-- From what the parts of a step leave to the step.
-- Assumes nothing.
use mathlib.Core.Path.{◌≡◌, refl, sym, ap, ◌∙◌}
use mathlib.Core.Bool.{true, false}
use mathlib.Core.List.{List, [], ◌∷◌, append-nil}
use Prim.Native.Nat.{ℕ, ◌+◌, ◌<◌, zero-le}
use native.Mathlib.Omega.{arith}
use lib.ListN.{length, take, length-take}
use borrow.Author.Tests.{lt-ltb, le-ltb}
use Rattle.laws.specs.Lists.{overwrite}
use Rattle.pools.specs.declared.Fortuna.{Fortuna}
use Rattle.bench.specs.Buffers.{appended, held_after}
use Rattle.bench.specs.Lines.{line_of, Prints}
use Rattle.bench.specs.Input.{final_line, printed_from, first_line, has_line_feed, held_line, extended, ended, step_session, step_printed, finish_printed, Steps, Finishes}
use Rattle.bench.specs.declared.input.Session.{Session}
use Rattle.bench.specs.declared.line.LineOutcome.{LineOutcome}
use Rattle.bench.proofs.Buffers.{overwrite-nothing}
use Rattle.bench.proofs.Lines.{first_fits, first-front, feed-test, used_all, used-ended}

-- ---- the first line's length says whether a line feed ended it

feed-none : (chunk : List ℕ) → length (first_line chunk) ≡ length chunk → has_line_feed chunk ≡ false
feed-none chunk e = sym (feed-test chunk) ∙ le-ltb (length (first_line chunk)) (length chunk) (omega arith)

pub feed-some : (chunk : List ℕ) → (length (first_line chunk) ≡ length chunk → ⊥)
    → (has_line_feed chunk ≡ true) × (length (first_line chunk) < length chunk)
feed-some chunk n =
    let less : length (first_line chunk) < length chunk = omega (arith, n, first_fits chunk) in
    (sym (feed-test chunk) ∙ lt-ltb (length (first_line chunk)) (length chunk) less, less)

-- ---- a step, by whether there is a line feed

module _ (x : Session) (chunk : List ℕ) where
  step-none : has_line_feed chunk ≡ false → step_session x chunk ≡ extended x (first_line chunk)
  unfolding step_session
  step-none e = rw e

  printed-none : has_line_feed chunk ≡ false → step_printed x chunk ≡ []
  unfolding step_printed
  printed-none e = rw e

  step-some : has_line_feed chunk ≡ true → step_session x chunk ≡ ended (extended x (first_line chunk))
  unfolding step_session
  step-some e = rw e

  printed-some : has_line_feed chunk ≡ true
      → step_printed x chunk ≡ (line_of (extended x (first_line chunk)).state (held_line (extended x (first_line chunk)))).printed
  unfolding step_printed
  printed-some e = rw e

-- ---- a step of the code: n characters stand before the line feed, and they were added to the line so far

-- a session by its parts
abbrev session : Fortuna → List ℕ → ℕ → Session
session s text held = record { state = s; text = text; held = held }

module _ (x : Session) (chunk : List ℕ) (n h : ℕ) (after : List ℕ) (count : n ≡ length (first_line chunk))
    (added : (after ≡ appended x.text x.held (take n chunk)) × (h ≡ held_after x.text x.held (take n chunk))) where
  front : take n chunk ≡ first_line chunk
  front = rw count (first-front chunk)

  extended-is : session x.state after h ≡ extended x (first_line chunk)
  unfolding extended
  extended-is = rw (added.0, added.1, front)

  -- no line feed
  pub steps_on : (out : List ℕ) → n ≡ length chunk
      → Steps x chunk (record { used = n; written = 0 }) (session x.state after h) out out
  steps_on out e =
      let none = feed-none chunk (sym count ∙ e) in
      let quiet = printed-none x chunk none in
      record {
        next = extended-is ∙ sym (step-none x chunk none);
        used = e ∙ sym (used_all chunk none);
        written = rw quiet;
        fits = rw quiet zero-le;
        shown = rw quiet (sym (overwrite-nothing out));
      }

  -- a line feed, and the line so far was carried out
  module _ (line out out' : List ℕ) (o : LineOutcome) (some : n ≡ length chunk → ⊥) (so_far : line ≡ take h after)
      (p : Prints (line_of x.state line) o out out') where
    same : has_line_feed chunk ≡ true → step_printed x chunk ≡ (line_of x.state line).printed
    unfolding held_line
    same fed =
        printed-some x chunk fed
        ∙ ap (λ (y : Session). (line_of y.state (held_line y)).printed) (sym extended-is)
        ∙ ap (λ (l : List ℕ). (line_of x.state l).printed) (sym so_far)

    next-session : has_line_feed chunk ≡ true → session o.next after 0 ≡ step_session x chunk
    unfolding ended held_line
    next-session fed =
        ap (λ (q : Fortuna). session q after 0) (p.next ∙ ap (λ (l : List ℕ). (line_of x.state l).next) so_far)
        ∙ ap ended extended-is
        ∙ sym (step-some x chunk fed)

    pub steps-ended : Steps x chunk (record { used = n + 1; written = o.written }) (session o.next after 0) out out'
    steps-ended =
        let fed = (feed-some chunk (λ e. some (count ∙ e))).0 in
        record {
          next = next-session fed;
          used = rw count (sym (used-ended chunk fed));
          written = p.written ∙ ap length (sym (same fed));
          fits = rw (same fed) p.fits;
          shown = p.shown ∙ ap (overwrite out) (sym (same fed));
        }

-- ---- the end of the input

pub finishes-none : (x : Session) (out : List ℕ) → x.held ≡ 0 → Finishes x 0 out out
unfolding finish_printed held_line final_line printed_from
finishes-none x out e =
    rw e (record { written = refl; fits = zero-le; shown = sym (overwrite-nothing out) })

pub finishes-some : (x : Session) (line out out' : List ℕ) (o : LineOutcome) → (x.held ≡ 0 → ⊥) → 0 < length x.text
    → line ≡ take x.held x.text → Prints (line_of x.state line) o out out' → Finishes x o.written out out'
finishes-some x line out out' o some room so_far p =
    record {
      written = p.written ∙ ap length (sym same);
      fits = rw same p.fits;
      shown = p.shown ∙ ap (overwrite out) (sym same);
    }
  where
    one : (l : List ℕ) → 0 < length l → printed_from x.state (final_line l) ≡ (line_of x.state l).printed
    one [] k = absurd (omega arith)
    one (c ∷ l) k = unfold printed_from final_line in append-nil (line_of x.state (c ∷ l)).printed

    same : finish_printed x ≡ (line_of x.state line).printed
    same = rw so_far (unfold finish_printed held_line in one (take x.held x.text) (rw length-take (omega arith)))
