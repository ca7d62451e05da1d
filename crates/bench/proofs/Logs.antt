-- The loop that works through a whole log: what is still printed goes behind what is stored.
-- Assumes nothing.
use mathlib.Core.Path.{◌≡◌, refl, sym, ap, ap₂, subst, ◌∙◌}
use mathlib.Core.Bool.{Bool, true, false}
use mathlib.Core.List.{List, [], ◌∷◌, ◌++◌}
use Prim.Native.Nat.{ℕ, ◌+◌, ◌-◌, ◌≤◌, ◌<◌, min, zero-le}
use native.Mathlib.Nat.{zero-add}
use native.Mathlib.Omega.{arith}
use lib.Dec.{eqb}
use lib.ListN.{length, take, drop, take-append-drop}
use lib.Pointwise.{pointwise}
use lib.Seq.{drop_at}
use denote.Ref.{Bor}
use denote.Param.Members.{Mut}
use Rattle.std.specs.Prelude.{Option, Some, None, MatchOption, unwrap_or, nat_eq}
use Rattle.std.specs.Fn.{ComputesKey, CalledAt}
use Rattle.std.specs.Iterator.{Yields}
use Rattle.std.specs.List.{IsFirstMatchOrLen}
use Rattle.std.specs.Slice.Iter.{split_inclusive_rest, split_inclusive_callee}
use Rattle.std.specs.declared.slice.SplitInclusive.{SplitInclusive}
use Rattle.std.proofs.lemmas.Fn.{always_returns_same}
use Rattle.laws.specs.Lists.{overwrite}
use Rattle.pools.specs.State.{fresh}
use Rattle.pools.specs.declared.Fortuna.{Fortuna}
use Rattle.bench.specs.Buffers.{appended, held_after}
use Rattle.bench.specs.Lines.{line_feed, LineEffect, line_of, Prints}
use Rattle.bench.specs.Input.{lines, first_line, used_by, printed_from, transcript}
use Rattle.bench.specs.declared.line.LineOutcome.{LineOutcome}
use Rattle.bench.proofs.Buffers.{length-appended, held-append, appended-append, length-overwrite, take-overwrite, overwrite-nothing}
use Rattle.bench.proofs.Lines.{lines-none, lines-first, part-used, cut-front}

-- ---- the parts that `split_inclusive` gives

-- a step: a part comes off the front of what is left
abbrev pub Cuts : {F : Type 0} → Mut F (Bor ℕ × Unit {0}) Bool → SplitInclusive ℕ F → Option (Bor (List ℕ)) → SplitInclusive ℕ F → Type 0
Cuts g s r t = MatchOption r ((length (split_inclusive_rest s) ≡ 0) × (t ≡ s))
    (λ x. (split_inclusive_rest s ≡ x.now ++ split_inclusive_rest t)
    × ((i : ℕ) × (length x.now ≡ min (i + 1) (length (split_inclusive_rest s))) × ((p : ℕ → Bool) → ComputesKey g p (split_inclusive_callee s)
    → ComputesKey g p (split_inclusive_callee t) × IsFirstMatchOrLen p (split_inclusive_rest s) i))
    × (0 < length (split_inclusive_rest s)))

-- the test stays what it is
test-kept : {F : Type 0} (g : Mut F (Bor ℕ × Unit {0}) Bool) (p : ℕ → Bool) (xs : List (Bor (List ℕ))) (s t : SplitInclusive ℕ F) → Yields (Cuts g) s xs t
    → ComputesKey g p (split_inclusive_callee s) → ComputesKey g p (split_inclusive_callee t)
test-kept g p [] s t y h = subst (λ (u : SplitInclusive ℕ _). ComputesKey g p (split_inclusive_callee u)) y h
test-kept g p (x ∷ xs) s t y h = test-kept g p xs y.0 t y.2 (y.1.1.2 p h).0

pub no-part : {F : Type 0} (g : Mut F (Bor ℕ × Unit {0}) Bool) (t u : SplitInclusive ℕ F) (r : Option (Bor (List ℕ))) → r ≡ None → Cuts g t r u
    → length (split_inclusive_rest t) ≡ 0
no-part g t u r is next = (subst (λ (o : Option (Bor (List ℕ))). Cuts g t o u) is next).0

-- a part, and what is left behind it
module _ {F : Type 0} (g : Mut F (Bor ℕ × Unit {0}) Bool) (s t u : SplitInclusive ℕ F) (xs : List (Bor (List ℕ))) (sofar : Yields (Cuts g) s xs t)
    (tests : (x : ℕ) (b : Bool) (q : F) → CalledAt g (split_inclusive_callee s) x b q → (q ≡ split_inclusive_callee s) × (b ≡ eqb x line_feed))
    (r : Option (Bor (List ℕ))) (x : Bor (List ℕ)) (is : r ≡ Some x) (next : Cuts g t r u) where
  cut : Cuts g t (Some x) u
  cut = subst (λ (o : Option (Bor (List ℕ))). Cuts g t o u) is next

  computes : ComputesKey g (λ c. eqb c line_feed) (split_inclusive_callee t)
  computes =
      test-kept g (λ c. eqb c line_feed) xs s t sofar
      (always_returns_same g (λ a b. b ≡ eqb a.0.now line_feed) (split_inclusive_callee s)
      (λ a b q k. let m = tests a.0.now b q (record { shown = a.0; shows = refl; called = k }) in (m.1, m.0)))

  -- it takes the line and its end
  pub part-uses : length x.now ≡ used_by (split_inclusive_rest t)
  part-uses =
      part-used (split_inclusive_rest t) x.now (split_inclusive_rest u) cut.1.0 cut.0 cut.1.1 (cut.1.2 (λ c. eqb c line_feed) computes).1

  pub part-cut : split_inclusive_rest t ≡ x.now ++ split_inclusive_rest u
  part-cut = cut.0

  pub part-some : 0 < length (split_inclusive_rest t)
  part-some = cut.2

  -- where `found` is the part without its line feed
  module _ (found : Option (Bor (List ℕ)))
      (m : MatchOption found (pointwise nat_eq (drop (length x.now - 1) x.now) (line_feed ∷ []) ≡ false)
      (λ y. (pointwise nat_eq (drop (length x.now - 1) x.now) (line_feed ∷ []) ≡ true) × (y.now ≡ take (length x.now - 1) x.now)
      × (length y.now + 1 ≡ length x.now))) where
    pub part-text : (unwrap_or found x).now ≡ first_line (split_inclusive_rest t)
    part-text =
        cut-front (split_inclusive_rest t) x.now (split_inclusive_rest u) cut.1.0 cut.0 cut.1.1 (cut.1.2 (λ c. eqb c line_feed) computes).1 found x refl m

    pub part-lines : lines (split_inclusive_rest t) ≡ (unwrap_or found x).now ∷ lines (split_inclusive_rest u)
    part-lines =
        lines-first (split_inclusive_rest t) part-some
        ∙ ap₂ (λ (l r : List ℕ). l ∷ lines r) (sym part-text)
        (ap₂ drop (sym part-uses) part-cut ∙ drop_at x.now (split_inclusive_rest u) (length x.now) refl)

-- ---- what was done

-- of the input `rest` is left, and `stored` characters of the output are in place: what its lines print completes it
pub record Logged (input out₀ out : List ℕ) (s : Fortuna) (rest : List ℕ) (stored : ℕ) : Type 0 where
  pub within : stored ≤ length out₀
  pub kept : length out ≡ length out₀
  pub shown : appended out stored (printed_from s (lines rest)) ≡ overwrite out₀ (transcript input)
  pub count : held_after out stored (printed_from s (lines rest)) ≡ min (length (transcript input)) (length out₀)

appended-front : (out line : List ℕ) → appended out 0 line ≡ overwrite out line
unfolding appended
appended-front out line = refl

held-front : (out line : List ℕ) → held_after out 0 line ≡ min (length line) (length out)
unfolding held_after
held-front out line = rw zero-add

-- nothing is used or stored yet
pub logged_none : (input out : List ℕ) (s : Fortuna) → s ≡ fresh → Logged input out out s input 0
unfolding transcript
logged_none input out s e =
    record {
      within = zero-le;
      kept = refl;
      shown = appended-front out _ ∙ ap (λ (q : Fortuna). overwrite out (printed_from q (lines input))) e;
      count = held-front out _ ∙ ap (λ (q : Fortuna). min (length (printed_from q (lines input))) (length out)) e;
    }

-- what was written fits
pub prints-fit : {e : LineEffect} {before after : List ℕ} {o : LineOutcome} → Prints e o before after → o.written ≤ length after
prints-fit p = rw (p.written, p.shown, length-overwrite) p.fits

-- nothing is printed where nothing is left
silent : (s : Fortuna) (rest : List ℕ) → length rest ≡ 0 → printed_from s (lines rest) ≡ []
unfolding printed_from
silent s [] e = rw lines-none refl
silent s (c ∷ rest) e = absurd (omega arith)

-- and can be read back
written-front : (line before after : List ℕ) (n : ℕ) → n ≡ length line → length line ≤ length before → after ≡ overwrite before line
    → take n after ≡ line
written-front line before after n e h f = rw (e, f) (take-overwrite before line h)

module _ (input out₀ out : List ℕ) (s : Fortuna) (rest : List ℕ) (stored : ℕ) (l : Logged input out₀ out s rest stored) where
  -- a line, and what it prints goes behind what is stored
  module _ (text rest' before after out' : List ℕ) (o : LineOutcome) (stored' : ℕ) (first : lines rest ≡ text ∷ lines rest')
      (printed : Prints (line_of s text) o before after)
      (added : (out' ≡ appended out stored (take o.written after)) × (stored' ≡ held_after out stored (take o.written after))) where
    abbrev line : List ℕ
    line = (line_of s text).printed

    abbrev more : List ℕ
    more = printed_from o.next (lines rest')

    front : take o.written after ≡ line
    front = written-front line before after o.written printed.written printed.fits printed.shown

    out-is : out' ≡ appended out stored line
    out-is = added.0 ∙ ap (appended out stored) front

    stored_is : stored' ≡ held_after out stored line
    stored_is = added.1 ∙ ap (held_after out stored) front

    both : line ++ more ≡ printed_from s (lines rest)
    unfolding printed_from
    both = ap (λ (q : Fortuna). line ++ printed_from q (lines rest')) printed.next ∙ ap (printed_from s) (sym first)

    stored-few : held_after out stored line ≤ length out₀
    unfolding held_after
    stored-few = omega (arith, l.kept)

    pub logged-more : Logged input out₀ out' o.next rest' stored'
    logged-more =
        record {
          within = rw stored_is stored-few;
          kept = rw out-is (length-appended out stored line ∙ l.kept);
          shown =
              ap₂ (λ (d : List ℕ) (n : ℕ). appended d n more) out-is stored_is
              ∙ sym (appended-append out stored line more)
              ∙ ap (appended out stored) both
              ∙ l.shown;
          count =
              ap₂ (λ (d : List ℕ) (n : ℕ). held_after d n more) out-is stored_is
              ∙ sym (held-append out stored line more)
              ∙ ap (held_after out stored) both
              ∙ l.count;
        }

  -- nothing is left
  appended-nothing : appended out stored [] ≡ out
  unfolding appended
  appended-nothing = rw (overwrite-nothing, take-append-drop)

  held-nothing : held_after out stored [] ≡ stored
  unfolding held_after
  held-nothing = omega (arith, l.within, l.kept)

  pub logged-all : length rest ≡ 0 → (stored ≡ min (length (transcript input)) (length out₀)) × (out ≡ overwrite out₀ (transcript input))
  logged-all e = (
    sym held-nothing ∙ ap (held_after out stored) (sym (silent s rest e)) ∙ l.count,
    sym appended-nothing ∙ ap (appended out stored) (sym (silent s rest e)) ∙ l.shown,
  )
