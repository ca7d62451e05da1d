-- A converted line: its frame, its call, and the trip there and back.
-- Assumes nothing.
use mathlib.Core.Path.{◌≡◌, refl, sym, ap, ◌∙◌}
use mathlib.Core.Bool.{Bool, true, false, true≢false}
use mathlib.Core.List.{List, ◌∷◌}
use Prim.Native.Nat.{ℕ, ◌≤◌, ◌<◌}
use native.Mathlib.Omega.{arith}
use lib.Dec.{ltb}
use lib.ListN.{drop}
use borrow.Author.Tests.{lt-ltb, le-ltb, ltb-true, ltb-false}
use Rattle.laws.proofs.Cases.{by-test}
use Rattle.std.specs.Prelude.{Option, Some, None, Result, Ok}
use Rattle.bench.specs.Frames.{frame_of_text}
use Rattle.bench.specs.Lines.{line_call}
use Rattle.bench.specs.declared.frame.Frame.{Frame}
use Rattle.bench.specs.declared.frame.Frame.TheVariants.{Event, Request, Update, Write, WideEvent}
use Rattle.bench.proofs.Hexadecimal.{byte_small}
use Rattle.bench.proofs.EventTexts.{EventText, WideText, event-text, wide-text, narrow-frame, wide-frame, narrow-call, wide-call, zero_high, zero-source}
use Rattle.convert.specs.Texts.{max_narrow_source, is_wanted, action_of, widened, narrowed, carried_out, action_number, text_number, converted}
use Rattle.convert.specs.declared.action.Action.{Action}
use Rattle.convert.specs.declared.action.Action.TheVariants.{Keep}
use Rattle.convert.specs.declared.refusal.Refusal.{Refusal}
use Rattle.convert.specs.Statements.{LineLaws}

-- ---- by the frame

module _ (wide : Bool) (text : List ℕ) (f : Option Frame) (e : frame_of_text text ≡ f) where
  pub number_by : text_number wide text ≡ action_number (action_of wide f)
  unfolding text_number
  number_by = ap (λ (x : Option Frame). action_number (action_of wide x)) e

  converted-by : converted wide text ≡ carried_out (action_of wide f) text
  unfolding converted
  converted-by = ap (λ (x : Option Frame). carried_out (action_of wide x) text) e

-- ---- 01 as 05

module _ (text : List ℕ) (source pool : ℕ) (e : frame_of_text text ≡ Some (Event source pool)) where
  pub shape : EventText text source pool
  shape = event-text text source pool e

  pub widened-text : converted true text ≡ widened text
  widened-text = converted-by true text (Some (Event source pool)) e ∙ (unfold action_of carried_out in refl)

  pub wider-text : converted true text ≡ 48 ∷ 53 ∷ 48 ∷ 48 ∷ shape.rest
  wider-text = widened-text ∙ (unfold widened in ap (λ (t : List ℕ). 48 ∷ 53 ∷ 48 ∷ 48 ∷ drop 2 t) shape.is)

  wider-number : text_number true text ≡ 0
  wider-number = number_by true text (Some (Event source pool)) e ∙ (unfold action_of action_number in refl)

  wider-frame : frame_of_text (converted true text) ≡ Some (WideEvent source pool)
  wider-frame = ap frame_of_text wider-text ∙ wide-frame shape.rest shape.fields ∙ rw (← shape.source_is, ← shape.pool-is)

  wider-call : line_call (converted true text) ≡ line_call text
  wider-call =
      ap line_call wider-text ∙ wide-call shape.rest shape.fields
      ∙ sym (ap line_call shape.is ∙ narrow-call shape.rest shape.fields)

  small : source ≤ max_narrow_source
  unfolding max_narrow_source
  small = omega (arith, shape.source_is, byte_small shape.rest 0)

-- ---- 05 as 01

module _ (text : List ℕ) (source pool : ℕ) (e : frame_of_text text ≡ Some (WideEvent source pool)) where
  pub wide-shape : WideText text source pool
  wide-shape = wide-text text source pool e

  pub large-number : max_narrow_source < source → text_number false text ≡ 43
  large-number h =
      number_by false text (Some (WideEvent source pool)) e ∙ (unfold action_of action_number in rw (lt-ltb max_narrow_source source h))

  module _ (h : source ≤ max_narrow_source) where
    few : source ≤ 255
    unfolding max_narrow_source
    few = h

    -- its characters, with the source's first byte 00
    pub high_zero : text ≡ 48 ∷ 53 ∷ 48 ∷ 48 ∷ wide-shape.rest
    high_zero = zero_high text source pool wide-shape few

    narrower-number : text_number false text ≡ 0
    narrower-number =
        number_by false text (Some (WideEvent source pool)) e ∙ (unfold action_of action_number in rw (le-ltb max_narrow_source source h))

    pub narrowed-text : converted false text ≡ narrowed text
    narrowed-text =
        converted-by false text (Some (WideEvent source pool)) e ∙ (unfold action_of carried_out in rw (le-ltb max_narrow_source source h))

    pub narrower-text : converted false text ≡ 48 ∷ 49 ∷ wide-shape.rest
    narrower-text = narrowed-text ∙ (unfold narrowed in ap (λ (t : List ℕ). 48 ∷ 49 ∷ drop 4 t) high_zero)

    narrower-frame : frame_of_text (converted false text) ≡ Some (Event source pool)
    narrower-frame =
        ap frame_of_text narrower-text ∙ narrow-frame wide-shape.rest wide-shape.fields
        ∙ rw (← zero-source text source pool wide-shape few, ← wide-shape.pool-is)

    narrower-call : line_call (converted false text) ≡ line_call text
    narrower-call =
        ap line_call narrower-text ∙ narrow-call wide-shape.rest wide-shape.fields
        ∙ sym (ap line_call high_zero ∙ wide-call wide-shape.rest wide-shape.fields)

-- ---- a line that stays

kept : (wide : Bool) (text : List ℕ) (f : Option Frame) → frame_of_text text ≡ f → action_of wide f ≡ Ok Keep → converted wide text ≡ text
kept wide text f e a = converted-by wide text f e ∙ ap (λ (x : Result Action Refusal). carried_out x text) a ∙ (unfold carried_out in refl)

-- a frame of the wanted kind is kept
wanted-kept : (wide : Bool) (f : Option Frame) → is_wanted wide f ≡ true → action_of wide f ≡ Ok Keep
unfolding is_wanted action_of
wanted-kept true (Some (Event source pool)) w = absurd (true≢false (sym w))
wanted-kept false (Some (Event source pool)) w = refl
wanted-kept wide (Some (Request clock count)) w = refl
wanted-kept wide (Some (Update clock)) w = refl
wanted-kept wide (Some (Write clock)) w = refl
wanted-kept true (Some (WideEvent source pool)) w = refl
wanted-kept false (Some (WideEvent source pool)) w = absurd (true≢false (sym w))
wanted-kept wide None w = absurd (true≢false (sym w))

pub stays : (wide : Bool) (text : List ℕ) → is_wanted wide (frame_of_text text) ≡ true → (text_number wide text ≡ 0) × (converted wide text ≡ text)
stays wide text w =
    let a = wanted-kept wide (frame_of_text text) w in
    (number_by wide text (frame_of_text text) refl ∙ ap action_number a ∙ (unfold action_number in refl), kept wide text (frame_of_text text) refl a)

-- ---- any line that is not refused

record Passed (wide : Bool) (text : List ℕ) : Type 0 where
  kind : is_wanted wide (frame_of_text (converted wide text)) ≡ true
  call : line_call (converted wide text) ≡ line_call text

pub no-frame : (wide : Bool) (text : List ℕ) → frame_of_text text ≡ None → text_number wide text ≡ 16
no-frame wide text e = number_by wide text None e ∙ (unfold action_of action_number in refl)

-- by the frame that it then is
of-kind : (wide : Bool) (text : List ℕ) (f : Option Frame) → is_wanted wide f ≡ true → frame_of_text (converted wide text) ≡ f
    → line_call (converted wide text) ≡ line_call text → Passed wide text
of-kind wide text f w e c = record { kind = ap (is_wanted wide) e ∙ w; call = c }

-- one that is kept
as_it_was : (wide : Bool) (text : List ℕ) (f : Option Frame) → frame_of_text text ≡ f → is_wanted wide f ≡ true → Passed wide text
as_it_was wide text f e w =
    let same = kept wide text f e (wanted-kept wide f w) in
    of-kind wide text f w (ap frame_of_text same ∙ e) (ap line_call same)

passed : (wide : Bool) (text : List ℕ) (f : Option Frame) → frame_of_text text ≡ f → text_number wide text ≡ 0 → Passed wide text
unfolding is_wanted
passed true text (Some (Event source pool)) e n = of-kind true text _ refl (wider-frame text source pool e) (wider-call text source pool e)
passed false text (Some (Event source pool)) e n = as_it_was false text _ e refl
passed wide text (Some (Request clock count)) e n = as_it_was wide text _ e refl
passed wide text (Some (Update clock)) e n = as_it_was wide text _ e refl
passed wide text (Some (Write clock)) e n = as_it_was wide text _ e refl
passed true text (Some (WideEvent source pool)) e n = as_it_was true text _ e refl
passed false text (Some (WideEvent source pool)) e n =
    by-test (ltb max_narrow_source source) (Passed false text)
    (λ t. absurd (let z : text_number false text ≡ 43 = large-number text source pool e (ltb-true max_narrow_source source t) in omega arith))
    (λ t.
    let h : source ≤ max_narrow_source = ltb-false max_narrow_source source t in
    of-kind false text _ refl (narrower-frame text source pool e h) (narrower-call text source pool e h))
passed wide text None e n = let z : text_number wide text ≡ 16 = no-frame wide text e in absurd (omega arith)

-- ---- there and back

back : (text : List ℕ) (source pool : ℕ) (e : frame_of_text text ≡ Some (Event source pool))
    → (text_number false (converted true text) ≡ 0) × (converted false (converted true text) ≡ text)
back text source pool e =
    let w = wider-frame text source pool e in
    let s = small text source pool e in (
      narrower-number (converted true text) source pool w s,
      narrowed-text (converted true text) source pool w s ∙ ap narrowed (wider-text text source pool e)
          ∙ (unfold narrowed in sym (shape text source pool e).is),
    )

forth : (text : List ℕ) (source pool : ℕ) (e : frame_of_text text ≡ Some (WideEvent source pool)) → source ≤ max_narrow_source
    → (text_number true (converted false text) ≡ 0) × (converted true (converted false text) ≡ text)
forth text source pool e h =
    let n = narrower-frame text source pool e h in (
      wider-number (converted false text) source pool n,
      widened-text (converted false text) source pool n ∙ ap widened (narrower-text text source pool e h)
          ∙ (unfold widened in sym (high_zero text source pool e h)),
    )

pub line-laws : LineLaws
line-laws text = record {
  wider = λ source pool e. (wider-number text source pool e, wider-frame text source pool e);
  narrower = λ source pool e h. (narrower-number text source pool e h, narrower-frame text source pool e h);
  unchanged = λ wide w. stays wide text w;
  wanted = λ wide n. (passed wide text (frame_of_text text) refl n).kind;
  same_call = λ wide n. (passed wide text (frame_of_text text) refl n).call;
  trip = λ source pool e. back text source pool e;
  trip_back = λ source pool e h. forth text source pool e h;
}
