-- Which texts are refused, and by which number.
-- Assumes nothing.
use mathlib.Core.Path.{◌≡◌, refl, sym, ap, ◌∙◌}
use mathlib.Core.Bool.{Bool, true, false}
use mathlib.Core.List.{List}
use mathlib.Core.Logic.{◌↔◌, ◌⊎◌, inl, inr}
use Prim.Native.Nat.{ℕ}
use native.Mathlib.Omega.{arith}
use lib.Dec.{ltb}
use borrow.Author.Tests.{ltb-true}
use Rattle.laws.proofs.Cases.{split}
use Rattle.std.specs.Prelude.{Option, Some, None, Result}
use Rattle.bench.specs.Frames.{frame_of_text}
use Rattle.bench.specs.declared.frame.Frame.{Frame}
use Rattle.bench.specs.declared.frame.Frame.TheVariants.{Event, Request, Update, Write, WideEvent}
use Rattle.convert.specs.Texts.{max_narrow_source, action_of, action_number, text_number}
use Rattle.convert.specs.Statements.{TooLarge}
use Rattle.convert.specs.declared.action.Action.{Action}
use Rattle.convert.specs.declared.refusal.Refusal.{Refusal}
use Rattle.convert.proofs.Lines.{number_by, no-frame, large-number}

by_number : (wide : Bool) (f : Option Frame) → action_number (action_of wide f) ≡ 16 → f ≡ None
unfolding action_of action_number
by_number true (Some (Event source pool)) n = absurd (omega arith)
by_number false (Some (Event source pool)) n = absurd (omega arith)
by_number wide (Some (Request clock count)) n = absurd (omega arith)
by_number wide (Some (Update clock)) n = absurd (omega arith)
by_number wide (Some (Write clock)) n = absurd (omega arith)
by_number true (Some (WideEvent source pool)) n = absurd (omega arith)
by_number false (Some (WideEvent source pool)) n =
    split (λ (a : Result Action Refusal). action_number a ≡ 16 → Some (WideEvent source pool) ≡ None) (ltb max_narrow_source source)
    (λ _ z. absurd (omega arith)) (λ _ z. absurd (omega arith)) n
by_number wide None n = refl

pub stray-text : (wide : Bool) (text : List ℕ) → (text_number wide text ≡ 16) ↔ (frame_of_text text ≡ None)
stray-text wide text = ((λ n. by_number wide (frame_of_text text) (sym (number_by wide text (frame_of_text text) refl) ∙ n)), no-frame wide text)

by-source : (wide : Bool) (f : Option Frame) → action_number (action_of wide f) ≡ 43 → TooLarge wide f
unfolding action_of action_number
by-source true (Some (Event source pool)) n = absurd (omega arith)
by-source false (Some (Event source pool)) n = absurd (omega arith)
by-source wide (Some (Request clock count)) n = absurd (omega arith)
by-source wide (Some (Update clock)) n = absurd (omega arith)
by-source wide (Some (Write clock)) n = absurd (omega arith)
by-source true (Some (WideEvent source pool)) n = absurd (omega arith)
by-source false (Some (WideEvent source pool)) n =
    split (λ (a : Result Action Refusal). action_number a ≡ 43 → TooLarge false (Some (WideEvent source pool))) (ltb max_narrow_source source)
    (λ t z. (refl, source, pool, refl, ltb-true max_narrow_source source t)) (λ _ z. absurd (omega arith)) n
by-source wide None n = absurd (omega arith)

pub large-text : (wide : Bool) (text : List ℕ) → (text_number wide text ≡ 43) ↔ TooLarge wide (frame_of_text text)
large-text wide text = (
  (λ n. by-source wide (frame_of_text text) (sym (number_by wide text (frame_of_text text) refl) ∙ n)),
  (λ h. ap (λ (w : Bool). text_number w text) h.0 ∙ large-number text h.1 h.2 h.3 h.4),
)

-- one of the three numbers
abbrev Kinds : Result Action Refusal → Type 0
Kinds a = (action_number a ≡ 0) ⊎ ((action_number a ≡ 16) ⊎ (action_number a ≡ 43))

by_kind : (wide : Bool) (f : Option Frame) → Kinds (action_of wide f)
unfolding action_of action_number
by_kind wide (Some (Event source pool)) = inl refl
by_kind wide (Some (Request clock count)) = inl refl
by_kind wide (Some (Update clock)) = inl refl
by_kind wide (Some (Write clock)) = inl refl
by_kind true (Some (WideEvent source pool)) = inl refl
by_kind false (Some (WideEvent source pool)) = split Kinds (ltb max_narrow_source source) (λ _. inr (inr refl)) (λ _. inl refl)
by_kind wide None = inr (inl refl)

pub text-numbers : (wide : Bool) (text : List ℕ) → (text_number wide text ≡ 0) ⊎ ((text_number wide text ≡ 16) ⊎ (text_number wide text ≡ 43))
unfolding text_number
text-numbers wide text = by_kind wide (frame_of_text text)
