-- What a log prints is what the reference model prints.
-- Assumes nothing.
use mathlib.Core.Path.{◌≡◌, refl, sym, ap, ◌∙◌}
use mathlib.Core.List.{List, [], ◌∷◌, ◌++◌, map}
use Rattle.std.specs.Prelude.{Option, Some, None}
use Prim.Native.Nat.{ℕ, suc}
use Rattle.pools.specs.State.{fresh}
use Rattle.pools.specs.Calls.{Call, Outcome, step, run_from, run}
use Rattle.pools.specs.declared.Fortuna.{Fortuna}
use Rattle.reference.specs.Reference.{Reference, reference_run}
use Rattle.reference.proofs.AsBefore.{run-as-before}
use Rattle.reference.specs.Agreement.{concrete_outcome}
use Rattle.reference.proofs.Correct.{run-correct}
use Rattle.bench.specs.Lines.{line_call, no_frame, number_line, outcome_line, executed, line_of}
use Rattle.bench.specs.Input.{lines, printed_from, transcript}
use Rattle.bench.specs.Model.{line_calls, made, answers, log_calls, model_transcript}
use Rattle.bench.specs.Statements.{ModelLaw}

-- the state in an outcome is not printed
answers-concrete : (calls : List (Option Call)) (outcomes : List (Outcome Reference))
    → answers calls (map concrete_outcome outcomes) ≡ answers calls outcomes
unfolding answers outcome_line concrete_outcome
answers-concrete [] outcomes = refl
answers-concrete (None ∷ calls) outcomes = ap (λ (l : List ℕ). number_line no_frame ++ l) (answers-concrete calls outcomes)
answers-concrete (Some c ∷ calls) [] = refl
answers-concrete (Some c ∷ calls) (o ∷ outcomes) = ap (λ (l : List ℕ). outcome_line c o ++ l) (answers-concrete calls outcomes)

-- what lines print is what the outcomes of the run of their calls print
printed-run : (texts : List (List ℕ)) (place : ℕ) (s : Fortuna)
    → printed_from s texts ≡ answers (map line_call texts) (run_from (λ place. step) place s (made (map line_call texts)))
unfolding printed_from line_of executed answers made run_from
printed-run [] place s = refl
printed-run (text ∷ texts) place s = go (line_call text) (printed-run texts)
  where
    go : (c : Option Call)
        → ((place : ℕ) (s : Fortuna)
        → printed_from s texts ≡ answers (map line_call texts) (run_from (λ place. step) place s (made (map line_call texts))))
        → (executed s c).printed ++ printed_from (executed s c).next texts
        ≡ answers (c ∷ map line_call texts) (run_from (λ place. step) place s (made (c ∷ map line_call texts)))
    go None rest = ap (λ (l : List ℕ). number_line no_frame ++ l) (rest place s)
    go (Some c) rest = ap (λ (l : List ℕ). outcome_line c (step s c) ++ l) (rest (suc place) (step s c).effect.next)

-- an input's answers go by the calls of its lines alone
pub same-calls : (input other : List ℕ) → map line_call (lines input) ≡ map line_call (lines other) → transcript input ≡ transcript other
unfolding transcript
same-calls input other e =
    printed-run (lines input) 0 fresh
    ∙ ap (λ (calls : List (Option Call)). answers calls (run_from (λ place. step) 0 fresh (made calls))) e
    ∙ sym (printed-run (lines other) 0 fresh)

pub model-law : ModelLaw
unfolding transcript model_transcript log_calls line_calls run
model-law input =
    let calls = line_calls input in
    printed-run (lines input) 0 fresh
    ∙ ap (answers calls) (sym (run-as-before (made calls)) ∙ (run-correct (log_calls input)).agreement.outcomes)
    ∙ answers-concrete calls (reference_run (log_calls input))
