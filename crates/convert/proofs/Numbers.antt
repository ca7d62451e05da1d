-- An answer's number tells the answer.
-- Assumes nothing.
use mathlib.Core.Path.{◌≡◌, refl, sym, ap, ◌∙◌}
use mathlib.Core.Bool.{cond}
use Prim.Native.Nat.{ℕ}
use lib.Dec.{eqb}
use Rattle.std.specs.Prelude.{Result, Ok, Err}
use Rattle.laws.specs.Refusals.{number_of}
use Rattle.convert.specs.Promises.{code, number, refused_code, refused_line}
use Rattle.convert.specs.Statements.{NumberInjective, AnswerTold}
use Rattle.convert.specs.declared.outcome.Refused.{Refused}
use Rattle.convert.specs.declared.refusal.Refusal.{Refusal}
use Rattle.convert.specs.declared.refusal.Refusal.TheVariants.{NoFrame, LargeSource, NoRoom}

-- the answer that a number stands for
answer_of : ℕ → Result Unit Refusal
answer_of n = cond (eqb n 0) (Ok tt) (cond (eqb n 16) (Err NoFrame) (cond (eqb n 43) (Err LargeSource) (Err NoRoom)))

read_back : (a : Result Unit Refusal) → answer_of (number a) ≡ a
unfolding answer_of
read_back (Ok done) = refl
read_back (Err NoFrame) = refl
read_back (Err LargeSource) = refl
read_back (Err NoRoom) = refl

pub number-injective : NumberInjective
number-injective a b e = sym (read_back a) ∙ ap answer_of e ∙ read_back b

-- the answer of a conversion that a number and a line stand for
told : ℕ → ℕ → Result Unit Refused
told n line =
    cond (eqb n 0) (Ok tt)
    (Err (record { line = line; refusal = cond (eqb n 16) NoFrame (cond (eqb n 43) LargeSource NoRoom) }))

refusal_back : (line : ℕ) (r : Refusal) → told (code r) line ≡ Err (record { line = line; refusal = r })
unfolding told
refusal_back line NoFrame = refl
refusal_back line LargeSource = refl
refusal_back line NoRoom = refl

told_back : (a : Result Unit Refused) → told (number_of refused_code a) (refused_line a) ≡ a
unfolding told
told_back (Ok done) = refl
told_back (Err refused) = refusal_back refused.line refused.refusal

pub answer-told : AnswerTold
answer-told a b n l =
    sym (told_back a) ∙ ap (λ k. told k (refused_line a)) n ∙ ap (λ line. told (number_of refused_code b) line) l ∙ told_back b
