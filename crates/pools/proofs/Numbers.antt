-- Different answers have different numbers, and 0 is that of a call that was done.
-- Assumes nothing.
use Rattle.std.proofs.Common.{◌≡◌, ℕ, Bool, cond, eqb, sym, refl, ap, ◌∙◌}
use Rattle.std.specs.Result.{is_ok}
use Rattle.std.specs.Prelude.{Result, Ok, Err}
use Rattle.laws.proofs.Refusals as Refusals
use Rattle.pools.specs.Promises.{code, code-above-0, number, NumberInjective}
use Rattle.pools.specs.declared.refusal.Refusal.{Refusal}
use Rattle.pools.specs.declared.refusal.Refusal.TheVariants.{SourceOutOfRange, PoolOutOfRange, DataLength, RequestTooLong, SeedSize, Malformed, PoolFull, Unseeded, CounterSpent, SlotRange, TryRange, NoneDrawn, BlankSeed, QuotasMalformed, SourceNotListed, OverAllowance, StepsSpent}

-- the answer that a number belongs to
answer_of : ℕ → Result Unit Refusal
answer_of n =
    cond (eqb n 0) (Ok tt)
    (cond (eqb n 11) (Err SourceOutOfRange)
    (cond (eqb n 12) (Err PoolOutOfRange)
    (cond (eqb n 13) (Err DataLength)
    (cond (eqb n 14) (Err RequestTooLong)
    (cond (eqb n 15) (Err SeedSize)
    (cond (eqb n 21) (Err Malformed)
    (cond (eqb n 22) (Err PoolFull)
    (cond (eqb n 23) (Err Unseeded)
    (cond (eqb n 24) (Err CounterSpent)
    (cond (eqb n 31) (Err SlotRange)
    (cond (eqb n 32) (Err TryRange)
    (cond (eqb n 33) (Err NoneDrawn)
    (cond (eqb n 36) (Err BlankSeed)
    (cond (eqb n 37) (Err QuotasMalformed)
    (cond (eqb n 38) (Err SourceNotListed)
    (cond (eqb n 39) (Err OverAllowance)
    (Err StepsSpent)))))))))))))))))

read_back : (a : Result Unit Refusal) → answer_of (number a) ≡ a
unfolding answer_of
read_back (Ok tt) = refl
read_back (Err SourceOutOfRange) = refl
read_back (Err PoolOutOfRange) = refl
read_back (Err DataLength) = refl
read_back (Err RequestTooLong) = refl
read_back (Err SeedSize) = refl
read_back (Err Malformed) = refl
read_back (Err PoolFull) = refl
read_back (Err Unseeded) = refl
read_back (Err CounterSpent) = refl
read_back (Err SlotRange) = refl
read_back (Err TryRange) = refl
read_back (Err NoneDrawn) = refl
read_back (Err BlankSeed) = refl
read_back (Err QuotasMalformed) = refl
read_back (Err SourceNotListed) = refl
read_back (Err OverAllowance) = refl
read_back (Err StepsSpent) = refl

pub number-injective : NumberInjective
number-injective a b e = sym (read_back a) ∙ ap answer_of e ∙ read_back b

-- d is the code's test for a call that was done
pub tested : {T : Type 0} (d : Bool) (answer : Result T Refusal) → d ≡ is_ok answer → d ≡ eqb (number answer) 0
tested = Refusals.tested code code-above-0
