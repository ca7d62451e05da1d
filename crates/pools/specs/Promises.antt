-- What the methods promise: the numbers of the answers (01 and 02), and a call's outcome as the caller sees it.
-- Assumes nothing.
use Rattle.std.specs.Prelude.{◌≡◌, ℕ, ◌%◌, ◌<◌, ◌≢◌, List, [], ◌∷◌, Result, Ok, Err}
use Rattle.std.proofs.Common.{lit<}
use Rattle.laws.specs.Lists.{count_of}
use Rattle.laws.specs.Refusals.{number_of}
use Rattle.pools.specs.Events.{pool_count}
use Rattle.pools.specs.State.{pool_at}
use Rattle.pools.specs.Effects.{with_pool}
use Rattle.pools.specs.Calls as Calls
use Rattle.pools.specs.Calls.{Call, event, request, update, write, draw, shuffle, call_number}
use Rattle.pools.specs.declared.Fortuna.{Fortuna}
use Rattle.pools.specs.declared.Gain.{Gain}
use Rattle.pools.specs.declared.Outcome.{Outcome}
use Rattle.pools.specs.declared.refusal.Refusal.{Refusal}
use Rattle.pools.specs.declared.refusal.Refusal.TheVariants.{SourceOutOfRange, PoolOutOfRange, DataLength, RequestTooLong, SeedSize, Malformed, PoolFull, Unseeded, CounterSpent, SlotRange, TryRange, NoneDrawn, BlankSeed, QuotasMalformed, SourceNotListed, OverAllowance, StepsSpent}

-- the number of a refusal in 01 and 02
abbrev pub code : Refusal → ℕ
code SourceOutOfRange = 11
code PoolOutOfRange = 12
code DataLength = 13
code RequestTooLong = 14
code SeedSize = 15
code Malformed = 21
code PoolFull = 22
code Unseeded = 23
code CounterSpent = 24
code SlotRange = 31
code TryRange = 32
code NoneDrawn = 33
code BlankSeed = 36
code QuotasMalformed = 37
code SourceNotListed = 38
code OverAllowance = 39
code StepsSpent = 45

pub code-above-0 : (refusal : Refusal) → 0 < code refusal
code-above-0 SourceOutOfRange = lit< tt
code-above-0 PoolOutOfRange = lit< tt
code-above-0 DataLength = lit< tt
code-above-0 RequestTooLong = lit< tt
code-above-0 SeedSize = lit< tt
code-above-0 Malformed = lit< tt
code-above-0 PoolFull = lit< tt
code-above-0 Unseeded = lit< tt
code-above-0 CounterSpent = lit< tt
code-above-0 SlotRange = lit< tt
code-above-0 TryRange = lit< tt
code-above-0 NoneDrawn = lit< tt
code-above-0 BlankSeed = lit< tt
code-above-0 QuotasMalformed = lit< tt
code-above-0 SourceNotListed = lit< tt
code-above-0 OverAllowance = lit< tt
code-above-0 StepsSpent = lit< tt

-- the number of an answer, 0 where the call was done
abbrev pub number : {T : Type 0} → Result T Refusal → ℕ
number answer = number_of code answer

-- the value of an answer, 0 where the call was refused
abbrev pub value_of : Result ℕ Refusal → ℕ
value_of (Ok x) = x
value_of (Err refusal) = 0

-- different answers have different numbers
abbrev pub NumberInjective : Type 0
NumberInjective = (a b : Result Unit Refusal) → number a ≡ number b → a ≡ b

-- the numbers that a call's check gives: 0, and those that refuse it, in the order of the check
unfoldable pub call_numbers : Call → List ℕ
call_numbers (event source pool content) = 0 ∷ 11 ∷ 12 ∷ 13 ∷ 21 ∷ 22 ∷ []
call_numbers (request clock buffer) = 0 ∷ 14 ∷ 21 ∷ 23 ∷ 24 ∷ []
call_numbers (update clock seed) = 0 ∷ 15 ∷ 36 ∷ 21 ∷ 24 ∷ []
call_numbers (write clock seed) = 0 ∷ 15 ∷ 21 ∷ 23 ∷ 24 ∷ []
call_numbers (draw clock n d) = 0 ∷ 31 ∷ 32 ∷ 21 ∷ 23 ∷ 24 ∷ []
call_numbers (shuffle clock list) = 0 ∷ 31 ∷ 21 ∷ 23 ∷ 24 ∷ []

-- no call is refused by another number
abbrev pub CallNumbersLaw : Type 0
CallNumbersLaw = (s : Fortuna) (c : Call) → count_of (call_number s c) (call_numbers c) ≡ 1

-- no call is refused by 33: it always says that tries were made
abbrev pub NoneDrawnLaw : Type 0
NoneDrawnLaw = (s : Fortuna) (c : Call) → call_number s c ≢ 33

-- what a method returns is the outcome: its number, the pools emptied, and the next state
abbrev pub Gives : {S : Type 0} → Calls.Outcome S → Outcome S → Type 0
Gives o r = (number r.answer ≡ o.number) × (r.emptied ≡ o.effect.emptied) × (r.next ≡ o.effect.next)

-- and the lent buffer holds what it says
abbrev pub GivesBytes : {S : Type 0} → Calls.Outcome S → Outcome S → List ℕ → Type 0
GivesBytes o r out = Gives o r × (out ≡ o.effect.buffer)

-- a draw: its number, the pools emptied, the value drawn, and the next state
abbrev pub GivesValue : {S : Type 0} → Calls.Outcome S → Result ℕ Refusal → ℕ → S → Type 0
GivesValue o answer emptied next =
    (number answer ≡ o.number) × (emptied ≡ o.effect.emptied) × (value_of answer ≡ o.value) × (next ≡ o.effect.next)

-- what an event into a pool comes to on the state s: its number, and no pool emptied; the place is its pool modulo 32, and the next state
-- differs from s by the pool there alone, which is the one that is told. Refused, that is the pool that stands there
abbrev pub Gains : Calls.Outcome Fortuna → Fortuna → ℕ → Gain → Type 0
Gains o s pool g =
    (number g.answer ≡ o.number) × (o.effect.emptied ≡ 0) × (g.place ≡ pool % pool_count) × (with_pool s g.place g.pool ≡ o.effect.next)
    × (g.pool ≡ pool_at o.effect.next (pool % pool_count))
