-- What the public functions answer: a message above a limit is refused with 17.
-- Assumes nothing.
use Rattle.std.specs.Prelude.{ℕ, ◌+◌, ◌<◌, cond, List, length, nat_lt, Result, Ok, Err}
use Rattle.std.proofs.Common.{lit<}
use Rattle.laws.specs.Refusals.{number_of}
use Rattle.hash.specs.ShaD.{max_message}
use Rattle.hash.specs.Hasher.{absorb}
use Rattle.hash.specs.declared.answer.TooLong.{TooLong}
use Rattle.hash.specs.declared.hasher.Hasher.{Hasher}

-- 01's number of the refusal
abbrev pub code : TooLong → ℕ
code refusal = 17

-- it is not 0, the number of an accepted call
pub code-above-0 : (refusal : TooLong) → 0 < code refusal
code-above-0 refusal = lit< tt

-- 01's number of an answer, 0 for an accepted call
abbrev pub number : {A : Type 0} → Result A TooLong → ℕ
number = number_of code

-- what is handed out for a message of n bytes: x, or the refusal where the message is above the limit
unfoldable pub within : {A : Type 0} → ℕ → ℕ → A → Result A TooLong
within limit n x = cond (nat_lt limit n) (Err (record {})) (Ok x)

-- its number: 17 where a message of n bytes is above the limit, else 0
unfoldable pub length_number : ℕ → ℕ → ℕ
length_number limit n = number (within {A = Unit {0}} limit n tt)

-- the next state of a running hash that takes the bytes d: unchanged where they are refused
unfoldable pub absorbed : Hasher → List ℕ → Hasher
absorbed r d = cond (nat_lt max_message (r.length + length d)) r (absorb r d)
