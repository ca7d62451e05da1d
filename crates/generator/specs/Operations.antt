-- What the generator's methods give: refused by a number, with state and buffer as before, or the step's effect.
-- Assumes nothing.
use Rattle.std.specs.Prelude.{List, ℕ, ◌<◌, length, Result}
use lib.Dec.{lit<}
use Rattle.laws.specs.Refusals.{guarded, number_of}
use Rattle.generator.specs.Steps.{decode, encode, initial, reseed, block_data, pseudo_random_data}
use Rattle.generator.specs.Refusals.{reseed_number, blocks_number, request_number}
use Rattle.generator.specs.declared.Generator.{Generator}
use Rattle.generator.specs.declared.refusal.Refusal.{Refusal}
use Rattle.generator.specs.declared.refusal.Refusal.TheVariants.{RequestTooLong, SeedTooLong, Malformed, Unseeded, CounterSpent}

-- 01's number of a refusal
unfoldable pub code : Refusal → ℕ
code RequestTooLong = 14
code SeedTooLong = 17
code Malformed = 21
code Unseeded = 23
code CounterSpent = 24

-- 0 is no refusal's
pub code-above-0 : (refusal : Refusal) → 0 < code refusal
unfolding code
code-above-0 RequestTooLong = lit< tt
code-above-0 SeedTooLong = lit< tt
code-above-0 Malformed = lit< tt
code-above-0 Unseeded = lit< tt
code-above-0 CounterSpent = lit< tt

-- the number of an answer, 0 where the operation was done
abbrev pub number : Result Unit Refusal → ℕ
number = number_of code

-- the state before any seed
unfoldable pub fresh : Generator
fresh = encode initial

-- reseed with s
unfoldable pub reseed_answer : Generator → List ℕ → ℕ
reseed_answer g s = reseed_number (decode g) (length s)

unfoldable pub reseeded : Generator → List ℕ → Generator
reseeded g s = guarded (reseed_answer g s) (encode (reseed (decode g) s)) g

-- the block operation on the lent buffer out
unfoldable pub blocks_answer : Generator → List ℕ → ℕ
blocks_answer g out = blocks_number (decode g) (length out)

unfoldable pub blocks_made : Generator → List ℕ → Generator
blocks_made g out = guarded (blocks_answer g out) (encode (block_data (decode g) (length out)).next) g

unfoldable pub blocks_buffer : Generator → List ℕ → List ℕ
blocks_buffer g out = guarded (blocks_answer g out) (block_data (decode g) (length out)).bytes out

-- a request on the lent buffer out
unfoldable pub request_answer : Generator → List ℕ → ℕ
request_answer g out = request_number (decode g) (length out)

unfoldable pub requested : Generator → List ℕ → Generator
requested g out = guarded (request_answer g out) (encode (pseudo_random_data (decode g) (length out)).next) g

unfoldable pub request_buffer : Generator → List ℕ → List ℕ
request_buffer g out = guarded (request_answer g out) (pseudo_random_data (decode g) (length out)).bytes out
