-- What the methods give: refused by a number, with state and buffer as before, or the algorithm's effect.
-- Assumes nothing.
use Rattle.std.specs.Prelude.{List, ℕ, ◌<◌, length, Result}
use Rattle.std.proofs.Common.{lit<}
use Rattle.laws.specs.Refusals.{guarded, number_of}
use Rattle.ctr_drbg.specs.Algorithms.{state_of, zero_working, instantiate, reseed, generate}
use Rattle.ctr_drbg.specs.Refusals.{instantiate_number, reseed_number, generate_number}
use Rattle.ctr_drbg.specs.declared.CtrDrbg.{CtrDrbg}
use Rattle.ctr_drbg.specs.declared.refusal.Refusal.{Refusal}
use Rattle.ctr_drbg.specs.declared.refusal.Refusal.TheVariants.{RequestTooLong, EntropyLength, InputTooLong, SeedingNeeded}

-- the number of a refusal
unfoldable pub code : Refusal → ℕ
code RequestTooLong = 14
code EntropyLength = 40
code InputTooLong = 41
code SeedingNeeded = 42

-- 0 is no refusal's
pub code-above-0 : (refusal : Refusal) → 0 < code refusal
unfolding code
code-above-0 RequestTooLong = lit< tt
code-above-0 EntropyLength = lit< tt
code-above-0 InputTooLong = lit< tt
code-above-0 SeedingNeeded = lit< tt

-- the number of an answer, 0 where the operation was done
abbrev pub number : Result Unit Refusal → ℕ
number = number_of code

-- the state before any seeding
unfoldable pub fresh : CtrDrbg
fresh = state_of zero_working 0

-- instantiate with an entropy input and a personalization string; nothing is read of the state
unfoldable pub instantiate_answer : List ℕ → List ℕ → ℕ
instantiate_answer entropy personalization = instantiate_number (length entropy) (length personalization)

unfoldable pub instantiated : CtrDrbg → List ℕ → List ℕ → CtrDrbg
instantiated s entropy personalization =
    guarded (instantiate_answer entropy personalization) (instantiate entropy personalization) s

-- reseed with an entropy input and additional input
unfoldable pub reseed_answer : CtrDrbg → List ℕ → List ℕ → ℕ
reseed_answer s entropy additional = reseed_number s.reseed_counter (length entropy) (length additional)

unfoldable pub reseeded : CtrDrbg → List ℕ → List ℕ → CtrDrbg
reseeded s entropy additional = guarded (reseed_answer s entropy additional) (reseed s entropy additional) s

-- a request on the lent buffer out, with additional input
unfoldable pub generate_answer : CtrDrbg → List ℕ → List ℕ → ℕ
generate_answer s out additional = generate_number s.reseed_counter (length out) (length additional)

unfoldable pub generated : CtrDrbg → List ℕ → List ℕ → CtrDrbg
generated s out additional =
    guarded (generate_answer s out additional) (generate s (length out) additional).next s

unfoldable pub generate_buffer : CtrDrbg → List ℕ → List ℕ → List ℕ
generate_buffer s out additional =
    guarded (generate_answer s out additional) (generate s (length out) additional).bytes out
