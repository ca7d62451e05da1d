-- What a call of CTR_DRBG leaves with C: its number, the next state, and what the lent buffer then holds.
-- Assumes nothing.
use Rattle.std.specs.Prelude.{◌≡◌, List, ℕ}
use Rattle.ctr_drbg.specs.Operations.{instantiate_answer, instantiated, reseed_answer, reseeded, generate_answer, generated, generate_buffer}
use Rattle.ctr_drbg.specs.declared.CtrDrbg.{CtrDrbg}

abbrev pub LeavesInstantiated : CtrDrbg → List ℕ → List ℕ → ℕ → CtrDrbg → Type 0
LeavesInstantiated s entropy personalization n next =
    (n ≡ instantiate_answer entropy personalization) × (next ≡ instantiated s entropy personalization)

abbrev pub LeavesReseeded : CtrDrbg → List ℕ → List ℕ → ℕ → CtrDrbg → Type 0
LeavesReseeded s entropy additional n next = (n ≡ reseed_answer s entropy additional) × (next ≡ reseeded s entropy additional)

abbrev pub LeavesGenerated : CtrDrbg → List ℕ → List ℕ → ℕ → CtrDrbg → List ℕ → Type 0
LeavesGenerated s out additional n next filled =
    (n ≡ generate_answer s out additional) × (next ≡ generated s out additional) × (filled ≡ generate_buffer s out additional)
