-- What the test of an answer says of its number, and what an accepted operation has passed.
-- Assumes nothing.
use mathlib.Core.Path.{◌≡◌}
use mathlib.Core.Bool.{true, false, not}
use Prim.Native.Nat.{ℕ, ◌≤◌}
use native.Mathlib.Omega.{arith}
use lib.Dec.{eqb, ltb}
use borrow.Author.Tests.{ltb-false, eqb-true, not-false}
use Rattle.std.specs.Prelude.{Result}
use Rattle.std.specs.Result.{is_ok}
use Rattle.laws.specs.Refusals.{refuse}
use Rattle.laws.proofs.Refusals.{passed, number-done, number-refused}
use Rattle.ctr_drbg.specs.Algorithms.{seed_length, working, zero_working, instantiate, reseed}
use Rattle.ctr_drbg.specs.Refusals.{max_request, reseed_interval, never_seeded, reseed_required, instantiate_number, reseed_number, generate_number}
use Rattle.ctr_drbg.specs.Operations.{code, code-above-0, number, instantiate_answer, instantiated, reseed_answer, reseeded, generate_answer, generated, generate_buffer}
use Rattle.ctr_drbg.specs.declared.refusal.Refusal.{Refusal}

pub done : (a : Result Unit Refusal) → is_ok a ≡ true → number a ≡ 0
done = number-done code code-above-0

pub refused : (a : Result Unit Refusal) → is_ok a ≡ false → eqb (number a) 0 ≡ false
refused = number-refused code code-above-0

-- 40 and 41 are passed, whatever follows
fits : (n m rest : ℕ) → refuse (not (eqb n seed_length)) 40 (refuse (ltb seed_length m) 41 rest) ≡ 0 → (n ≡ seed_length) × (m ≤ seed_length)
fits n m rest e =
    let p = passed (not (eqb n seed_length)) 40 (refuse (ltb seed_length m) 41 rest) (omega arith) e in
    let q = passed (ltb seed_length m) 41 rest (omega arith) p.1 in
    (eqb-true n seed_length (not-false (eqb n seed_length) p.0), ltb-false seed_length m q.0)

pub instantiate-fits : (n m : ℕ) → instantiate_number n m ≡ 0 → (n ≡ seed_length) × (m ≤ seed_length)
unfolding instantiate_number
instantiate-fits n m e = fits n m 0 e

pub reseed-fits : (counter n m : ℕ) → reseed_number counter n m ≡ 0 → (n ≡ seed_length) × (m ≤ seed_length)
unfolding reseed_number
reseed-fits counter n m e = fits n m (refuse (never_seeded counter) 42 0) e

pub generate-fits : (counter n m : ℕ) → generate_number counter n m ≡ 0
    → (never_seeded counter ≡ false) × (counter ≤ reseed_interval) × (m ≤ seed_length)
unfolding generate_number reseed_required
generate-fits counter n m e =
    let late : ℕ = refuse (ltb reseed_interval counter) 42 0 in
    let p = passed (ltb seed_length m) 41 (refuse (ltb max_request n) 14 (refuse (never_seeded counter) 42 late)) (omega arith) e in
    let q = passed (ltb max_request n) 14 (refuse (never_seeded counter) 42 late) (omega arith) p.1 in
    let r = passed (never_seeded counter) 42 late (omega arith) q.1 in
    (r.0, ltb-false reseed_interval counter (passed (ltb reseed_interval counter) 42 0 (omega arith) r.1).0, ltb-false seed_length m p.0)

pub ruleset accepted = (done, refused, instantiate-fits, reseed-fits, generate-fits)

-- whatever unfolds one of these unfolds all that its own line names: the tests, and the operations
unfoldable pub testing : Unit {0}
unfolding code seed_length max_request reseed_interval never_seeded reseed_required instantiate_number reseed_number generate_number
testing = tt

unfoldable pub operating : Unit {0}
unfolding instantiate_answer instantiated reseed_answer reseeded generate_answer generated generate_buffer working zero_working instantiate reseed
operating = tt
