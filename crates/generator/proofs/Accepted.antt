-- What the test of an answer says of its number, and what an accepted operation has passed.
-- Assumes nothing.
use mathlib.Core.Path.{◌≡◌}
use mathlib.Core.Bool.{Bool, true, false}
use Prim.Native.Nat.{ℕ, ◌+◌, ◌≤◌}
use native.Mathlib.Omega.{arith}
use lib.Dec.{eqb, ltb}
use borrow.Author.Tests.{ltb-false}
use Rattle.std.specs.Prelude.{Result}
use Rattle.std.specs.Result.{is_ok}
use Rattle.laws.specs.Refusals.{refuse}
use Rattle.laws.specs.Blocks.{block_count}
use Rattle.laws.proofs.Refusals.{passed, number-done, number-refused}
use Rattle.generator.specs.Counter.{little_endian, max_counter}
use Rattle.generator.specs.Steps.{GeneratorState, encode, initial}
use Rattle.generator.specs.Refusals.{max_request, max_seed, malformed, unseeded, spent, state_number, reseed_number, output_number, blocks_number, request_number}
use Rattle.generator.specs.Operations.{code, code-above-0, number, fresh, reseed_answer, reseeded, blocks_answer, blocks_made, blocks_buffer, request_answer, requested, request_buffer}
use Rattle.generator.specs.declared.refusal.Refusal.{Refusal}

pub done : (a : Result Unit Refusal) → is_ok a ≡ true → number a ≡ 0
done = number-done code code-above-0

pub refused : (a : Result Unit Refusal) → is_ok a ≡ false → eqb (number a) 0 ≡ false
refused = number-refused code code-above-0

pub reseed-fits : (w : GeneratorState) (n : ℕ) → reseed_number w n ≡ 0 → (n ≤ max_seed) × (w.count + 1 ≤ max_counter)
unfolding reseed_number spent
reseed-fits w n e =
    let full : Bool = ltb max_counter (w.count + 1) in
    let s = passed (ltb max_seed n) 17 (refuse (malformed w) 21 (refuse full 24 0)) (omega arith) e in
    let r = (passed (malformed w) 21 (refuse full 24 0) (omega arith) s.1).1 in
    (ltb-false max_seed n s.0, ltb-false max_counter (w.count + 1) (passed full 24 0 (omega arith) r).0)

pub output-fits : (w : GeneratorState) (n more : ℕ) → output_number w n more ≡ 0 → w.count + (block_count n + more) ≤ max_counter
unfolding output_number state_number spent
output-fits w n more e =
    let b : ℕ = block_count n + more in
    let s : state_number w b ≡ 0 = (passed (ltb max_request n) 14 (state_number w b) (omega arith) e).1 in
    let full : Bool = ltb max_counter (w.count + b) in
    let u = (passed (malformed w) 21 (refuse (unseeded w) 23 (refuse full 24 0)) (omega arith) s).1 in
    let r = (passed (unseeded w) 23 (refuse full 24 0) (omega arith) u).1 in
    ltb-false max_counter (w.count + b) (passed full 24 0 (omega arith) r).0

pub ruleset accepted = (done, refused, reseed-fits, output-fits)

-- whatever unfolds one of these unfolds all that its own line names: the state before any seed, and the operations
unfoldable pub starting : Unit {0}
unfolding fresh encode initial little_endian
starting = tt

unfoldable pub operating : Unit {0}
unfolding block_count blocks_number request_number reseed_answer reseeded blocks_answer blocks_made blocks_buffer request_answer requested request_buffer
operating = tt
