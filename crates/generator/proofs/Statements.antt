-- The statements of specs/Statements.antt hold.
-- Assumes nothing.
use mathlib.Core.Path.{◌≡◌, refl, sym, ap, ◌∙◌}
use mathlib.Core.Bool.{Bool, true, false, cond}
use mathlib.Core.List.{[]}
use Rattle.std.specs.Prelude.{Result, Ok, Err}
use Prim.Native.Nat.{ℕ, ◌<◌, ◌≤◌}
use native.Mathlib.Nat.{add-zero}
use lib.Dec.{eqb}
use lib.ListN.{length, get_or}
use Rattle.laws.specs.Blocks.{block_count}
use Rattle.generator.specs.Counter.{value, little_endian, max_counter}
use Rattle.generator.specs.Steps.{GeneratorState, decode, encode, generate_blocks, block_data}
use Rattle.generator.specs.Closed.{after_blocks}
use Rattle.generator.specs.Operations.{code, number, blocks_answer, blocks_made}
use Rattle.generator.specs.Statements.{CounterEncoding, ClosedForm, NoBlocks, NothingAsked, NumberInjective}
use Rattle.generator.specs.declared.Generator.{Generator}
use Rattle.generator.specs.declared.refusal.Refusal.{Refusal}
use Rattle.generator.specs.declared.refusal.Refusal.TheVariants.{RequestTooLong, SeedTooLong, Malformed, Unseeded, CounterSpent}
use Rattle.generator.proofs.Digits.{counter-value, value-counter}
use Rattle.generator.proofs.Steps.{block-data-closed, random-data-closed}

different-bytes : (c d : ℕ) → c ≤ max_counter → d ≤ max_counter → little_endian 16 c ≡ little_endian 16 d → c ≡ d
different-bytes c d h k e = sym (value-counter c h) ∙ ap value e ∙ value-counter d k

pub counter-encoding : CounterEncoding
counter-encoding = record { bytes_of_value = counter-value; value_of_bytes = value-counter; different = different-bytes }

pub closed-form : (w : GeneratorState) (n : ℕ) → ClosedForm w n
closed-form w n = record { blocks = block-data-closed w n; request = random-data-closed w n }

pub no_blocks : (w : GeneratorState) → NoBlocks w
unfolding after_blocks generate_blocks
no_blocks w = record { advanced = λ i. record { key = w.key; count = add-zero w.count i }; generated = refl }

-- K and C of a state, held again, are the state
same-state : (g : Generator) → length g.counter ≡ 16 → ((i : ℕ) → get_or g.counter i 0 < 256) → encode (decode g) ≡ g
unfolding encode decode
same-state g full bytes = λ i. record { key = g.key; counter = counter-value g.counter full bytes i }

no_step : (w : GeneratorState) → (block_data w 0).next ≡ w
unfolding block_data block_count generate_blocks
no_step w = refl

either_way : (t : Bool) (g : Generator) → cond t g g ≡ g
either_way true g = refl
either_way false g = refl

pub nothing-asked : (g : Generator) → NothingAsked g
unfolding blocks_made
nothing-asked g full bytes = rw (no_step (decode g), same-state g full bytes) (either_way (eqb (blocks_answer g []) 0) g)

-- the answer that a number belongs to
answer_of : ℕ → Result Unit Refusal
answer_of n =
    cond (eqb n 0) (Ok tt)
    (Err (cond (eqb n 14) RequestTooLong (cond (eqb n 17) SeedTooLong (cond (eqb n 21) Malformed (cond (eqb n 23) Unseeded CounterSpent)))))

read_back : (a : Result Unit Refusal) → answer_of (number a) ≡ a
unfolding answer_of code
read_back (Ok tt) = refl
read_back (Err RequestTooLong) = refl
read_back (Err SeedTooLong) = refl
read_back (Err Malformed) = refl
read_back (Err Unseeded) = refl
read_back (Err CounterSpent) = refl

pub number-injective : NumberInjective
number-injective a b e = sym (read_back a) ∙ ap answer_of e ∙ read_back b
