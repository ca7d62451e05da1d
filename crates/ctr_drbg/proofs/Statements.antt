-- The statements of specs/Statements.antt hold.
-- Assumes nothing.
use mathlib.Core.Path.{◌≡◌, refl, sym, ap, ◌∙◌}
use mathlib.Core.Logic.{◌≢◌}
use mathlib.Core.Bool.{cond}
use mathlib.Core.List.{List, [], ◌∷◌}
use Prim.Native.Nat.{ℕ, suc, ◌+◌, ◌-◌, ◌%◌, ◌^◌, ◌≤◌, ◌<◌}
use native.Mathlib.Nat.{lt_of_lt_of_le, le_of_lt, lt_of_le_of_lt, mod-lt, mod-add-mod, mod-eq_of_lt, mod-eq-sub-mod, mod-mod}
use native.Mathlib.Decide.{dec_lt}
use native.Mathlib.Omega.{arith}
use lib.Dec.{eqb, lit<}
use lib.ListN.{length, get_or}
use borrow.Author.Tests.{ne_eqb}
use Rattle.laws.specs.Blocks.{block_count}
use Rattle.laws.proofs.Tabulate.{length-tabulate, get_d_tabulate}
use Rattle.std.specs.Prelude.{Result, Ok, Err}
use Rattle.cipher.specs.Aes.{Bytes}
use Rattle.ctr_drbg.specs.Counter.{octets_to_integer, integer_to_octets, increment}
use Rattle.ctr_drbg.specs.Algorithms.{seed_length, padded, generate_blocks, update, working, prepared_by, prepared, generate}
use Rattle.ctr_drbg.specs.Closed.{after, values_of_v, closed_blocks, closed_update, closed_from, closed_generate}
use Rattle.ctr_drbg.specs.Refusals.{max_request}
use Rattle.ctr_drbg.specs.Operations.{code, number}
use Rattle.ctr_drbg.specs.Statements.{CounterEncoding, ClosedForm, Different, NoBlockTwice, EmptyInput, NothingAsked, NumberInjective}
use Rattle.ctr_drbg.specs.declared.CtrDrbg.{CtrDrbg}
use Rattle.ctr_drbg.specs.declared.update.Working.{Working}
use Rattle.ctr_drbg.specs.declared.refusal.Refusal.{Refusal}
use Rattle.ctr_drbg.specs.declared.refusal.Refusal.TheVariants.{RequestTooLong, EntropyLength, InputTooLong, SeedingNeeded}
use Rattle.ctr_drbg.proofs.Digits.{integer-octets, octets-integer}
use Rattle.ctr_drbg.proofs.Steps.{blocks-closed, update-closed, instantiate-closed, reseed-closed, generate-closed}

bytes-of-number : (v : List ℕ) → length v ≡ 16 → Bytes v → integer_to_octets 16 (octets_to_integer v) ≡ v
bytes-of-number v full bytes = rw (← full) (octets-integer v bytes)

step-number : (v : List ℕ) → octets_to_integer (increment v) ≡ (octets_to_integer v + 1) % 2 ^ 128
unfolding increment
step-number v = integer-octets 16 ((octets_to_integer v + 1) % 2 ^ 128) ∙ mod-mod (octets_to_integer v + 1) (2 ^ 128)

pub counter-encoding : CounterEncoding
counter-encoding = record { bytes_of_number = bytes-of-number; number_of_bytes = integer-octets 16; stepped = step-number }

pub closed-form : ClosedForm
closed-form =
    record {
      blocks = λ w k. blocks-closed k w;
      updated = update-closed;
      first = instantiate-closed;
      reseeded = reseed-closed;
      request = generate-closed;
    }

-- ---- no V twice

-- two numbers less than m apart leave different remainders
apart : (a d m : ℕ) → 0 < d → d < m → (a + d) % m ≢ a % m
apart a d m pos less e =
    let r : a % m < m = mod-lt a {m = m} (omega arith) in
    let f : (a % m + d) % m ≡ a % m = mod-add-mod a m d ∙ e in
    elim (dec_lt (a % m + d) m) [
      | yes h ↦ let g : a % m + d ≡ a % m = sym (mod-eq_of_lt h) ∙ f in omega arith
      | no h ↦
          let g : a % m + d - m ≡ a % m = sym (mod-eq-sub-mod {n = a % m + d} {m = m} (omega arith) ∙ mod-eq_of_lt (omega arith)) ∙ f in
          omega arith
    ]

steps_apart : (v : List ℕ) (i j : ℕ) → i < j → j < 2 ^ 128 → after v (suc i) ≢ after v (suc j)
unfolding after
steps_apart v i j h k e =
    let x : ℕ = octets_to_integer v in
    let number_of : (y : ℕ) → octets_to_integer (integer_to_octets 16 (y % 2 ^ 128)) ≡ y % 2 ^ 128
    = λ y. integer-octets 16 (y % 2 ^ 128) ∙ mod-mod y (2 ^ 128) in
    let same : (x + suc i) % 2 ^ 128 ≡ (x + suc j) % 2 ^ 128 = sym (number_of (x + suc i)) ∙ ap octets_to_integer e ∙ number_of (x + suc j) in
    let further : x + suc i + (j - i) ≡ x + suc j = omega arith in
    apart (x + suc i) (j - i) (2 ^ 128) (omega arith) (less (2 ^ 128) k) (rw further (sym same))
  where
    less : (m : ℕ) → j < m → j - i < m
    less m l = omega arith

-- up to 2^128 steps of V
steps-different : (v : List ℕ) (k : ℕ) → k ≤ 2 ^ 128 → Different (values_of_v v k)
unfolding values_of_v
steps-different v k most i j h m e =
    let f : ℕ → List ℕ = λ i. after v (suc i) in
    let below : j < k = rw (length-tabulate f k) at m in
    let at : (t : ℕ) → t < k → get_or (values_of_v v k) t [] ≡ after v (suc t) = λ t b. get_d_tabulate f [] k t b in
    steps_apart v i j h (lt_of_lt_of_le below most) (sym (at i (omega arith)) ∙ e ∙ at j below)

blocks-different : (w : Working) (k : ℕ) → k ≤ 2 ^ 128 → Different (generate_blocks w k).trace
unfolding closed_blocks
blocks-different w k most = rw (blocks-closed k w) (steps-different w.v k most)

few : (n : ℕ) → n ≤ max_request → block_count n + 3 ≤ 5000
unfolding max_request block_count
few n h = omega arith

request-different : (s : CtrDrbg) (n : ℕ) (additional : List ℕ) → n ≤ max_request → Different (generate s n additional).trace
unfolding closed_generate closed_from
request-different s n additional h =
    rw (generate-closed s n additional) (steps-different (prepared additional (working s)).v (block_count n + 3) (small _ (few n h)))
  where
    small : (x : ℕ) → x ≤ 5000 → x ≤ 2 ^ 128
    small x b = le_of_lt (lt_of_le_of_lt b (lit< {m = 5000} {n = 2 ^ 128} tt))

pub no-block-twice : NoBlockTwice
no-block-twice = record { blocks = blocks-different; request = request-different }

-- an update alone, in closed form
update-now : (provided : List ℕ) (w : Working) → update provided w ≡ closed_update provided w 0
unfolding generate_blocks
update-now provided w = update-closed provided w 0

pub empty-input : (s : CtrDrbg) (n : ℕ) → EmptyInput s n
unfolding prepared_by closed_generate padded seed_length
empty-input s n =
    record {
      none = generate-closed s n [];
      some = λ x xs. generate-closed s n (x ∷ xs) ∙ rw (ne_eqb (suc (length xs)) 0 (λ e. omega arith), update-now (padded (x ∷ xs)) (working s));
    }

pub nothing-asked : (s : CtrDrbg) (additional : List ℕ) → NothingAsked s additional
unfolding generate generate_blocks block_count
nothing-asked s additional = record { bytes = refl; next = refl }

-- ---- numbers

-- the answer that a number belongs to
answer_of : ℕ → Result Unit Refusal
answer_of n = cond (eqb n 0) (Ok tt) (Err (cond (eqb n 14) RequestTooLong (cond (eqb n 40) EntropyLength (cond (eqb n 41) InputTooLong SeedingNeeded))))

read_back : (a : Result Unit Refusal) → answer_of (number a) ≡ a
unfolding answer_of code
read_back (Ok tt) = refl
read_back (Err RequestTooLong) = refl
read_back (Err EntropyLength) = refl
read_back (Err InputTooLong) = refl
read_back (Err SeedingNeeded) = refl

pub number-injective : NumberInjective
number-injective a b e = sym (read_back a) ∙ ap answer_of e ∙ read_back b
