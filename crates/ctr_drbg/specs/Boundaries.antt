-- Boundary rows: the last accepted and the first refused value of each number, their order, the carries of V, the places of bytes, and
-- what calls do, with the update and the cipher left as they are.
-- Assumes nothing.
use Rattle.std.specs.Prelude.{◌≡◌, List, [], ◌∷◌, ◌++◌, map, ℕ, ◌+◌, ◌-◌, ◌^◌, take, replicate, Ok, Err}
use Rattle.laws.specs.Lists.{tabulate}
use Rattle.laws.specs.Blocks.{block_count}
use Rattle.ctr_drbg.specs.Counter.{octets_to_integer, integer_to_octets, increment}
use Rattle.ctr_drbg.specs.Algorithms.{xored, padded, divided, working_of, generate_blocks, update, zero_working, generate}
use Rattle.ctr_drbg.specs.Refusals.{instantiate_number, reseed_number, generate_number}
use Rattle.ctr_drbg.specs.Operations.{number, fresh, instantiated, reseeded, generated, generate_buffer}
use Rattle.ctr_drbg.specs.Runs.{Call, instantiation, reseeding, request, numbers_from, served_before}
use Rattle.ctr_drbg.specs.declared.CtrDrbg.{CtrDrbg}
use Rattle.ctr_drbg.specs.declared.update.Working.{Working}
use Rattle.ctr_drbg.specs.declared.refusal.Refusal.TheVariants.{RequestTooLong, EntropyLength, InputTooLong, SeedingNeeded}

-- k bytes of FF behind a byte x and zeros, 16 in all
abbrev pub before_carry : ℕ → ℕ → List ℕ
before_carry x k = replicate (15 - k) 0 ++ (x ∷ replicate k 0xff)

-- the same with the last k bytes 0
abbrev pub after_carry : ℕ → ℕ → List ℕ
after_carry x k = replicate (15 - k) 0 ++ (x ∷ replicate k 0)

-- V steps at its last byte, carries over FF, 2^32, 2^64, 2^96 and up to its first byte, and goes from 2^128 - 1 to 0
abbrev pub StepsRow : Type 0
StepsRow =
    map increment
    (before_carry 0 0 ∷ before_carry 0xfe 0 ∷ before_carry 0 1 ∷ before_carry 7 4 ∷ before_carry 7 8 ∷ before_carry 7 12 ∷ before_carry 0xfe 15
    ∷ before_carry 0xff 15 ∷ [])
    ≡ after_carry 1 0 ∷ after_carry 0xff 0 ∷ after_carry 1 1 ∷ after_carry 8 4 ∷ after_carry 8 8 ∷ after_carry 8 12 ∷ after_carry 0xff 15 ∷ after_carry 0 15 ∷ []

-- the most significant byte comes first
abbrev pub NumbersRow : Type 0
NumbersRow =
    map octets_to_integer ((1 ∷ replicate 15 0) ∷ (replicate 14 0 ++ (1 ∷ 2 ∷ [])) ∷ replicate 16 0xff ∷ [])
    ≡ (2 ^ 120) ∷ 0x0102 ∷ (2 ^ 128 - 1) ∷ []

abbrev pub OctetsRow : Type 0
OctetsRow =
    map (integer_to_octets 16) ((2 ^ 120) ∷ 0x0102 ∷ (2 ^ 128 + 5) ∷ [])
    ≡ (1 ∷ replicate 15 0) ∷ (replicate 14 0 ++ (1 ∷ 2 ∷ [])) ∷ (replicate 15 0 ++ (5 ∷ [])) ∷ []

-- zeros at the end
abbrev pub PaddedRow : Type 0
PaddedRow =
    map padded ([] ∷ (7 ∷ []) ∷ replicate 47 7 ∷ replicate 48 7 ∷ [])
    ≡ replicate 48 0 ∷ (7 ∷ replicate 47 0) ∷ (replicate 47 7 ++ (0 ∷ [])) ∷ replicate 48 7 ∷ []

-- byte by byte, all 48, each with the one at its own place
abbrev pub XoredRow : Type 0
XoredRow =
    xored (tabulate (λ i. i) 48) (replicate 48 0xff) ∷ xored (tabulate (λ i. i) 48) (tabulate (λ i. 47 - i) 48) ∷ []
    ≡ tabulate (λ i. 255 - i) 48 ∷ (replicate 16 47 ++ replicate 16 15 ++ replicate 16 47) ∷ []

-- Key in front, V behind it
abbrev pub DividedRow : Type 0
DividedRow = divided (tabulate (λ i. i) 48) ≡ working_of (tabulate (λ i. i) 32) (tabulate (λ i. i + 32) 16)

-- 40: entropy input of 48 bytes and no other
abbrev pub EntropyRow : Type 0
EntropyRow =
    map (λ (n : ℕ). instantiate_number n 0) (0 ∷ 47 ∷ 48 ∷ 49 ∷ []) ++ map (λ (n : ℕ). reseed_number 1 n 0) (0 ∷ 47 ∷ 48 ∷ 49 ∷ [])
    ≡ 40 ∷ 40 ∷ 0 ∷ 40 ∷ 40 ∷ 40 ∷ 0 ∷ 40 ∷ []

-- 41: up to 48 bytes of other input
abbrev pub InputRow : Type 0
InputRow =
    map (instantiate_number 48) (0 ∷ 1 ∷ 47 ∷ 48 ∷ 49 ∷ []) ++ map (reseed_number 1 48) (0 ∷ 47 ∷ 48 ∷ 49 ∷ [])
    ++ map (generate_number 1 0) (0 ∷ 47 ∷ 48 ∷ 49 ∷ [])
    ≡ 0 ∷ 0 ∷ 0 ∷ 0 ∷ 41 ∷ 0 ∷ 0 ∷ 0 ∷ 41 ∷ 0 ∷ 0 ∷ 0 ∷ 41 ∷ []

-- 14: above 65,536 bytes; a request of no bytes is one
abbrev pub SizesRow : Type 0
SizesRow = map (λ (n : ℕ). generate_number 1 n 0) (0 ∷ 65536 ∷ 65537 ∷ []) ≡ 0 ∷ 0 ∷ 14 ∷ []

-- 42: never seeded; for a request also 2^48 made, which is a reseed counter of 2^48 + 1
abbrev pub SeedingRow : Type 0
SeedingRow =
    map (λ (c : ℕ). generate_number c 0 0) (0 ∷ 1 ∷ (2 ^ 48) ∷ (2 ^ 48 + 1) ∷ (2 ^ 64 - 1) ∷ [])
    ++ map (λ (c : ℕ). reseed_number c 48 0) (0 ∷ 1 ∷ (2 ^ 48 + 1) ∷ (2 ^ 64 - 1) ∷ [])
    ≡ 42 ∷ 0 ∷ 0 ∷ 42 ∷ 42 ∷ 42 ∷ 0 ∷ 0 ∷ 0 ∷ []

-- the order: 40, 41, 14, 42, each before those behind it
abbrev pub OrderRow : Type 0
OrderRow =
    instantiate_number 0 49 ∷ reseed_number 0 0 49 ∷ reseed_number 0 0 0 ∷ reseed_number 0 48 49 ∷ []
    ++ map (λ (c : ℕ). generate_number c 65537 49) (0 ∷ 1 ∷ (2 ^ 48 + 1) ∷ []) ++ map (λ (c : ℕ). generate_number c 0 49) (0 ∷ (2 ^ 48 + 1) ∷ [])
    ++ map (λ (c : ℕ). generate_number c 65537 0) (0 ∷ (2 ^ 48 + 1) ∷ [])
    ≡ 40 ∷ 40 ∷ 40 ∷ 41 ∷ 41 ∷ 41 ∷ 41 ∷ 41 ∷ 41 ∷ 14 ∷ 14 ∷ []

-- ---- what calls do

-- the numbers of the answers, each by its name
abbrev pub AnswersRow : Type 0
AnswersRow = map number (Ok tt ∷ Err RequestTooLong ∷ Err EntropyLength ∷ Err InputTooLong ∷ Err SeedingNeeded ∷ []) ≡ 0 ∷ 14 ∷ 40 ∷ 41 ∷ 42 ∷ []

-- before any seeding Key, V and the reseed counter are zero
abbrev pub FreshRow : Type 0
FreshRow = fresh ≡ record { key = replicate 32 0; v = replicate 16 0; reseed_counter = 0 }

-- blocks of n bytes: ceil(n / 16)
abbrev pub BlockCountsRow : Type 0
BlockCountsRow = map block_count (0 ∷ 1 ∷ 15 ∷ 16 ∷ 17 ∷ 65536 ∷ []) ≡ 0 ∷ 1 ∷ 1 ∷ 1 ∷ 2 ∷ 4096 ∷ []

-- any Key and V, with the reseed counter c
abbrev pub counted : Working → ℕ → CtrDrbg
counted w c = record { key = w.key; v = w.v; reseed_counter = c }

-- a seeding updates with entropy and other input mixed, the first from zeros, a reseed from Key and V; it leaves the reseed counter at 1
abbrev pub SeedingsRow : Working → Type 0
SeedingsRow w =
    instantiated (counted w 7) (replicate 48 3) (5 ∷ []) ∷ reseeded (counted w 7) (replicate 48 3) (5 ∷ []) ∷ []
    ≡ counted (update (6 ∷ replicate 47 3) zero_working) 1 ∷ counted (update (6 ∷ replicate 47 3) w) 1 ∷ []

-- a request updates behind its blocks, of which 17 bytes take two and none takes none: with zeros where there is no additional input,
-- else with that, and before them too, also where the input is a zero; the reseed counter grows by 1
abbrev pub RequestsRow : Working → Type 0
RequestsRow w =
    map (generated (counted w 7) (replicate 17 9)) ([] ∷ (5 ∷ []) ∷ (0 ∷ []) ∷ []) ++ (generated (counted w 7) [] [] ∷ [])
    ≡ counted (update (replicate 48 0) (generate_blocks w 2).next) 8
    ∷ counted (update (5 ∷ replicate 47 0) (generate_blocks (update (5 ∷ replicate 47 0) w) 2).next) 8
    ∷ counted (update (replicate 48 0) (generate_blocks (update (replicate 48 0) w) 2).next) 8
    ∷ counted (update (replicate 48 0) w) 8
    ∷ []

-- it fills the whole buffer with their front
abbrev pub BuffersRow : Working → Type 0
BuffersRow w =
    map (generate_buffer (counted w 7) (replicate 17 9)) ([] ∷ (5 ∷ []) ∷ []) ++ (generate_buffer (counted w 7) [] [] ∷ [])
    ≡ take 17 (generate_blocks w 2).bytes ∷ take 17 (generate_blocks (update (5 ∷ replicate 47 0) w) 2).bytes ∷ [] ∷ []

-- each V that is enciphered under the output's Key is in the trace: two for 17 bytes, and the update's three
abbrev pub TraceRow : Working → Type 0
TraceRow w =
    let next : ℕ → List ℕ = λ k. (generate_blocks w k).next.v in
    (generate (counted w 7) 17 []).trace ≡ increment (next 0) ∷ increment (next 1) ∷ increment (next 2) ∷ increment (next 3) ∷ increment (next 4) ∷ []

-- a refused call leaves state and buffer as they were: 40 and 41 of each state, 42 of those that it is for
abbrev pub RefusedRow : CtrDrbg → Working → Type 0
RefusedRow s w =
    instantiated s (replicate 47 3) [] ∷ instantiated s (replicate 48 3) (replicate 49 5) ∷ reseeded s (replicate 49 3) []
    ∷ reseeded s (replicate 48 3) (replicate 49 5) ∷ generated s (7 ∷ 8 ∷ []) (replicate 49 5) ∷ reseeded (counted w 0) (replicate 48 3) []
    ∷ generated (counted w 0) (7 ∷ 8 ∷ []) [] ∷ generated (counted w (2 ^ 48 + 1)) (7 ∷ 8 ∷ []) [] ∷ []
    ≡ s ∷ s ∷ s ∷ s ∷ s ∷ counted w 0 ∷ counted w 0 ∷ counted w (2 ^ 48 + 1) ∷ []

abbrev pub KeptRow : CtrDrbg → Working → Type 0
KeptRow s w =
    generate_buffer s (7 ∷ 8 ∷ []) (replicate 49 5) ∷ generate_buffer (counted w 0) (7 ∷ 8 ∷ []) [] ∷ generate_buffer (counted w (2 ^ 48 + 1)) (7 ∷ 8 ∷ []) [] ∷ []
    ≡ (7 ∷ 8 ∷ []) ∷ (7 ∷ 8 ∷ []) ∷ (7 ∷ 8 ∷ []) ∷ []

-- a run from the fresh start: each call on the state that the last one left
abbrev pub RunRow : Type 0
RunRow =
    numbers_from fresh
    (request (7 ∷ []) [] ∷ reseeding (replicate 48 3) [] ∷ instantiation (replicate 47 3) [] ∷ request (7 ∷ []) [] ∷ instantiation (replicate 48 3) (5 ∷ [])
    ∷ instantiation (replicate 48 3) (replicate 49 5) ∷ request (7 ∷ []) (replicate 49 5) ∷ request (7 ∷ []) (5 ∷ [])
    ∷ reseeding (replicate 48 3) (replicate 49 5) ∷ reseeding (replicate 49 3) [] ∷ reseeding (replicate 48 3) (5 ∷ []) ∷ request [] [] ∷ [])
    ≡ 42 ∷ 42 ∷ 40 ∷ 42 ∷ 0 ∷ 41 ∷ 41 ∷ 0 ∷ 41 ∷ 40 ∷ 0 ∷ 0 ∷ []

-- requests served before the next seeding: refused calls are passed over, and what is behind an accepted seeding does not count
abbrev pub ServedRow : Working → Type 0
ServedRow w =
    let served : Call = request (7 ∷ []) [] in
    map (served_before (counted w 7))
    ((served ∷ instantiation (replicate 47 3) [] ∷ request (7 ∷ []) (replicate 49 5) ∷ reseeding (replicate 47 3) [] ∷ served
    ∷ reseeding (replicate 48 3) [] ∷ served ∷ [])
    ∷ (served ∷ served ∷ served ∷ instantiation (replicate 48 3) [] ∷ served ∷ []) ∷ [])
    ++ (served_before (counted w (2 ^ 48)) (served ∷ served ∷ []) ∷ served_before (counted w 0) (served ∷ []) ∷ [])
    ≡ 2 ∷ 3 ∷ 1 ∷ 0 ∷ []

-- the rows together
pub record Boundaries : Type 0 where
  pub steps : StepsRow
  pub numbers : NumbersRow
  pub octets : OctetsRow
  pub padded_strings : PaddedRow
  pub xored_strings : XoredRow
  pub divided_string : DividedRow
  pub entropy : EntropyRow
  pub input : InputRow
  pub sizes : SizesRow
  pub seeding : SeedingRow
  pub order : OrderRow
  pub answers : AnswersRow
  pub fresh_state : FreshRow
  pub block_counts : BlockCountsRow
  pub seedings : (w : Working) → SeedingsRow w
  pub requests : (w : Working) → RequestsRow w
  pub buffers : (w : Working) → BuffersRow w
  pub traced : (w : Working) → TraceRow w
  pub refused : (s : CtrDrbg) (w : Working) → RefusedRow s w
  pub kept : (s : CtrDrbg) (w : Working) → KeptRow s w
  pub run : RunRow
  pub served_requests : (w : Working) → ServedRow w
