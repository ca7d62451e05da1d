-- What the crates above use of the generator's sizes and tests, instead of their text.
-- Assumes nothing.
use mathlib.Core.Path.{◌≡◌, refl}
use mathlib.Core.Bool.{false}
use mathlib.Core.List.{List, [], ◌∷◌}
use Prim.Native.Nat.{ℕ, ◌+◌, ◌*◌, ◌≤◌}
use native.Mathlib.Omega.{arith}
use lib.Dec.{eqb, ltb}
use lib.ListN.{length}
use borrow.Author.Tests.{le-ltb}
use Rattle.laws.specs.Blocks.{block_count}
use Rattle.hash.specs.ShaD.{max_d_message}
use Rattle.hash.proofs.Laws.{d-message-room}
use Rattle.generator.specs.Counter.{value, max_counter}
use Rattle.generator.specs.Steps.{GeneratorState, decode, encode, reseed, pseudo_random_data}
use Rattle.generator.specs.Refusals.{max_request, max_seed, malformed, unseeded, spent, state_number, reseed_number, output_number, request_number}
use Rattle.generator.specs.Operations.{reseed_answer, reseeded, request_answer, requested, request_buffer}
use Rattle.generator.specs.declared.Generator.{Generator}
use Rattle.generator.specs.Closed.{rekeyed, closed_random_data}
use Rattle.generator.proofs.Digits.{value-counter}
use Rattle.generator.proofs.Steps.{random-data-closed}

-- a request takes few blocks
pub few-blocks : (n : ℕ) → n ≤ max_request → block_count n ≤ 65536
unfolding max_request block_count
few-blocks n h = omega arith

-- the size of a seed is one of a request
pub small-request : (n : ℕ) → n ≤ 64 → n ≤ max_request
unfolding max_request
small-request n h = omega arith

pub unseeded-is : (w : GeneratorState) → unseeded w ≡ eqb w.count 0
unfolding unseeded
unseeded-is w = refl

pub spent-is : (w : GeneratorState) (k : ℕ) → spent w k ≡ ltb max_counter (w.count + k)
unfolding spent
spent-is w k = refl

-- the digests of all pools are a seed
pub small-seed : (n : ℕ) → n ≤ 1024 → n ≤ max_seed
unfolding max_seed
small-seed n h = let r : n + 32 ≤ max_d_message = d-message-room (n + 32) (omega arith) in omega arith

-- ---- an accepted operation's effect

pub reseeded-done : (g : Generator) (s : List ℕ) → length s ≤ max_seed → malformed (decode g) ≡ false → spent (decode g) 1 ≡ false
    → reseeded g s ≡ encode (reseed (decode g) s)
unfolding reseeded reseed_answer reseed_number
reseeded-done g s short formed room = rw (le-ltb max_seed (length s) short, formed, room)

module _ (g : Generator) (out : List ℕ) (short : length out ≤ max_request) (formed : malformed (decode g) ≡ false) (keyed : unseeded (decode g) ≡ false)
    (room : spent (decode g) (block_count (length out) + 2) ≡ false) where
  accepts : request_answer g out ≡ 0
  unfolding request_answer request_number output_number state_number
  accepts = rw (le-ltb max_request (length out) short, formed, keyed, room)

  pub requested-done : requested g out ≡ encode (pseudo_random_data (decode g) (length out)).next
  unfolding requested
  requested-done = rw accepts

  pub request-buffer-done : request_buffer g out ≡ (pseudo_random_data (decode g) (length out)).bytes
  unfolding request_buffer
  request-buffer-done = rw accepts

-- ---- K and C of a state that a step left

pub decode-encode : (w : GeneratorState) → w.count ≤ max_counter → decode (encode w) ≡ w
unfolding decode encode
decode-encode w h = λ i. record { key = w.key; count = value-counter w.count h i }

-- a state with C above 0 is neither malformed nor unseeded
pub keyed-formed : (w : GeneratorState) → unseeded w ≡ false → malformed w ≡ false
unfolding unseeded malformed
keyed-formed w e = rw e

-- C after a reseed, and what K and C a state holds once it was made
pub reseed-count : (w : GeneratorState) (s : List ℕ) → (reseed w s).count ≡ w.count + 1
unfolding reseed
reseed-count w s = refl

-- C after a request of n bytes: its blocks, and two for the next K
pub random-data-count : (w : GeneratorState) (n : ℕ) → (pseudo_random_data w n).next.count ≡ w.count + (block_count n + 2)
unfolding closed_random_data rekeyed
random-data-count w n = rw (random-data-closed w n)

-- 64 bytes take 4 blocks, and the 4 of a try one
pub seed-blocks : block_count 64 ≡ 4
unfolding block_count
seed-blocks = refl

pub try-blocks : block_count 4 ≡ 1
unfolding block_count
try-blocks = refl

-- ---- the number that bytes stand for, least significant first

pub value_none : value [] ≡ 0
unfolding value
value_none = refl

pub value-more : (p : ℕ) (ps : List ℕ) → value (p ∷ ps) ≡ p + 256 * value ps
unfolding value
value-more p ps = refl
