-- Counter blocks whose values of C only rise: none of them stands at two places. The Block steps of a request make such blocks.
-- Assumes nothing.
use mathlib.Core.Path.{◌≡◌, refl, sym, ◌∙◌}
use mathlib.Core.List.{List, [], ◌∷◌, ◌++◌, map}
use Prim.Native.Nat.{ℕ, zero, suc, ◌+◌, ◌≤◌, ◌<◌}
use native.Mathlib.Omega.{arith}
use lib.ListN.{length, get_or}
use Rattle.laws.specs.Blocks.{block_count}
use Rattle.generator.specs.Counter.{counter_block, max_counter}
use Rattle.generator.specs.Steps.{GeneratorState}
use Rattle.generator.specs.Closed.{counters, rekeyed, closed_random_data}
use Rattle.generator.specs.Statements.{NoRepeat}
use Rattle.generator.proofs.Statements.{counter-encoding}

-- ---- rising blocks: each is that of a value of C at least `lo`, below the next one's and below `hi`

pub data Rising (hi : ℕ) : ℕ → List (List ℕ) → Type 0 where
  top : (lo : ℕ) → lo ≤ hi → Rising hi lo []
  up :
      (lo c : ℕ) {block : List ℕ} {rest : List (List ℕ)} → block ≡ counter_block c → lo ≤ c → Rising hi (c + 1) rest →
      Rising hi lo (block ∷ rest)

pub rising_le : {hi lo : ℕ} {l : List (List ℕ)} → Rising hi lo l → lo ≤ hi
rising_le (top lo h) = h
rising_le (up lo c e h r) = omega (arith, rising_le r)

pub rising-from : {hi lo lo' : ℕ} {l : List (List ℕ)} → lo ≤ lo' → Rising hi lo' l → Rising hi lo l
rising-from {lo = lo} h (top lo' k) = top lo (omega arith)
rising-from {lo = lo} h (up lo' c e k r) = up lo c e (omega arith) r

pub rising-append : {hi mid lo : ℕ} {l m : List (List ℕ)} → Rising mid lo l → Rising hi mid m → Rising hi lo (l ++ m)
rising-append (top lo h) q = rising-from h q
rising-append (up lo c e h r) q = up lo c e h (rising-append r q)

-- the value behind a block
rising-at :
    {hi lo : ℕ} {l : List (List ℕ)} → Rising hi lo l → (i : ℕ) → i < length l →
    (c : ℕ) × (get_or l i [] ≡ counter_block c) × (lo ≤ c) × (c < hi)
rising-at (top lo k) i h = absurd (omega arith)
rising-at (up lo c e k r) zero h = (c, e, k, omega (arith, rising_le r))
rising-at (up lo c e k r) (suc i) h = let y = rising-at r i (omega arith) in (y.0, y.1, omega arith, y.3)

same-value : (c d : ℕ) → c ≤ max_counter → d ≤ max_counter → counter_block c ≡ counter_block d → c ≡ d
unfolding counter_block
same-value c d h k e = counter-encoding.different c d h k e

pub rising-no-repeat : {hi lo : ℕ} {l : List (List ℕ)} → hi ≤ max_counter → Rising hi lo l → NoRepeat l
rising-no-repeat h (top lo q) i j k n e = absurd (omega arith)
rising-no-repeat h (up lo c b q r) i zero k n e = absurd (omega arith)
rising-no-repeat h (up lo c b q r) zero (suc j) k n e =
    let y = rising-at r j (omega arith) in
    let same : c ≡ y.0 = same-value c y.0 (omega (arith, rising_le r)) (omega arith) (sym b ∙ e ∙ y.1) in
    omega arith
rising-no-repeat h (up lo c b q r) (suc i) (suc j) k n e = rising-no-repeat h r i j (omega arith) (omega arith) e

-- ---- the blocks of a request

counters-rise : (k c : ℕ) {hi : ℕ} → c + k ≤ hi → Rising hi c (map counter_block (counters c k))
unfolding counters
counters-rise zero c h = top c (omega arith)
counters-rise (suc k) c h = up c c refl (omega arith) (counters-rise k (c + 1) (omega arith))

pub random-data-rises : (w : GeneratorState) (n : ℕ) → Rising (closed_random_data w n).next.count w.count (closed_random_data w n).trace
unfolding closed_random_data rekeyed
random-data-rises w n = counters-rise (block_count n + 2) w.count (omega arith)
