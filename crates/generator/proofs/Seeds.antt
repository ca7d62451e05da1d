-- D of a key and a seed.
-- Assumes nothing.
use mathlib.Core.Path.{◌≡◌}
use mathlib.Core.List.{List, ◌++◌}
use Prim.Native.Nat.{ℕ, ◌+◌, ◌≤◌}
use native.Mathlib.Omega.{arith}
use lib.Dec.{lit≤}
use lib.ListN.{length}
use Rattle.std.specs.Prelude.{Ok}
use Rattle.hash.specs.ShaD.{D, max_d_message}
use Rattle.hash.specs.Answers.{within}
use Rattle.hash.proofs.Laws.{d-message-room, within-limit}
use Rattle.generator.specs.Refusals.{max_seed}

-- D takes the key and a seed within the limit
pub hashed : (key s : List ℕ) → length key ≡ 32 → length s ≤ max_seed
    → within max_d_message (length key + length s) (D (key ++ s)) ≡ Ok (D (key ++ s))
unfolding max_seed
hashed key s long h =
    let room : 32 ≤ max_d_message = d-message-room 32 (lit≤ tt) in
    within-limit max_d_message (length key + length s) (D (key ++ s)) (omega arith)

-- the key and a seed within the limit are a message that D takes
pub joined-fits : (n : ℕ) → n ≤ max_seed → 32 + n ≤ max_d_message
unfolding max_seed
joined-fits n h = let r : 32 ≤ max_d_message = d-message-room 32 (lit≤ tt) in omega arith
