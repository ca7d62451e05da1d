-- What is known of each pool where none is malformed.
-- Assumes nothing.
use Rattle.std.proofs.Common.{◌≡◌, ℕ, zero, suc, ◌<◌, ◌≤◌, Bool, false, ◌||◌, List, [], ◌∷◌, ◌++◌, length, refl, ◌∙◌, le_refl, le_of_suc-le-suc, not-suc-le-zero, arith, ltb-false}
use Rattle.std.specs.Prelude.{Result, Ok}
use Rattle.std.specs.List.{list_any}
use Rattle.laws.specs.Lists.{tabulate}
use Rattle.laws.proofs.Cases.{neither}
use Rattle.hash.specs.ShaD.{max_pool_length, pool_digest}
use Rattle.hash.specs.Answers.{within}
use Rattle.hash.specs.declared.answer.TooLong.{TooLong}
use Rattle.hash.specs.declared.hasher.Hasher.{Hasher}
use Rattle.hash.proofs.Laws as Hash
use Rattle.pools.specs.Pool.{too_long, dirty_tail, stray_chain, malformed_pool}
use Rattle.pools.specs.State.{any_pool}
use Rattle.pools.specs.Collected.{nth}

-- a test that holds of no pool fails at each
pub none-at : (t : Hasher → Bool) (pools : List Hasher) (i : ℕ) → any_pool t pools ≡ false → i < length pools → t (nth pools i) ≡ false
unfolding any_pool nth
none-at t [] i e h = absurd (not-suc-le-zero h)
none-at t (p ∷ pools) zero e h = (neither (t p) (any_pool t pools) e).0
none-at t (p ∷ pools) (suc i) e h = none-at t pools i (neither (t p) (any_pool t pools) e).1 (le_of_suc-le-suc h)

-- one that fails at each holds of none
any_append : (t : Hasher → Bool) (l : List Hasher) (x : Hasher) → any_pool t l ≡ false → t x ≡ false → any_pool t (l ++ (x ∷ [])) ≡ false
unfolding any_pool
any_append t [] x h k = rw k
any_append t (y ∷ l) x h k =
    let p = neither (t y) (any_pool t l) h in
    rw p.0 (any_append t l x p.1 k)

pub any-tabulate : (t : Hasher → Bool) (f : ℕ → Hasher) (n : ℕ) → ((i : ℕ) → i < n → t (f i) ≡ false) → any_pool t (tabulate f n) ≡ false
unfolding tabulate
any-tabulate t f zero h = unfold any_pool in refl
any-tabulate t f (suc n) h = any_append t (tabulate f n) (f n) (any-tabulate t f n (λ i l. h i (omega arith))) (h n (le_refl (suc n)))

-- the length of a well-formed pool is within the limit
pub within-limit : (p : Hasher) → malformed_pool p ≡ false → p.length ≤ max_pool_length
unfolding malformed_pool too_long
within-limit p e =
    let front = (neither (too_long p || dirty_tail p) (stray_chain p) e).0 in
    ltb-false max_pool_length p.length (neither (too_long p) (dirty_tail p) front).0

-- what the hash gives for a pool is its digest
pub digest-of-pool : (pools : List Hasher) (i : ℕ) (r : Result (List ℕ) TooLong)
    → any_pool malformed_pool pools ≡ false
    → i < length pools
    → r ≡ within max_pool_length (nth pools i).length (pool_digest (nth pools i))
    → r ≡ Ok (pool_digest (nth pools i))
digest-of-pool pools i r formed h e =
    let short = within-limit (nth pools i) (none-at malformed_pool pools i formed h) in
    e ∙ Hash.within-limit max_pool_length (nth pools i).length (pool_digest (nth pools i)) short

-- a test of each pool in turn
pub any-listed : (t : Hasher → Bool) (pools : List Hasher) → list_any t pools ≡ any_pool t pools
unfolding any_pool
any-listed t [] = refl
any-listed t (p ∷ pools) = rw (any-listed t pools)
