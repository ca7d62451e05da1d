-- What the parts of a pool reseed leave is the state after it.
-- Assumes nothing.
use Rattle.std.proofs.Common.{◌≡◌, ℕ, ◌*◌, ◌≤◌, true, List, length, take, ◌∙◌, arith, length-take-le}
use Rattle.hash.specs.declared.hasher.Hasher.{Hasher}
use Rattle.generator.specs.Operations.{reseeded}
use Rattle.generator.specs.declared.Generator.{Generator}
use Rattle.generator.proofs.Laws.{small-seed, reseeded-done}
use Rattle.pools.specs.State.{pool_at}
use Rattle.pools.specs.Effects.{next_reseed, digests, emptied_pools, pool_reseed}
use Rattle.pools.specs.Collected.{nth, Collects, Reseedable}
use Rattle.pools.specs.declared.Fortuna.{Fortuna}

-- the generator is reseeded with the digests in front of the string, and the pools are those left
pub reseed-made : (s : Fortuna) (clock n : ℕ) (left : List Hasher) (all : List ℕ) (count : ℕ) (g : Generator)
    → Reseedable s
    → n ≡ next_reseed s
    → Collects s.pools n left all count
    → length all ≡ 1024
    → g ≡ reseeded s.generator (take (32 * count) all)
    → record { generator = g; pools = left; last_reseed = clock; reseed_count = n; reseeded = true; key_requests = 0 } ≡ pool_reseed s clock
unfolding pool_reseed digests emptied_pools pool_at nth
reseed-made s clock n left all count g able next taken size made =
    let few : 32 * count ≤ 1024 = omega (arith, taken.few) in
    let seed = take (32 * count) all in
    let short : length seed ≤ 1024 = rw (length-take-le (32 * count) all (omega arith)) few in
    let done = reseeded-done s.generator seed (small-seed (length seed) short) able.formed able.room in
    rw (made ∙ done, taken.front, taken.emptied, next)
