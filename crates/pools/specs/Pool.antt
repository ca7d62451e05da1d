-- One pool: whether it is well formed, and whether it has room. Nothing here speaks of the other pools.
-- Assumes nothing.
use Rattle.std.specs.Prelude.{ℕ, ◌+◌, ◌%◌, Bool, not, ◌&&◌, ◌||◌, drop, nat_lt}
use Rattle.laws.specs.Lists.{all_zero, same_list}
use Rattle.hash.specs.ShaD.{max_pool_length, empty_pool}
use Rattle.hash.specs.declared.hasher.Hasher.{Hasher}

-- 21: the length is above the limit
unfoldable pub too_long : Hasher → Bool
too_long p = nat_lt max_pool_length p.length

-- 21: bytes after the tail are not zero
unfoldable pub dirty_tail : Hasher → Bool
dirty_tail p = not (all_zero (drop (p.length % 64) p.tail))

-- 21: below 64 bytes, with another running hash than the empty pool's
unfoldable pub stray_chain : Hasher → Bool
stray_chain p = nat_lt p.length 64 && not (same_list p.chain empty_pool.chain)

-- 21, the clauses on a pool
unfoldable pub malformed_pool : Hasher → Bool
malformed_pool p = too_long p || dirty_tail p || stray_chain p

-- 22: no room for n bytes more
unfoldable pub full : ℕ → ℕ → Bool
full size n = nat_lt max_pool_length (size + n)
