-- Which pools a reseed uses, and when one is due (004, 9.5.5).
-- Assumes nothing.
use Rattle.std.specs.Prelude.{ℕ, zero, suc, ◌+◌, ◌-◌, ◌%◌, ◌^◌, min, Bool, cond, not, ◌&&◌, ◌||◌, List, [], ◌∷◌, ◌++◌, ◌==◌, nat_le, nat_lt}
use Rattle.pools.specs.Events.{pool_count}

-- pool i is used at reseed n if 2^i divides n
unfoldable pub used : ℕ → ℕ → Bool
used n i = n % 2 ^ i == 0

-- those of the first k pools that reseed n uses, rising
unfoldable pub used_below : ℕ → ℕ → List ℕ
used_below n zero = []
used_below n (suc k) = used_below n k ++ cond (used n k) (k ∷ []) []

-- the pools that reseed n uses
unfoldable pub used_pools : ℕ → List ℕ
used_pools n = used_below n pool_count

-- the milliseconds from the last reseed to a reading, modulo 2^32: a clock set back reads as a long wait
unfoldable pub elapsed : ℕ → ℕ → ℕ
elapsed clock last = (clock % 2 ^ 32 + (2 ^ 32 - last % 2 ^ 32)) % 2 ^ 32

-- a pool reseed is due: by the length of pool 0, whether one was ever made, the time of the last one, and the reading
unfoldable pub is_due : ℕ → Bool → ℕ → ℕ → Bool
is_due size made last clock = nat_le 64 size && (not made || nat_lt 100 (elapsed clock last))

-- the most requests on one key that are counted
unfoldable pub max_key_requests : ℕ
max_key_requests = 65535

-- one more after n of them
unfoldable pub count_request : ℕ → ℕ
count_request n = min max_key_requests (n + 1)
