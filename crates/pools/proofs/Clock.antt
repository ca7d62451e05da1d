-- The clock's difference, modulo 2^32.
-- Assumes nothing.
use Rattle.std.proofs.Common.{◌≡◌, ℕ, ◌+◌, ◌-◌, ◌%◌, ◌^◌, ◌<◌, not, ◌&&◌, ◌||◌, leb, ltb, mod-eq_of_lt, arith}
use Rattle.pools.specs.Schedule.{elapsed, is_due}
use Rattle.pools.specs.State.{pool_at, due}
use Rattle.pools.specs.declared.Fortuna.{Fortuna}

-- what, added to the time of the last reseed, wraps back to the reading
pub elapsed-is : (r clock last : ℕ) → clock < 2 ^ 32 → last < 2 ^ 32 → r < 2 ^ 32 → (r + last) % 2 ^ 32 ≡ clock → r ≡ elapsed clock last
unfolding elapsed
elapsed-is r clock last a b c e = rw (mod-eq_of_lt a, mod-eq_of_lt b) (omega arith)

-- as the code takes it, of numbers of 32 bits
pub elapsed_is : (clock last : ℕ) → clock < 2 ^ 32 → last < 2 ^ 32 → (clock + (2 ^ 32 - last)) % 2 ^ 32 ≡ elapsed clock last
unfolding elapsed
elapsed_is clock last a b = rw (mod-eq_of_lt a, mod-eq_of_lt b)

-- whether a pool reseed is due, as the code asks
pub due_is : (s : Fortuna) (clock : ℕ) → clock < 2 ^ 32 → s.last_reseed < 2 ^ 32 → due s clock
    ≡ (leb 64 (pool_at s 0).length && (not s.reseeded || ltb 100 ((clock + (2 ^ 32 - s.last_reseed)) % 2 ^ 32)))
unfolding due is_due
due_is s clock a b = rw (elapsed_is clock s.last_reseed a b)
