-- The scheduler of source document 000, figure 6, SC(skey, τ), with P = 32 pools and the bound w_max = 1, so that P / w_max is 32:
-- the pool that the event at step t goes to, and the pool that is emptied after it. Figure 6 counts τ modulo q and takes the largest of all
-- such pools; 02 (xiv) counts t up to 2^64 - 1 without wrap (45 there), takes the largest up to 31, and empties none at step 0.
-- Assumes nothing.
use Rattle.std.specs.Prelude.{Bool, cond, ◌&&◌, List, ℕ, zero, suc, ◌*◌, ◌%◌, ◌^◌, eqb, ltb, get_or}
use Rattle.cipher.specs.Aes.{cipher}
use Rattle.generator.specs.Counter.{little_endian}
use Rattle.pools.specs.Events.{pool_count}

-- block t: t in 16 bytes, least significant first
unfoldable pub step_block : ℕ → List ℕ
step_block t = little_endian 16 t

-- in, F(skey, t): the first byte, modulo 32, of AES-256 under the scheduler key of block t
unfoldable pub input_pool : List ℕ → ℕ → ℕ
input_pool key t = get_or (cipher key (step_block t)) 0 0 % pool_count

-- out is a pool, and not ⊥: t is above 0 and 32 divides t
unfoldable pub empties : ℕ → Bool
empties t = ltb 0 t && eqb (t % 32) 0

-- 32 × 2^i divides t
unfoldable pub divides : ℕ → ℕ → Bool
divides t i = eqb (t % (32 * 2 ^ i)) 0

-- the largest i up to n that passes a test; 0 where none above 0 does
unfoldable pub greatest : (ℕ → Bool) → ℕ → ℕ
greatest test zero = 0
greatest test (suc n) = cond (test (suc n)) (suc n) (greatest test n)

-- out: the largest i up to 31 with 32 × 2^i dividing t
unfoldable pub output_pool : ℕ → ℕ
output_pool t = greatest (divides t) 31

-- step t empties pool i
unfoldable pub takes : ℕ → ℕ → Bool
takes t i = empties t && eqb (output_pool t) i

-- the pool that step t empties, or 32, which is no pool, where it empties none
unfoldable pub emptied_at : ℕ → ℕ
emptied_at t = cond (empties t) (output_pool t) pool_count
