-- The same in closed form: the values of V as a list, the cipher mapped over it.
-- Assumes nothing.
use Rattle.std.specs.Prelude.{List, ℕ, zero, suc, ◌+◌, ◌%◌, ◌^◌, take, drop}
use Rattle.laws.specs.Lists.{tabulate, joined}
use Rattle.laws.specs.Blocks.{block_count}
use Rattle.cipher.specs.Aes.{cipher}
use Rattle.ctr_drbg.specs.Counter.{octets_to_integer, integer_to_octets}
use Rattle.ctr_drbg.specs.Algorithms.{Generated, Returned, xored, padded, divided, working_of, working, state_of, prepared}
use Rattle.ctr_drbg.specs.declared.CtrDrbg.{CtrDrbg}
use Rattle.ctr_drbg.specs.declared.update.Working.{Working}

-- V after k steps: (V + k) mod 2^128, and V itself where there is none
unfoldable pub after : List ℕ → ℕ → List ℕ
after v zero = v
after v (suc k) = integer_to_octets 16 ((octets_to_integer v + suc k) % 2 ^ 128)

-- the values of V in k turns: V after 1, 2, .., k steps
unfoldable pub values_of_v : List ℕ → ℕ → List (List ℕ)
values_of_v v k = tabulate (λ i. after v (suc i)) k

-- the blocks that `encipher` makes of them, joined
unfoldable pub enciphered : (List ℕ → List ℕ) → List ℕ → ℕ → List ℕ
enciphered encipher v k = joined encipher (values_of_v v k)

unfoldable pub closed_blocks : Working → ℕ → Generated
closed_blocks w k =
    record {
      bytes = enciphered (cipher w.key) w.v k;
      next = working_of w.key (after w.v k);
      trace = values_of_v w.v k;
    }

-- Key and V updated behind k blocks of output: the next three blocks, with the provided data
unfoldable pub closed_update : List ℕ → Working → ℕ → Working
closed_update provided w k = divided (xored (enciphered (cipher w.key) (after w.v k) 3) provided)

-- a reseed, written out
unfoldable pub closed_reseed : CtrDrbg → List ℕ → List ℕ → CtrDrbg
closed_reseed s entropy additional =
    let temp = xored (enciphered (cipher s.key) s.v 3) (xored entropy (padded additional)) in
    record { key = take 32 temp; v = drop 32 temp; reseed_counter = 1 }

-- a request's n bytes and the update behind them, from Key and V as its first update left them
unfoldable pub closed_from : Working → ℕ → List ℕ → ℕ → Returned
closed_from w n provided counter =
    record {
      bytes = take n (enciphered (cipher w.key) w.v (block_count n));
      next = state_of (closed_update provided w (block_count n)) counter;
      trace = values_of_v w.v (block_count n + 3);
    }

unfoldable pub closed_generate : CtrDrbg → ℕ → List ℕ → Returned
closed_generate s n additional = closed_from (prepared additional (working s)) n (padded additional) (s.reseed_counter + 1)
