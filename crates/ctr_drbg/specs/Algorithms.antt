-- CTR_DRBG with AES-256 and no derivation function: NIST SP 800-90A Rev. 1, 10.2.1, in its order, on whole bytes and with no test of
-- the arguments. A block has 16 bytes, Key 32 (keylen) and a seed 48 (seedlen). Leftmost bytes are the first ones.
-- Assumes nothing.
use Rattle.std.specs.Prelude.{cond, List, [], ◌∷◌, ◌++◌, ℕ, zero, suc, ◌+◌, ◌-◌, eqb, length, get_or, take, drop, replicate}
use Rattle.std.specs.Int.Bits.{bit_xor}
use Rattle.laws.specs.Lists.{tabulate}
use Rattle.laws.specs.Blocks.{block_count}
use Rattle.cipher.specs.Aes.{cipher}
use Rattle.ctr_drbg.specs.Counter.{increment}
use Rattle.ctr_drbg.specs.declared.CtrDrbg.{CtrDrbg}
use Rattle.ctr_drbg.specs.declared.update.Working.{Working}

-- seedlen in bytes
unfoldable pub seed_length : ℕ
seed_length = 48

-- the exclusive or of two strings of seedlen
unfoldable pub xored : List ℕ → List ℕ → List ℕ
xored s t = tabulate (λ i. bit_xor (get_or s i 0) (get_or t i 0)) seed_length

-- s || 0^(seedlen - len(s))
unfoldable pub padded : List ℕ → List ℕ
padded s = s ++ replicate (seed_length - length s) 0

-- ---- the internal state (10.2.1.1): Key and V, and the reseed counter

abbrev pub working_of : List ℕ → List ℕ → Working
working_of key v = record { key = key; v = v }

-- Key and V of a state, and the state that holds them
unfoldable pub working : CtrDrbg → Working
working s = working_of s.key s.v

unfoldable pub state_of : Working → ℕ → CtrDrbg
state_of w counter = record { key = w.key; v = w.v; reseed_counter = counter }

-- ---- CTR_DRBG_Update (10.2.1.2)

-- what a loop of Block_Encrypt makes: the blocks joined, Key and V afterwards, and each V that was enciphered, in order
pub record Generated : Type 0 where
  pub bytes : List ℕ
  pub next : Working
  pub trace : List (List ℕ)

-- the loop, k turns: V = (V + 1) mod 2^128, output_block = Block_Encrypt(Key, V), temp = temp || output_block
-- (10.2.1.2, step 2, and 10.2.1.5.1, step 4)
unfoldable pub generate_blocks : Working → ℕ → Generated
generate_blocks w zero = record { bytes = []; next = w; trace = [] }
generate_blocks w (suc k) =
    let v = increment w.v in
    let rest = generate_blocks (working_of w.key v) k in
    record { bytes = cipher w.key v ++ rest.bytes; next = rest.next; trace = v ∷ rest.trace }

-- Key is the leftmost keylen of temp, V the block behind it
unfoldable pub divided : List ℕ → Working
divided temp = working_of (take 32 temp) (drop 32 temp)

-- steps 2 to 7; three blocks are seedlen, so that step 3 cuts nothing off
unfoldable pub update : List ℕ → Working → Working
update provided w = divided (xored (generate_blocks w 3).bytes provided)

-- ---- CTR_DRBG_Instantiate_algorithm (10.2.1.3.1)

-- Key = 0^keylen, V = 0^blocklen
unfoldable pub zero_working : Working
zero_working = working_of (replicate 32 0) (replicate 16 0)

unfoldable pub instantiate : List ℕ → List ℕ → CtrDrbg
instantiate entropy personalization = state_of (update (xored entropy (padded personalization)) zero_working) 1

-- ---- CTR_DRBG_Reseed_algorithm (10.2.1.4.1)

unfoldable pub reseed : CtrDrbg → List ℕ → List ℕ → CtrDrbg
reseed s entropy additional = state_of (update (xored entropy (padded additional)) (working s)) 1

-- ---- CTR_DRBG_Generate_algorithm (10.2.1.5.1)

-- step 2: an update with the provided data where the additional input, of m bytes, is not Null
unfoldable pub prepared_by : ℕ → List ℕ → Working → Working
prepared_by m provided w = cond (eqb m 0) w (update provided w)

abbrev pub prepared : List ℕ → Working → Working
prepared additional w = prepared_by (length additional) (padded additional) w

-- the returned bits, the state afterwards, and each V that was enciphered from the first output block on, all under one Key
pub record Returned : Type 0 where
  pub bytes : List ℕ
  pub next : CtrDrbg
  pub trace : List (List ℕ)

-- steps 2 to 8, n bytes; where there is no additional input, step 6 updates with 0^seedlen
unfoldable pub generate : CtrDrbg → ℕ → List ℕ → Returned
generate s n additional =
    let out = generate_blocks (prepared additional (working s)) (block_count n) in
    record {
      bytes = take n out.bytes;
      next = state_of (update (padded additional) out.next) (s.reseed_counter + 1);
      trace = out.trace ++ (generate_blocks out.next 3).trace;
    }
