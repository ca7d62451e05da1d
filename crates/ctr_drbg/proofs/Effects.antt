-- From what the code's functions leave to the algorithms.
-- Assumes nothing.
use mathlib.Core.Path.{◌≡◌, ◌∙◌}
use mathlib.Core.List.{List, append-nil}
use Prim.Native.Nat.{ℕ, ◌+◌, ◌-◌, ◌≤◌}
use native.Mathlib.Nat.{le_of_eq}
use native.Mathlib.Omega.{arith}
use lib.ListN.{length, take, drop, replicate, length-drop}
use lib.Seq.{take_all}
use Rattle.laws.specs.Lists.{overwrite}
use Rattle.laws.specs.Blocks.{block_count}
use Rattle.laws.proofs.Copy.{overwrite-fits, overwrite-cut}
use Rattle.laws.proofs.Lists.{drop-replicate}
use Rattle.cipher.specs.Aes.{Bytes, key_expansion, cipher}
use Rattle.cipher.proofs.Laws.{length-cipher}
use Rattle.word_cipher.specs.Words.{packed}
use Rattle.word_cipher.specs.Tables.{tables}
use Rattle.word_cipher.specs.Cipher.{word_cipher}
use Rattle.word_cipher.proofs.Laws.{ciphers-agree}
use Rattle.ctr_drbg.specs.Algorithms.{seed_length, padded, xored, divided, generate_blocks, working, working_of, state_of, update, prepared_by, generate}
use Rattle.ctr_drbg.specs.Closed.{after, enciphered, closed_blocks, closed_update}
use Rattle.ctr_drbg.specs.declared.CtrDrbg.{CtrDrbg}
use Rattle.ctr_drbg.specs.declared.update.Working.{Working}
use Rattle.ctr_drbg.proofs.Steps.{blocks-closed, update-closed, length-enciphered, enciphered-ext}

-- ---- strings of seedlen

-- what `padded` leaves
pub padded-is : (s r : List ℕ) → length s ≤ seed_length → r ≡ overwrite (replicate 48 0) s → r ≡ padded s
unfolding padded seed_length
padded-is s r h e = e ∙ overwrite-fits (replicate 48 0) s h ∙ rw (drop-replicate (length s) 48 0)

-- a string of seedlen needs no zeros
padded-full : (s : List ℕ) → length s ≡ seed_length → padded s ≡ s
unfolding padded seed_length
padded-full s e = rw e (append-nil s)

-- what `divided` leaves
pub divided-is : (temp key v : List ℕ) → length temp ≡ 48 → key ≡ overwrite (replicate 32 0) temp
    → v ≡ overwrite (replicate 16 0) (take (48 - 32) (drop 32 temp)) → working_of key v ≡ divided temp
unfolding divided
divided-is temp key v n e f =
    let rest = drop 32 temp in
    let l : length rest ≡ 16 = rw length-drop (omega arith) in
    let k : key ≡ take 32 temp = e ∙ overwrite-cut (replicate 32 0) temp (omega arith) in
    let behind : v ≡ rest =
    f ∙ rw (take_all 16 rest (omega arith)) (overwrite-cut (replicate 16 0) rest (omega arith) ∙ take_all 16 rest (omega arith)) in
    λ i. working_of (k i) (behind i)

-- ---- blocks by the tables under a key's schedule are blocks under the key: the one place that goes from the cipher by tables to
-- FIPS 197's

module _ (key t w : List ℕ) (tabled : t ≡ tables) (keyed : w ≡ packed 60 (key_expansion key)) (bytes : Bytes key) where
  under-key : (v : List ℕ) (k : ℕ) → enciphered (word_cipher t w) v k ≡ enciphered (cipher key) v k
  under-key v k = enciphered-ext (word_cipher t w) (cipher key) (λ b h. rw (tabled, keyed) (ciphers-agree key b bytes h)) v k

  -- three blocks fill a buffer of 48 bytes
  temp-is : (v temp : List ℕ) → temp ≡ take 48 (enciphered (word_cipher t w) v (block_count 48)) → temp ≡ enciphered (cipher key) v 3
  unfolding block_count
  temp-is v temp e =
      e ∙ rw (under-key v 3) (take_all 48 (enciphered (cipher key) v 3) (le_of_eq (length-enciphered (cipher key) (length-cipher key) v 3)))

  -- n bytes from V on, and the update behind them
  pub filled-and-updated : (n : ℕ) (provided v last ys temp mixed : List ℕ) (r : Working)
      → last ≡ after v (block_count n) → ys ≡ take n (enciphered (word_cipher t w) v (block_count n))
      → temp ≡ take 48 (enciphered (word_cipher t w) last (block_count 48)) → mixed ≡ xored temp provided → r ≡ divided mixed
      → (r ≡ update provided (generate_blocks (working_of key v) (block_count n)).next)
      × (ys ≡ take n (generate_blocks (working_of key v) (block_count n)).bytes)
  unfolding closed_update closed_blocks
  filled-and-updated n provided v last ys temp mixed r steps output three mix result =
      let k = block_count n in (
        rw (update-closed provided (working_of key v) k) (result ∙ rw (mix, temp-is last temp three, steps)),
        output ∙ rw (under-key v k, blocks-closed k (working_of key v)),
      )

-- a seeding, as the code makes it: no block is made before its update
pub seeded-is : (w next : Working) (entropy other first second material : List ℕ) (s : CtrDrbg) → length entropy ≡ seed_length
    → first ≡ padded entropy → second ≡ padded other → material ≡ xored first second
    → next ≡ update material (generate_blocks (prepared_by 0 material w) (block_count 0)).next
    → s ≡ state_of next 1 → s ≡ state_of (update (xored entropy (padded other)) w) 1
unfolding prepared_by generate_blocks block_count
seeded-is w next entropy other first second material s full p q mix n e = e ∙ rw (n, mix, p, q, padded-full entropy full)

-- a request of n bytes, as the code makes it
pub served-is : (s r : CtrDrbg) (w next : Working) (n : ℕ) (additional provided ys : List ℕ) → w ≡ working s → provided ≡ padded additional
    → next ≡ update provided (generate_blocks (prepared_by (length additional) provided w) (block_count n)).next
    → ys ≡ take n (generate_blocks (prepared_by (length additional) provided w) (block_count n)).bytes
    → r ≡ state_of next (s.reseed_counter + 1) → (r ≡ (generate s n additional).next) × (ys ≡ (generate s n additional).bytes)
unfolding generate
served-is s r w next n additional provided ys held p u o e = (e ∙ rw (u, p, held), o ∙ rw (p, held))
