-- The running hash: what each way through `extended` and `finished` leaves, and the laws of `absorb` and `finish`.
-- Assumes nothing.
use Rattle.std.proofs.Common.{◌≡◌, ℕ, suc, ◌+◌, ◌-◌, ◌*◌, ◌/◌, ◌%◌, ◌<◌, ◌≤◌, List, [], ◌∷◌, ◌++◌, length, take, drop, replicate, sym, refl, ap, ◌∙◌, ap₂, append_assoc, append-nil, le_of_eq, add_assoc, zero-add, arith, length-append, length-drop, take-append-drop, length-take-le, take_all, drop-drop, take_at, drop_at}
use native.Mathlib.Nat.{div-eq_of_lt}
use lib.ListN.{length-replicate}
use Rattle.laws.specs.Lists.{tabulate}
use Rattle.laws.proofs.Tabulate.{length-tabulate}
use Rattle.laws.proofs.Copy.{part_end}
use Rattle.hash.specs.Padding.{length_byte, padding}
use Rattle.hash.specs.Block.{compress}
use Rattle.hash.specs.Sha256.{words_byte, blocks, digest_from, sha256}
use Rattle.hash.specs.Hasher.{zero_filled, empty_hasher, hasher_of, unhashed, absorb_from, absorb, finish}
use Rattle.hash.specs.declared.hasher.Hasher.{Hasher}
use Rattle.hash.proofs.Message.{blocks-split, after-split}
use Rattle.hash.proofs.Padding.{pad-one, pad-two}

-- ---- one block and two

blocks-one : (h b : List ℕ) → length b ≡ 64 → blocks (length b / 64) h b ≡ compress h b
unfolding blocks
blocks-one h b e = rw e (ap (compress h) (take_all 64 b (le_of_eq e)))

blocks-next : (h b m : List ℕ) → length b ≡ 64 → blocks (length (b ++ m) / 64) h (b ++ m) ≡ blocks (length m / 64) (compress h b) m
unfolding blocks
blocks-next h b m e =
    let n : length (b ++ m) / 64 ≡ suc (length m / 64) = rw length-append (omega arith) in
    ap (λ (k : ℕ). blocks k h (b ++ m)) n
    ∙ ap₂ (λ (x y : List ℕ). blocks (length m / 64) (compress h x) y) (take_at b m 64 e) (drop_at b m 64 e)

pub after_next : (h b m : List ℕ) (k : ℕ) → length b ≡ 64 → absorb_from h (b ++ m) k ≡ absorb_from (compress h b) m k
unfolding absorb_from
after_next h b m k e =
    let n : length (b ++ m) / 64 * 64 ≡ 64 + length m / 64 * 64 = rw length-append (omega arith) in
    let t : drop (length (b ++ m) / 64 * 64) (b ++ m) ≡ drop (length m / 64 * 64) m =
    rw (n, ← drop-drop (length m / 64 * 64) 64 (b ++ m), drop_at b m 64 e) in
    cc (blocks-next h b m e, t)

fill-whole : (b : List ℕ) → length b ≡ 64 → zero_filled b ≡ b
unfolding zero_filled
fill-whole b e = rw (e, append-nil)

-- ---- the three ways of `extended`

module _ (r : Hasher) (d : List ℕ) (long : length r.tail ≡ 64) where
  pub length-held : length (unhashed r) ≡ r.length % 64
  length-held = length-take-le (r.length % 64) r.tail (omega arith)

  -- the bytes do not zero_filled the tail
  pub absorb-short : length d < 64 - r.length % 64
      → record { chain = r.chain; tail = zero_filled (take (r.length % 64) r.tail ++ d); length = r.length + length d } ≡ absorb r d
  unfolding absorb absorb_from blocks
  absorb-short h =
      let e : length (unhashed r ++ d) / 64 ≡ 0 = rw (length-append, length-held) (div-eq_of_lt (omega arith)) in
      rw e

  -- the tail is filled with the first bytes, and hashed
  pub absorb-fill : (b h : List ℕ) (q : Hasher) → 64 - r.length % 64 ≤ length d
      → b ≡ zero_filled (take (r.length % 64) r.tail ++ take (64 - r.length % 64) d) → h ≡ compress r.chain b
      → q ≡ absorb_from h (take (length d - (64 - r.length % 64)) (drop (64 - r.length % 64) d)) (r.length + length d) → q ≡ absorb r d
  unfolding absorb
  absorb-fill b h q room block next end =
      let a : List ℕ = unhashed r ++ take (64 - r.length % 64) d in
      let e : length a ≡ 64 = rw (length-append, length-held, length-take-le (64 - r.length % 64) d room) (omega arith) in
      let m : a ++ drop (64 - r.length % 64) d ≡ unhashed r ++ d = rw (append_assoc, take-append-drop) in
      end ∙ rw (part_end, next, block, fill-whole a e, ← m) (sym (after_next r.chain a (drop (64 - r.length % 64) d) (r.length + length d) e))

-- the tail is empty
pub absorb-whole : (r : Hasher) (d : List ℕ) → r.length % 64 ≡ 0 → absorb_from r.chain d (r.length + length d) ≡ absorb r d
unfolding absorb
absorb-whole r d e = rw e

-- ---- the two ways of `finish`

module _ (r : Hasher) (long : length r.tail ≡ 64) where
  marked-long : length (zero_filled (unhashed r ++ (128 ∷ []))) ≡ 64
  unfolding zero_filled
  marked-long =
      let e : length (unhashed r) ≡ r.length % 64 = length-held r [] long in
      simp (length-append, length-replicate) (omega arith)

  pub finish-one : r.length % 64 < 56
      → tabulate (words_byte (compress r.chain (take 56 (zero_filled (unhashed r ++ (128 ∷ []))) ++ tabulate (length_byte (8 * r.length)) 8))) 32
      ≡ finish r
  unfolding finish digest_from
  finish-one h =
      let b : List ℕ = take 56 (zero_filled (unhashed r ++ (128 ∷ []))) ++ tabulate (length_byte (8 * r.length)) 8 in
      let e : length b ≡ 64 =
      rw (length-append, length-take-le 56 (zero_filled (unhashed r ++ (128 ∷ []))) (omega (arith, marked-long)), length-tabulate) in
      rw (pad-one (unhashed r) r.length (length-held r [] long) h, blocks-one r.chain b e)

  pub finish-two : 56 ≤ r.length % 64
      → tabulate (words_byte (compress (compress r.chain (zero_filled (unhashed r ++ (128 ∷ []))))
      (take 56 (replicate 64 0) ++ tabulate (length_byte (8 * r.length)) 8))) 32
      ≡ finish r
  unfolding finish digest_from
  finish-two h =
      let marked : List ℕ = zero_filled (unhashed r ++ (128 ∷ [])) in
      let b : List ℕ = take 56 (replicate 64 0) ++ tabulate (length_byte (8 * r.length)) 8 in
      let e : length b ≡ 64 = rw (length-append, length-tabulate) in
      let padded = pad-two (unhashed r) r.length (length-held r [] long) h in
      rw (padded, blocks-next r.chain marked b marked-long, blocks-one (compress r.chain marked) b e)

-- ---- a message in parts

-- what a state keeps of m
held_after : (h m : List ℕ) (k : ℕ) → k % 64 ≡ length m % 64 → unhashed (absorb_from h m k) ≡ drop (length m / 64 * 64) m
unfolding absorb_from zero_filled
held_after h m k e =
    let t : List ℕ = drop (length m / 64 * 64) m in
    take_at t (replicate (64 - length t) 0) (k % 64) (rw length-drop (omega arith))

whole : (m : List ℕ) → length m / 64 * 64 ≤ length m
whole m = omega arith

module _ (r : Hasher) (d : List ℕ) (long : length r.tail ≡ 64) where
  kept : unhashed (absorb r d) ≡ drop (length (unhashed r ++ d) / 64 * 64) (unhashed r ++ d)
  unfolding absorb
  kept = held_after r.chain (unhashed r ++ d) (r.length + length d) (rw (length-append, length-held r d long) (omega arith))

  -- two parts are absorbed as their concatenation is
  pub absorb-append : (e : List ℕ) → absorb (absorb r d) e ≡ absorb r (d ++ e)
  unfolding absorb absorb_from
  absorb-append e =
      let m : List ℕ = unhashed r ++ d in
      let n : ℕ = length m / 64 in
      let k : ℕ = r.length + length d + length e in
      ap (λ (x : List ℕ). absorb_from (blocks n r.chain m) (x ++ e) k) kept ∙ after-split n r.chain m e (whole m) k
      ∙ rw (append_assoc, length-append d e, add_assoc)

  -- the digest after a part
  pub finish-absorb : finish (absorb r d) ≡ digest_from r.chain (unhashed r ++ d ++ padding (r.length + length d))
  unfolding absorb absorb_from finish digest_from
  finish-absorb =
      let m : List ℕ = unhashed r ++ d in
      let n : ℕ = length m / 64 in
      let p : List ℕ = padding (r.length + length d) in
      ap (λ (x : List ℕ). digest_from (blocks n r.chain m) (x ++ p)) kept
      ∙ sym (ap (λ (x : List ℕ). tabulate (words_byte x) 32) (blocks-split n r.chain m p (whole m)))

pub empty-long : length empty_hasher.tail ≡ 64
unfolding empty_hasher
empty-long = refl

-- the digest of a message that was absorbed from the empty state
pub finish-empty : (m : List ℕ) → finish (absorb empty_hasher m) ≡ sha256 m
unfolding empty_hasher sha256
finish-empty m = finish-absorb empty_hasher m empty-long ∙ rw zero-add

-- the state that a message leaves
pub absorb-empty : (m : List ℕ) → absorb empty_hasher m ≡ hasher_of m
unfolding absorb empty_hasher hasher_of
absorb-empty m = rw zero-add
