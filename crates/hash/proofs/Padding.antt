-- The last blocks: zeros after a tail, and the padding's bytes.
-- Assumes nothing.
use Rattle.std.proofs.Common.{◌≡◌, ℕ, ◌+◌, ◌-◌, ◌*◌, ◌/◌, ◌%◌, ◌^◌, ◌<◌, ◌≤◌, List, [], ◌∷◌, ◌++◌, length, take, drop, replicate, sym, refl, ap, ◌∙◌, subst, append_assoc, append-nil, arith, length-append, length-drop, drop_of_length-le, take_all, take_at, drop_at}
use lib.ListN.{length-replicate, replicate-append-replicate}
use lib.Pow.{field, mod-mod-pow}
use Rattle.laws.specs.Lists.{tabulate, overwrite}
use Rattle.laws.proofs.Copy.{overwrite-fits}
use Rattle.laws.proofs.Lists.{drop-replicate}
use Rattle.hash.specs.Padding.{length_byte, zero_bytes, padding}
use Rattle.hash.specs.Hasher.{zero_filled}

-- byte k of a number is that of the number modulo a power that has the byte
pub byte-mod : (x n j k : ℕ) → j + 8 + k ≡ n → x % 2 ^ n / 2 ^ k % 2 ^ 8 ≡ x / 2 ^ k % 2 ^ 8
byte-mod x n j k e =
    subst (λ (m : ℕ). x % 2 ^ m / 2 ^ k % 2 ^ 8 ≡ x / 2 ^ k % 2 ^ 8) e
    (ap (λ (y : ℕ). y % 2 ^ 8) (field x (j + 8) k) ∙ mod-mod-pow (x / 2 ^ k) j 8)

zeros-add : (n m : ℕ) → replicate {A = ℕ} (n + m) 0 ≡ replicate n 0 ++ replicate m 0
zeros-add n m = sym (replicate-append-replicate {A = ℕ} n m 0)

-- what the two copies of `filled` leave: b is written over the part of f from at on
pub filled_is : (t s f b : List ℕ) → length t + length s ≤ 64 → f ≡ overwrite (replicate 64 0) t
    → b ≡ overwrite (take (64 - length t) (drop (length t) f)) s → take (length t) f ++ (b ++ drop (64 - length t) (drop (length t) f)) ≡ zero_filled (t ++ s)
unfolding zero_filled
filled_is t s f b fits front back =
    let at = length t in
    let z : length (replicate {A = ℕ} 64 0) ≡ 64 = length-replicate {A = ℕ} 64 0 in
    let f' : f ≡ t ++ replicate (64 - at) 0 =
    front ∙ overwrite-fits (replicate 64 0) t (omega arith) ∙ rw (drop-replicate at 64 0) in
    let g : drop at f ≡ replicate (64 - at) 0 = rw f' (drop_at t (replicate (64 - at) 0) at refl) in
    let k : length (replicate {A = ℕ} (64 - at) 0) ≡ 64 - at = length-replicate {A = ℕ} (64 - at) 0 in
    let w : take (64 - at) (drop at f) ≡ replicate (64 - at) 0 = rw g (take_all (64 - at) (replicate (64 - at) 0) (omega arith)) in
    let none : drop (64 - at) (drop at f) ≡ [] = rw g (drop_of_length-le (replicate (64 - at) 0) {i = 64 - at} (omega arith)) in
    let b' : b ≡ s ++ replicate (64 - at - length s) 0 =
    back ∙ rw (w, overwrite-fits (replicate (64 - at) 0) s (omega arith), drop-replicate (length s) (64 - at) 0) in
    let m : 64 - length (t ++ s) ≡ 64 - at - length s = rw length-append (omega arith) in
    let h : take at f ≡ t = rw f' (take_at t (replicate (64 - at) 0) at refl) in
    rw (h, none, b', m, append-nil, append_assoc)

-- eight bytes put at the end of a block
pub last-is : (t b : List ℕ) → length t ≡ 64 → take 56 t ++ (b ++ drop 8 (drop 56 t)) ≡ take 56 t ++ b
last-is t b long =
    let none : drop 8 (drop 56 t) ≡ [] = drop_of_length-le (drop 56 t) {i = 8} (rw length-drop (omega arith)) in
    rw (none, append-nil)

-- the zeros that end in the block of the message's last bytes, and those that go on into one more
zeros-one : (n : ℕ) → n % 64 < 56 → zero_bytes n ≡ 55 - n % 64
unfolding zero_bytes
zeros-one n h = omega arith

zeros-two : (n : ℕ) → 56 ≤ n % 64 → zero_bytes n ≡ 63 - n % 64 + 56
unfolding zero_bytes
zeros-two n h = omega arith

module _ (a : List ℕ) (n : ℕ) (short : length a ≡ n % 64) where
  -- the padding of a message ends in the block of its last bytes a
  pub pad-one : n % 64 < 56 → a ++ padding n ≡ take 56 (zero_filled (a ++ (128 ∷ []))) ++ tabulate (length_byte (8 * n)) 8
  unfolding padding zero_filled
  pad-one h =
      let z : 64 - length (a ++ (128 ∷ [])) ≡ 55 - n % 64 + 8 = rw length-append (omega arith) in
      let p : List ℕ = a ++ (128 ∷ []) ++ replicate (55 - n % 64) 0 in
      let l : length p ≡ 56 = simp (length-append, length-replicate) (omega arith) in
      rw (zeros-one n h, z, zeros-add (55 - n % 64) 8, ← append_assoc (a ++ (128 ∷ [])) (replicate (55 - n % 64) 0) (replicate 8 0), take_at p (replicate 8 0) 56 l)
      (simp append_assoc)

  -- the padding of a message needs one block more
  pub pad-two : 56 ≤ n % 64 → a ++ padding n ≡ zero_filled (a ++ (128 ∷ [])) ++ (take 56 (replicate 64 0) ++ tabulate (length_byte (8 * n)) 8)
  unfolding padding zero_filled
  pad-two h =
      let z : 64 - length (a ++ (128 ∷ [])) ≡ 63 - n % 64 = rw length-append (omega arith) in
      rw (zeros-two n h, z, zeros-add (63 - n % 64) 56) (simp append_assoc)
