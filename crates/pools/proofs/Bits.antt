-- Tests without a branch: bits gathered by or, differences by xor, and what they say of lists.
-- Assumes nothing.
use Rattle.std.proofs.Common.{◌≡◌, ℕ, zero, suc, ◌+◌, ◌-◌, ◌*◌, ◌<◌, ◌≤◌, max, Bool, true, false, ◌&&◌, eqb, ltb, List, [], ◌∷◌, ◌++◌, length, get_or, take, drop, replicate, mod-eq_of_lt, sym, refl, ap, ◌∙◌, add-one, arith, drop_of_length-le, drop-cons, length-take, length-drop, get_or-append-add, ltb-false, ltb-true, eq-eqb, ne_eqb, eqb-true}
use mathlib.Core.Bool.{and-true, and_assoc}
use native.Mathlib.Nat.{max-eq_left, max-eq_right}
use lib.Bits.{bit_and, bit_or, bit_xor, and_zero_r, and_mask, or_zero_r, or_zero_l, or_add_and, and_le_l, and_le_r, xor_self, xor_add_and}
use lib.Dec.{eqb-suc-zero}
use lib.Pointwise.{pointwise}
use Rattle.std.proofs.lemmas.List.{get_or-drop, get_or-take}
use Rattle.std.specs.List.{fold}
use lib.ListN.{get_or-replicate, length-replicate, get_or-append}
use borrow.Author.Tests.{eqb-false}
use Rattle.laws.specs.Lists.{all_zero, same_list}

-- bits gathered are none exactly if both were
or-none : (a b : ℕ) → eqb (bit_or a b) 0 ≡ (eqb a 0 && eqb b 0)
or-none zero b = ap (λ (x : ℕ). eqb x 0) (or_zero_l b)
or-none (suc n) b =
    ne_eqb (bit_or (suc n) b) 0 (λ (e : bit_or (suc n) b ≡ 0).
    let s : bit_or (suc n) b + bit_and (suc n) b ≡ suc n + b = or_add_and (suc n) b in
    let l : bit_and (suc n) b ≤ b = and_le_r (suc n) b in
    omega (arith, e, s, l)) ∙ sym (ap (λ (t : Bool). t && eqb b 0) (eqb-suc-zero n))

-- two numbers differ in no bit exactly if they are equal
xor-none : (a b : ℕ) → eqb (bit_xor a b) 0 ≡ eqb a b
xor-none a b = go (eqb a b) refl
  where
    go : (t : Bool) → eqb a b ≡ t → eqb (bit_xor a b) 0 ≡ t
    go true e = eq-eqb (bit_xor a b) 0 (rw (eqb-true a b e) (xor_self b))
    go false e =
        ne_eqb (bit_xor a b) 0 (λ (z : bit_xor a b ≡ 0).
        let s : bit_xor a b + bit_and a b * 2 ≡ a + b = xor_add_and a b in
        let l : bit_and a b ≤ a = and_le_l a b in
        let r : bit_and a b ≤ b = and_le_r a b in
        let same : a ≡ b = omega (arith, z, s, l, r) in
        eqb-false a b e same)

-- ---- the bytes of t from `at` on

-- d holds the bits of those among the first i bytes
abbrev pub Found : ℕ → ℕ → List ℕ → ℕ → Type 0
Found d at t i = (eqb d 0 && all_zero (drop (max i at) t)) ≡ all_zero (drop at t)

-- before the loop there are none
pub found_none : (at : ℕ) (t : List ℕ) → Found 0 at t 0
found_none at t = let e : max 0 at ≡ at = max-eq_right (omega arith) in rw e

-- a byte before `at` is left out
found_below : (d at i : ℕ) (t : List ℕ) → i < at → Found d at t i → Found d at t (i + 1)
found_below d at i t h f =
    let e : max i at ≡ at = max-eq_right (omega arith) in
    let e' : max (i + 1) at ≡ at = max-eq_right (omega arith) in
    rw e' (rw e at f)

-- a byte from `at` on is gathered
found-more : (d at i : ℕ) (t : List ℕ) → at ≤ i → i < length t → Found d at t i → Found (bit_or d (get_or t i 0)) at t (i + 1)
unfolding all_zero
found-more d at i t h l f =
    let e : max i at ≡ i = max-eq_left h in
    let e' : max (i + 1) at ≡ i + 1 = max-eq_left (omega arith) in
    let g : (eqb d 0 && (eqb (get_or t i 0) 0 && all_zero (drop (i + 1) t))) ≡ all_zero (drop at t) =
    rw (add-one i) (rw (e, drop-cons t i 0 l) at f) in
    rw e'
    (ap (λ (b : Bool). b && all_zero (drop (i + 1) t)) (or-none d (get_or t i 0))
    ∙ and_assoc (eqb d 0) (eqb (get_or t i 0) 0) (all_zero (drop (i + 1) t)) ∙ g)

-- the code's table: 63 bytes that keep no bit, then 64 that keep all
abbrev pub mask_bytes : List ℕ
mask_bytes = replicate 63 0 ++ replicate 64 255

-- the masks before and after the seam
mask-none : (j : ℕ) → j < 63 → get_or mask_bytes j 0 ≡ 0
mask-none j h = get_or-append (replicate 63 0) (replicate 64 255) 0 j (rw length-replicate h) ∙ get_or-replicate 63 j 0 0 h

mask-all : (j : ℕ) → j < 64 → get_or mask_bytes (63 + j) 0 ≡ 255
mask-all j h = get_or-append-add (replicate 63 0) (replicate 64 255) j 0 ∙ get_or-replicate 64 j 255 0 h

-- those that go with the 64 bytes, of which the ones from `at` on are looked at
abbrev pub masks_from : ℕ → List ℕ
masks_from at = take (127 - (63 - at)) (drop (63 - at) mask_bytes)

pub masks-enough : (at : ℕ) → at < 64 → 64 ≤ length (masks_from at)
masks-enough at h =
    let all : length mask_bytes ≡ 127 = refl in
    rw (length-take, length-drop, all) (omega arith)

mask-at : (at i : ℕ) → at < 64 → i < 64 → get_or (masks_from at) i 0 ≡ get_or mask_bytes (63 - at + i) 0
mask-at at i h l = get_or-take (127 - (63 - at)) (drop (63 - at) mask_bytes) i 0 (omega arith) ∙ get_or-drop (63 - at) mask_bytes i 0

-- one turn: the bits of byte i that its mask keeps are gathered
pub found_turn : (d at i : ℕ) (t : List ℕ) → at < 64 → i < 64 → length t ≡ 64 → get_or t i 0 < 256
    → Found d at t i → Found (bit_or d (bit_and (get_or t i 0) (get_or (masks_from at) i 0))) at t (i + 1)
found_turn d at i t h l n byte f = rw (mask-at at i h l) (go (ltb i at) refl)
  where
    go : (b : Bool) → ltb i at ≡ b → Found (bit_or d (bit_and (get_or t i 0) (get_or mask_bytes (63 - at + i) 0))) at t (i + 1)
    go true b =
        let k : i < at = ltb-true i at b in
        rw (mask-none (63 - at + i) (omega arith), and_zero_r (get_or t i 0), or_zero_r d) (found_below d at i t k f)
    go false b =
        let k : at ≤ i = ltb-false i at b in
        let p : 63 - at + i ≡ 63 + (i - at) = omega arith in
        rw (p, mask-all (i - at) (omega arith), and_mask (get_or t i 0) 8, mod-eq_of_lt byte) (found-more d at i t k (omega arith) f)

-- t is at its end
pub found_all : (d at i : ℕ) (t : List ℕ) → at ≤ length t → length t ≤ i → Found d at t i → eqb d 0 ≡ all_zero (drop at t)
unfolding all_zero
found_all d at i t h l f =
    let e : max i at ≡ i = max-eq_left (omega arith) in
    let n : drop i t ≡ [] = drop_of_length-le t {i = i} l in
    sym (and-true (eqb d 0)) ∙ rw (e, n) at f

-- ---- a list of one element, repeated

-- the differences from b are gathered behind d
pub gathered : (d b : ℕ) (l : List ℕ) → eqb (fold (λ x y. bit_or x (bit_xor y b)) d l) 0 ≡ (eqb d 0 && same_list l (replicate (length l) b))
unfolding same_list
gathered d b [] = sym (and-true (eqb d 0))
gathered d b (x ∷ l) =
    gathered (bit_or d (bit_xor x b)) b l
    ∙ ap (λ (t : Bool). t && same_list l (replicate (length l) b)) (or-none d (bit_xor x b) ∙ ap (λ (t : Bool). eqb d 0 && t) (xor-none x b))
    ∙ and_assoc (eqb d 0) (eqb x b) (same_list l (replicate (length l) b))

-- the library's comparison of two lists
pub compared : (a b : List ℕ) → pointwise eqb a b ≡ same_list a b
unfolding same_list
compared [] [] = refl
compared [] (y ∷ b) = refl
compared (x ∷ a) [] = refl
compared (x ∷ a) (y ∷ b) = ap (λ (t : Bool). eqb x y && t) (compared a b)
