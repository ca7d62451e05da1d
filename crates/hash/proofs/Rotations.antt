-- Rotations of words. A rotation by n changes the places of a word's n low bits and of the bits above them. So two rotations are
-- one, and an exclusive or may be rotated before it is taken or after: Σ and σ can be taken from the inside out.
-- Assumes nothing.
use Rattle.std.proofs.Common.{◌≡◌, ℕ, ◌+◌, ◌-◌, ◌*◌, ◌/◌, ◌%◌, ◌^◌, ◌<◌, sym, ap, ◌∙◌, subst, ap₂, add_assoc, mod-lt, mul_assoc, add-mul, add_comm, arith, pow_pos, pow-add, shl_lt, shr-shr, shr_lt}
use lib.Arith.{digits_lt, digits_mod}
use lib.Bits.{bit_or, bit_xor, xor_shr, xor_mod, xor_lt, xor_block, or_shifted_r}
use lib.Pow.{split, high, mod-pow-add}
use Rattle.laws.proofs.Bits.{xor_assoc}
use Rattle.hash.specs.Word.{ROTR}

-- n low bits and m above them make a word
module _ (n m : ℕ) (whole : n + m ≡ 32) where
  -- both powers of 2 make 2 ^ 32
  word : 2 ^ n * 2 ^ m ≡ 2 ^ 32
  word = sym (pow-add 2 n m) ∙ ap (λ (k : ℕ). 2 ^ k) whole

  shifted : (hi lo : ℕ) → lo < 2 ^ n → (hi * 2 ^ n + lo) * 2 ^ m % 2 ^ 32 ≡ lo * 2 ^ m
  shifted hi lo h =
      let below : lo * 2 ^ m < 2 ^ 32 = subst (λ (k : ℕ). lo * 2 ^ m < 2 ^ k) whole (shl_lt n m h) in
      let front : hi * 2 ^ n * 2 ^ m ≡ hi * 2 ^ 32 = mul_assoc hi (2 ^ n) (2 ^ m) ∙ ap (λ (y : ℕ). hi * y) word in
      ap (λ (y : ℕ). y % 2 ^ 32) (add-mul (hi * 2 ^ n) lo (2 ^ m) ∙ ap (λ (y : ℕ). y + lo * 2 ^ m) front) ∙ digits_mod hi below

  -- the low bits come to the front
  turned : (hi lo : ℕ) → lo < 2 ^ n → hi < 2 ^ m → ROTR n (hi * 2 ^ n + lo) ≡ lo * 2 ^ m + hi
  turned hi lo l h =
      let e : 32 - n ≡ m = omega (arith, whole) in
      ap₂ bit_or (high hi n l) (ap (λ (k : ℕ). (hi * 2 ^ n + lo) * 2 ^ k % 2 ^ 32) e ∙ shifted hi lo l) ∙ or_shifted_r lo m hi h

  high_lt : (x : ℕ) → x < 2 ^ 32 → x / 2 ^ n < 2 ^ m
  high_lt x h = shr_lt m n (subst (λ (k : ℕ). x < 2 ^ k) (sym (add_comm m n ∙ whole)) h)

  low-lt : (x : ℕ) → x % 2 ^ n < 2 ^ n
  low-lt x = mod-lt x (pow_pos n)

  rotr-is : (x : ℕ) → x < 2 ^ 32 → ROTR n x ≡ x % 2 ^ n * 2 ^ m + x / 2 ^ n
  rotr-is x h = ap (ROTR n) (sym (split x n)) ∙ turned (x / 2 ^ n) (x % 2 ^ n) (low-lt x) (high_lt x h)

  rotr-lt : (x : ℕ) → x < 2 ^ 32 → ROTR n x < 2 ^ 32
  rotr-lt x h = subst (λ (y : ℕ). ROTR n x < y) word (subst (λ (y : ℕ). y < 2 ^ n * 2 ^ m) (sym (rotr-is x h)) (digits_lt (low-lt x) (high_lt x h)))

  -- of an exclusive or
  rotr-xor : (x y : ℕ) → x < 2 ^ 32 → y < 2 ^ 32 → ROTR n (bit_xor x y) ≡ bit_xor (ROTR n x) (ROTR n y)
  rotr-xor x y hx hy =
      rotr-is (bit_xor x y) (xor_lt 32 x y hx hy)
      ∙ ap₂ (λ (l h : ℕ). l * 2 ^ m + h) (xor_mod x y n) (xor_shr x y n)
      ∙ sym (xor_block m (x % 2 ^ n) (y % 2 ^ n) (x / 2 ^ n) (y / 2 ^ n) (high_lt x hx) (high_lt y hy))
      ∙ sym (ap₂ bit_xor (rotr-is x hx) (rotr-is y hy))

-- a digit moved from the low part to the high one
regroup : (p z y c a : ℕ) → p * 2 ^ (c + a) + (z * 2 ^ a + y) ≡ (p * 2 ^ c + z) * 2 ^ a + y
regroup p z y c a =
    let front : p * 2 ^ c * 2 ^ a ≡ p * 2 ^ (c + a) = mul_assoc p (2 ^ c) (2 ^ a) ∙ ap (λ (k : ℕ). p * k) (sym (pow-add 2 c a)) in
    let both : (p * 2 ^ c + z) * 2 ^ a ≡ p * 2 ^ (c + a) + z * 2 ^ a = add-mul (p * 2 ^ c) z (2 ^ a) ∙ ap (λ (k : ℕ). k + z * 2 ^ a) front in
    sym (ap (λ (k : ℕ). k + y) both ∙ add_assoc (p * 2 ^ (c + a)) (z * 2 ^ a) y)

-- three parts make a word, and two rotations are one
module _ (a b c : ℕ) (whole : a + b + c ≡ 32) (x : ℕ) (h : x < 2 ^ 32) where
  rotr-rotr : ROTR a (ROTR b x) ≡ ROTR (a + b) x
  rotr-rotr =
      let p : ℕ = x % 2 ^ b in
      let q : ℕ = x / 2 ^ b in
      let y : ℕ = q % 2 ^ a in
      let z : ℕ = q / 2 ^ a in
      let e : b + (c + a) ≡ 32 = omega (arith, whole) in
      let f : a + (b + c) ≡ 32 = omega (arith, whole) in
      let middle : z < 2 ^ c = shr_lt c a (high_lt b (c + a) e x h) in
      let top : p * 2 ^ c + z < 2 ^ (b + c) = subst (λ (k : ℕ). p * 2 ^ c + z < k) (sym (pow-add 2 b c)) (digits_lt (low-lt b (c + a) e x) middle) in
      ap (ROTR a) (rotr-is b (c + a) e x h ∙ ap (λ (k : ℕ). p * 2 ^ (c + a) + k) (sym (split q a)) ∙ regroup p z y c a)
      ∙ turned a (b + c) f (p * 2 ^ c + z) y (low-lt a (b + c) f q) top
      ∙ regroup y p z b c
      ∙ ap₂ (λ (l k : ℕ). l * 2 ^ c + k) (sym (mod-pow-add x a b)) (shr-shr x b a ∙ ap (λ (k : ℕ). x / 2 ^ k) (add_comm b a))
      ∙ sym (rotr-is (a + b) c whole x h)

  -- one rotation by a and one by b more
  pub nested : ROTR a (bit_xor x (ROTR b x)) ≡ bit_xor (ROTR a x) (ROTR (a + b) x)
  nested =
      rotr-xor a (b + c) (omega (arith, whole)) x (ROTR b x) h (rotr-lt b (c + a) (omega (arith, whole)) x h) ∙ ap (bit_xor (ROTR a x)) rotr-rotr

-- and a third rotation by c more
module _ (a b c d : ℕ) (whole : a + b + c + d ≡ 32) (x : ℕ) (h : x < 2 ^ 32) where
  pub nested-twice : ROTR a (bit_xor x (ROTR b (bit_xor x (ROTR c x)))) ≡ bit_xor (bit_xor (ROTR a x) (ROTR (a + b) x)) (ROTR (a + (b + c)) x)
  nested-twice =
      let e : a + (b + c + d) ≡ 32 = omega (arith, whole) in
      let second : ROTR b x < 2 ^ 32 = rotr-lt b (a + c + d) (omega (arith, whole)) x h in
      let third : ROTR (b + c) x < 2 ^ 32 = rotr-lt (b + c) (a + d) (omega (arith, whole)) x h in
      ap (λ (y : ℕ). ROTR a (bit_xor x y)) (nested b c (a + d) (omega (arith, whole)) x h)
      ∙ rotr-xor a (b + c + d) e x (bit_xor (ROTR b x) (ROTR (b + c) x)) h (xor_lt 32 (ROTR b x) (ROTR (b + c) x) second third)
      ∙ ap (bit_xor (ROTR a x)) (rotr-xor a (b + c + d) e (ROTR b x) (ROTR (b + c) x) second third
      ∙ ap₂ bit_xor (rotr-rotr a b (c + d) (omega (arith, whole)) x h) (rotr-rotr a (b + c) d (omega (arith, whole)) x h))
      ∙ sym (xor_assoc (ROTR a x) (ROTR (a + b) x) (ROTR (a + (b + c)) x))
