-- The closed form is the loop of Block_Encrypt, and what follows from it.
-- Assumes nothing.
use mathlib.Core.Path.{◌≡◌, refl, sym, ap, ap₂, ◌∙◌}
use mathlib.Core.List.{List, [], ◌∷◌, ◌++◌, append-nil, append_assoc}
use Prim.Native.Nat.{ℕ, zero, suc, ◌+◌, ◌*◌, ◌%◌, ◌^◌}
use native.Mathlib.Nat.{add-zero, add-suc, mod-mod, mod-add-mod}
use native.Mathlib.Omega.{arith}
use lib.ListN.{length, length-append}
use Rattle.laws.specs.Lists.{tabulate, joined}
use Rattle.laws.specs.Blocks.{block_count}
use Rattle.laws.proofs.Lists.{joined-append, joined-one}
use Rattle.laws.proofs.Tabulate.{tabulate-ext}
use Rattle.cipher.specs.Aes.{Bytes, cipher}
use Rattle.ctr_drbg.specs.Counter.{octets_to_integer, integer_to_octets, increment}
use Rattle.ctr_drbg.specs.Algorithms.{Generated, Returned, padded, divided, working_of, working, state_of, generate_blocks, update, zero_working, instantiate, reseed, prepared, generate}
use Rattle.ctr_drbg.specs.Closed.{after, values_of_v, enciphered, closed_blocks, closed_update, closed_reseed, closed_from, closed_generate}
use Rattle.ctr_drbg.specs.Operations.{fresh}
use Rattle.ctr_drbg.specs.declared.CtrDrbg.{CtrDrbg}
use Rattle.ctr_drbg.specs.declared.update.Working.{Working}
use Rattle.ctr_drbg.proofs.Digits.{integer-octets, bytes-octets}

-- the number of V after a step, plus k more, modulo 2^128
number-on : (x k : ℕ) → (octets_to_integer (integer_to_octets 16 (x % 2 ^ 128)) + k) % 2 ^ 128 ≡ (x + k) % 2 ^ 128
number-on x k = rw (integer-octets 16 (x % 2 ^ 128)) (ap (λ (m : ℕ). (m + k) % 2 ^ 128) (mod-mod x (2 ^ 128)) ∙ mod-add-mod x (2 ^ 128) k)

pub increment-after : (v : List ℕ) (k : ℕ) → increment (after v k) ≡ after v (suc k)
unfolding increment after
increment-after v zero = refl
increment-after v (suc k) =
    let e : octets_to_integer v + suc k + 1 ≡ octets_to_integer v + suc (suc k) = omega arith in
    ap (integer_to_octets 16) (number-on (octets_to_integer v + suc k) 1 ∙ ap (λ (m : ℕ). m % 2 ^ 128) e)

after_increment : (v : List ℕ) (k : ℕ) → after (increment v) k ≡ after v (suc k)
unfolding increment after
after_increment v zero = refl
after_increment v (suc k) =
    let e : octets_to_integer v + 1 + suc k ≡ octets_to_integer v + suc (suc k) = omega arith in
    ap (integer_to_octets 16) (number-on (octets_to_integer v + 1) (suc k) ∙ ap (λ (m : ℕ). m % 2 ^ 128) e)

-- the first element off the front
tabulate-front : {A : Type 0} (f : ℕ → A) (n : ℕ) → tabulate f (suc n) ≡ f 0 ∷ tabulate (λ i. f (suc i)) n
unfolding tabulate
tabulate-front f zero = refl
tabulate-front {A} f (suc n) = ap (λ (l : List A). l ++ (f (suc n) ∷ [])) (tabulate-front f n)

values-front : (v : List ℕ) (k : ℕ) → values_of_v v (suc k) ≡ increment v ∷ values_of_v (increment v) k
unfolding values_of_v increment after
values-front v k =
    tabulate-front (λ i. after v (suc i)) k
    ∙ ap₂ (λ (x : List ℕ) (l : List (List ℕ)). x ∷ l) (sym (after_increment v 0))
    (tabulate-ext (λ i. after v (suc (suc i))) (λ i. after (increment v) (suc i)) k (λ i h. sym (after_increment v (suc i))))

generated-equal : (x y : Generated) → x.bytes ≡ y.bytes → x.next ≡ y.next → x.trace ≡ y.trace → x ≡ y
generated-equal x y p q r = λ i. record { bytes = p i; next = q i; trace = r i }

returned-equal : (x y : Returned) → x.bytes ≡ y.bytes → x.next ≡ y.next → x.trace ≡ y.trace → x ≡ y
returned-equal x y p q r = λ i. record { bytes = p i; next = q i; trace = r i }

pub blocks-closed : (k : ℕ) (w : Working) → generate_blocks w k ≡ closed_blocks w k
unfolding generate_blocks closed_blocks values_of_v enciphered joined tabulate after
blocks-closed zero w = refl
blocks-closed (suc k) w =
    let r = blocks-closed k (working_of w.key (increment w.v)) in
    let c = values-front w.v k in
    generated-equal _ _
    (ap (λ (g : Generated). cipher w.key (increment w.v) ++ g.bytes) r ∙ sym (ap (joined (cipher w.key)) c))
    (ap (λ (g : Generated). g.next) r ∙ ap (λ (v : List ℕ). working_of w.key v) (after_increment w.v k))
    (ap (λ (g : Generated). increment w.v ∷ g.trace) r ∙ sym c)

after_none : (v : List ℕ) → after v 0 ≡ v
unfolding after
after_none v = refl

-- k steps, then j
after-after : (v : List ℕ) (k j : ℕ) → after (after v k) j ≡ after v (k + j)
after-after v k zero = rw add-zero (after_none (after v k))
after-after v k (suc j) =
    rw (add-suc k j) (sym (increment-after (after v k) j) ∙ ap increment (after-after v k j) ∙ increment-after v (k + j))

values-add : (v : List ℕ) (k m : ℕ) → values_of_v v (k + m) ≡ values_of_v v k ++ values_of_v (after v k) m
unfolding values_of_v tabulate
values-add v k zero = rw (add-zero k, append-nil)
values-add v k (suc m) =
    rw (add-suc k m)
    (ap₂ (λ (l : List (List ℕ)) (b : List ℕ). l ++ (b ∷ [])) (values-add v k m) (rw (add-suc k m) at (sym (after-after v k (suc m))))
    ∙ append_assoc (values_of_v v k) (values_of_v (after v k) m) (after (after v k) (suc m) ∷ []))

pub update-closed : (provided : List ℕ) (w : Working) (k : ℕ) → update provided (generate_blocks w k).next ≡ closed_update provided w k
unfolding update closed_update closed_blocks
update-closed provided w k = rw (blocks-closed k w, blocks-closed 3 (working_of w.key (after w.v k)))

pub reseed-closed : (s : CtrDrbg) (entropy additional : List ℕ) → reseed s entropy additional ≡ closed_reseed s entropy additional
unfolding reseed state_of working update divided closed_reseed closed_blocks
reseed-closed s entropy additional = rw (blocks-closed 3 (working_of s.key s.v))

pub instantiate-closed : (entropy personalization : List ℕ) → instantiate entropy personalization ≡ closed_reseed fresh entropy personalization
unfolding instantiate state_of update divided closed_reseed closed_blocks fresh
instantiate-closed entropy personalization = rw (blocks-closed 3 zero_working)

pub generate-closed : (s : CtrDrbg) (n : ℕ) (additional : List ℕ) → generate s n additional ≡ closed_generate s n additional
unfolding generate closed_generate closed_from closed_blocks
generate-closed s n additional =
    let w = prepared additional (working s) in
    let k = block_count n in
    rw (update-closed (padded additional) w k, blocks-closed k w, blocks-closed 3 (working_of w.key (after w.v k)))
    (returned-equal _ _ refl refl (sym (values-add w.v k 3)))

-- blocks of 16 bytes that f makes of the values of V
module _ (f : List ℕ → List ℕ) where
  pub enciphered-more : (v : List ℕ) (k : ℕ) → enciphered f v (suc k) ≡ enciphered f v k ++ f (after v (suc k))
  unfolding enciphered values_of_v tabulate
  enciphered-more v k = joined-append f (values_of_v v k) (after v (suc k) ∷ []) ∙ rw (joined-one f (after v (suc k)))

  pub enciphered-none : (v : List ℕ) → enciphered f v 0 ≡ []
  unfolding enciphered values_of_v tabulate joined
  enciphered-none v = refl

  pub length-enciphered : ((b : List ℕ) → length (f b) ≡ 16) → (v : List ℕ) (k : ℕ) → length (enciphered f v k) ≡ 16 * k
  length-enciphered size v zero = rw (enciphered-none v)
  length-enciphered size v (suc k) =
      rw (enciphered-more v k, length-append) (omega (arith, size (after v (suc k)), length-enciphered size v k))

-- two ciphers that agree on blocks of bytes make the same of V's steps
module _ (f g : List ℕ → List ℕ) (agree : (b : List ℕ) → Bytes b → f b ≡ g b) where
  step_same : (v : List ℕ) (k : ℕ) → f (after v (suc k)) ≡ g (after v (suc k))
  unfolding after
  step_same v k = agree _ (bytes-octets 16 _)

  pub enciphered-ext : (v : List ℕ) (k : ℕ) → enciphered f v k ≡ enciphered g v k
  enciphered-ext v zero = enciphered-none f v ∙ sym (enciphered-none g v)
  enciphered-ext v (suc k) =
      enciphered-more f v k ∙ ap₂ (λ (x y : List ℕ). x ++ y) (enciphered-ext v k) (step_same v k) ∙ sym (enciphered-more g v k)
