-- The closed forms are GENERATEBLOCKS and PSEUDORANDOMDATA.
-- Assumes nothing.
use mathlib.Core.Path.{◌≡◌, refl, sym, ap, ap₂, ◌∙◌}
use mathlib.Core.List.{List, [], ◌∷◌, ◌++◌, map}
use Prim.Native.Nat.{ℕ, zero, suc, ◌+◌}
use native.Mathlib.Nat.{add-zero, zero-add, suc-add, add_assoc}
use native.Mathlib.Numerals.{add-one}
use native.Mathlib.Omega.{arith}
use lib.ListN.{length, take}
use Rattle.laws.specs.Lists.{tabulate, joined}
use Rattle.laws.specs.Blocks.{block_count}
use Rattle.cipher.specs.Aes.{cipher}
use Rattle.generator.specs.Counter.{little_endian, counter_block}
use Rattle.generator.specs.Steps.{GeneratorState, Generated, generate_blocks, block_data, pseudo_random_data}
use Rattle.generator.specs.Statements.{Enciphers}
use Rattle.generator.specs.Closed.{counters, enciphered, blocks_from, after_blocks, output, rekeyed, closed_block_data, closed_random_data}

-- k Block steps in closed form
closed_blocks : GeneratorState → ℕ → Generated
closed_blocks w k =
    record { bytes = blocks_from w.key w.count k; next = after_blocks w k; trace = map counter_block (counters w.count k) }

state-equal : (w v : GeneratorState) → w.key ≡ v.key → w.count ≡ v.count → w ≡ v
state-equal w v p q = λ i. record { key = p i; count = q i }

generated-equal : (x y : Generated) → x.bytes ≡ y.bytes → x.next ≡ y.next → x.trace ≡ y.trace → x ≡ y
generated-equal x y p q r = λ i. record { bytes = p i; next = q i; trace = r i }

blocks-closed : (k : ℕ) (w : GeneratorState) → generate_blocks w k ≡ closed_blocks w k
unfolding generate_blocks closed_blocks blocks_from after_blocks enciphered counters
blocks-closed zero w = generated-equal _ _ refl (state-equal _ _ refl (sym (add-zero w.count))) refl
blocks-closed (suc k) w =
    let r = blocks-closed k (record { key = w.key; count = w.count + 1 }) in
    generated-equal _ _
    (ap (λ (g : Generated). cipher w.key (counter_block w.count) ++ g.bytes) r)
    (ap (λ (g : Generated). g.next) r ∙ state-equal _ _ refl (omega arith))
    (ap (λ (g : Generated). counter_block w.count ∷ g.trace) r)

pub block-data-closed : (w : GeneratorState) (n : ℕ) → block_data w n ≡ closed_block_data w n
unfolding block_data closed_block_data output closed_blocks
block-data-closed w n = rw (blocks-closed (block_count n) w)

map-join : (a b : List ℕ) → map counter_block (a ++ b) ≡ map counter_block a ++ map counter_block b
map-join [] b = refl
map-join (x ∷ a) b = ap {B = List (List ℕ)} (λ l. counter_block x ∷ l) (map-join a b)

counters-add : (c j k : ℕ) → counters c (j + k) ≡ counters c j ++ counters (c + j) k
unfolding counters
counters-add c zero k = rw (zero-add, add-zero)
counters-add c (suc j) k =
    let e : c + 1 + j ≡ c + suc j = omega arith in
    rw (suc-add j k, ← e) (ap (λ (l : List ℕ). c ∷ l) (counters-add (c + 1) j k))

pub random-data-closed : (w : GeneratorState) (n : ℕ) → pseudo_random_data w n ≡ closed_random_data w n
unfolding pseudo_random_data closed_random_data rekeyed closed_block_data after_blocks closed_blocks
random-data-closed w n =
    let c = w.count in
    let k = block_count n in
    rw (block-data-closed w n, blocks-closed 2 (after_blocks w k))
    (generated-equal _ _ refl (state-equal _ _ refl (add_assoc c k 2))
    (sym (map-join (counters c k) (counters (c + k) 2)) ∙ ap (map counter_block) (sym (counters-add c k 2))))

-- ---- the trace and what was enciphered

counters-tabulate : (c k : ℕ) → map counter_block (counters c k) ≡ tabulate (λ i. little_endian 16 (c + i)) k
unfolding tabulate
counters-tabulate c zero = unfold counters in refl
counters-tabulate c (suc k) =
    ap (map counter_block) (ap (counters c) (sym (add-one k)) ∙ counters-add c k 1)
    ∙ map-join (counters c k) (counters (c + k) 1)
    ∙ ap₂ (λ (x y : List (List ℕ)). x ++ y) (counters-tabulate c k) (unfold counters counter_block in refl)

enciphered-joined : (f : List ℕ → List ℕ) (cs : List ℕ) → enciphered f cs ≡ joined f (map counter_block cs)
unfolding enciphered joined
enciphered-joined f [] = refl
enciphered-joined f (c ∷ cs) = ap (λ (l : List ℕ). f (counter_block c) ++ l) (enciphered-joined f cs)

two-counters : (c : ℕ) → length (map counter_block (counters c 2)) ≡ 2
unfolding counters
two-counters c = refl

pub enciphers : (w : GeneratorState) (n : ℕ) → Enciphers w n
unfolding closed_random_data output rekeyed blocks_from
enciphers w n =
    let c = w.count in
    let k = block_count n in
    let both : map counter_block (counters c (k + 2)) ≡ map counter_block (counters c k) ++ map counter_block (counters (c + k) 2) =
    ap (map counter_block) (counters-add c k 2) ∙ map-join (counters c k) (counters (c + k) 2) in
    record {
      shown = map counter_block (counters c k);
      kept = map counter_block (counters (c + k) 2);
      trace = rw (random-data-closed w n) both;
      steps = sym both ∙ counters-tabulate c (k + 2);
      bytes = rw (random-data-closed w n) (ap (take n) (enciphered-joined (cipher w.key) (counters c k)));
      rekeyed = rw (random-data-closed w n) (enciphered-joined (cipher w.key) (counters (c + k) 2));
      last = two-counters (c + k);
    }
