-- The four tables: their rule, and what four entries add up to.
-- Assumes nothing.
use Prim.Native.Nat.{ℕ, ◌+◌, ◌*◌, ◌/◌, ◌%◌, ◌<◌}
use mathlib.Core.Path.{◌≡◌, refl, ap, ◌∙◌}
use native.Mathlib.Omega.{arith}
use lib.Bits.{xor_lt}
use lib.Dec.{lit<}
use Rattle.laws.specs.Lists.{tabulate}
use Rattle.laws.proofs.Tables.{agree_at}
use Rattle.laws.proofs.Tabulate.{get_d_tabulate}
use Rattle.cipher.specs.Field.{◌⊕◌, xtime, multiply, product, sub_byte}
use Rattle.cipher.specs.Aes.{at, mixed_byte, mix_columns}
use Rattle.laws.proofs.Bits.{xor-turn}
use Rattle.cipher.proofs.Bytes.{sub-byte-lt, twice-lt, thrice-lt}
use Rattle.word_cipher.specs.Words.{word, byte_of, word_in}
use Rattle.word_cipher.specs.Tables.{spread, entry, tables}
use Rattle.word_cipher.specs.Cipher.{substituted}
use Rattle.word_cipher.specs.Claims.{alone, TablesRule}
use Rattle.word_cipher.proofs.Words.{xor-word, word-ext, bytes_of}

pub entry_at : (k x i : ℕ) → k < 4 → x < 256 → i ≡ 256 * k + x → at tables i ≡ entry k x
unfolding tables
entry_at k x i l h e =
    let row : i / 256 ≡ k = omega arith in
    let place : i % 256 ≡ x = omega arith in
    get_d_tabulate (λ j. entry (j / 256) (j % 256)) 0 _ i (omega arith) ∙ rw (row, place) refl

-- one test over the four rows and the 256 bytes of each, which antt computes
spread-mixes : (k s : ℕ) → k < 4 → s < 256 → spread k s ≡ word_in (mix_columns (alone k s)) 0
unfolding spread word mix_columns mixed_byte tabulate product multiply xtime
spread-mixes k s l h =
    let row : (256 * k + s) / 256 ≡ k = omega arith in
    let place : (256 * k + s) % 256 ≡ s = omega arith in
    rw (row, place) at
    (agree_at (λ i. spread (i / 256) (i % 256)) (λ i. word_in (mix_columns (alone (i / 256) (i % 256))) 0) 1024 tt (256 * k + s) (omega arith))

pub tables-rule : TablesRule
unfolding entry
tables-rule k x l h = entry_at k x (256 * k + x) l h refl ∙ spread-mixes k (sub_byte x) l (sub-byte-lt x)

pub substitutes : (x : ℕ) → x < 256 → substituted tables x ≡ sub_byte x
unfolding substituted entry spread
substitutes x h =
    let s : sub_byte x < 256 = sub-byte-lt x in
    ap (λ (y : ℕ). byte_of y 1) (entry_at 0 x x (lit< tt) h (omega arith)) ∙ (bytes_of _ _ _ _ (twice-lt _ s) s s (thrice-lt _ s)).1

-- a mixed byte of a column, from its own row down
abbrev pub mix : ℕ → ℕ → ℕ → ℕ → ℕ
mix a b c d = product 0x02 a ⊕ product 0x03 b ⊕ c ⊕ d

-- what the four bytes of a column add is the mixed column
pub spreads : (a b c d : ℕ) → a < 256 → b < 256 → c < 256 → d < 256
    → spread 0 a ⊕ spread 1 b ⊕ spread 2 c ⊕ spread 3 d ≡ word (mix a b c d) (mix b c d a) (mix c d a b) (mix d a b c)
unfolding spread
spreads a b c d ha hb hc hd =
    let a2 : product 0x02 a < 256 = twice-lt a ha in
    let b2 : product 0x02 b < 256 = twice-lt b hb in
    let b3 : product 0x03 b < 256 = thrice-lt b hb in
    let c2 : product 0x02 c < 256 = twice-lt c hc in
    let c3 : product 0x03 c < 256 = thrice-lt c hc in
    let d3 : product 0x03 d < 256 = thrice-lt d hd in
    ap (λ (x : ℕ). x ⊕ spread 2 c ⊕ spread 3 d) (xor-word _ _ _ _ _ _ _ _ a2 ha ha b3 b2 hb)
    ∙ ap (λ (x : ℕ). x ⊕ spread 3 d)
    (xor-word _ _ _ _ _ _ _ _ (xor_lt 8 _ _ a2 b3) (xor_lt 8 _ _ ha b2) (xor_lt 8 _ _ ha hb) hc c3 c2)
    ∙ xor-word _ _ _ _ _ _ _ _ (xor_lt 8 _ _ (xor_lt 8 _ _ a2 b3) hc) (xor_lt 8 _ _ (xor_lt 8 _ _ ha b2) c3)
    (xor_lt 8 _ _ (xor_lt 8 _ _ ha hb) c2) hd hd d3
    ∙ word-ext refl (xor-turn a (product 0x02 b) (product 0x03 c) d)
    (xor-turn a b (product 0x02 c) (product 0x03 d) ∙ xor-turn b (product 0x02 c) (product 0x03 d) a)
    (xor-turn (product 0x03 a) b c (product 0x02 d) ∙ xor-turn b c (product 0x02 d) (product 0x03 a)
    ∙ xor-turn c (product 0x02 d) (product 0x03 a) b)
