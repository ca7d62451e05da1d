-- Prepared words lead where FIPS 180-4's constants and words lead: 02 (ix).
-- Assumes nothing.
use Rattle.std.proofs.Common.{◌≡◌, ℕ, zero, suc, ◌+◌, ◌%◌, ◌^◌, get_or, sym, refl, ap, ◌∙◌, ap₂, le_refl, add_assoc, zero-add, arith}
use native.Mathlib.Nat.{add-mod-mod, mod-add-mod}
use Rattle.laws.proofs.Tabulate.{get_d_tabulate}
use Rattle.hash.specs.Word.{◌⊞◌, Σ₁, Ch}
use Rattle.hash.specs.Constants.{K}
use Rattle.hash.specs.Block.{schedule, initial_working, T₁, round, rounds, add_working, compress}
use Rattle.hash.specs.Prepared.{prepared_word, prepared, prepared_round, prepared_rounds, prepared_compress}
use Rattle.hash.specs.Statements.{PreparedWords, PreparedRound, PreparedRounds, PreparedCompression}
use Rattle.hash.specs.declared.block.Working.{Working}

-- two numbers added one after the other modulo m are their sum added
sum_added : (m a k w : ℕ) → ((a + k) % m + w) % m ≡ (a + (k + w)) % m
sum_added m a k w = mod-add-mod (a + k) m w ∙ rw add_assoc

-- what a round adds before constant and word
abbrev added_first : Working → ℕ
added_first s = s.h ⊞ Σ₁ s.e ⊞ Ch s.e s.f s.g

-- the first temporary word with no constant left to add
pub temp-sum : (s : Working) (x r : ℕ) → r ≡ added_first s ⊞ x → r ≡ T₁ s 0 x
unfolding T₁
temp-sum s x r e = e ∙ sym (sum_added (2 ^ 32) (added_first s) 0 x ∙ rw zero-add)

same_temp : (s : Working) (k w : ℕ) → T₁ s 0 (k ⊞ w) ≡ T₁ s k w
unfolding T₁
same_temp s k w = sym (temp-sum s (k ⊞ w) _ refl) ∙ add-mod-mod (added_first s) (k + w) (2 ^ 32) ∙ sym (sum_added (2 ^ 32) (added_first s) k w)

pub prepared-round : PreparedRound
unfolding prepared_round round
prepared-round s k w = rw (same_temp s k w)

-- what a round with the prepared word x gives is the standard's for every constant and word of which x is the sum
pub takes-sum :
    (s : Working) (x : ℕ) (r : Working) → r ≡ prepared_round s x →
    (r ≡ prepared_round s x) × ((k w : ℕ) → x ≡ k ⊞ w → r ≡ round s k w)
takes-sum s x r e = (e, λ k w f. e ∙ ap (prepared_round s) f ∙ prepared-round s k w)

pub prepared-words : PreparedWords
unfolding prepared
prepared-words w t h = get_d_tabulate (prepared_word K w) 0 64 t h

pub prepared-rounds : PreparedRounds
unfolding prepared_round prepared_rounds rounds
prepared-rounds w t zero s h = refl
prepared-rounds w t (suc n) s h =
    ap₂ prepared_round (prepared-rounds w t n s (omega arith)) (prepared-words w (t + n) (omega arith))
    ∙ prepared-round (rounds w t n s) (get_or K (t + n) 0) (get_or w (t + n) 0)

pub prepared-compression : PreparedCompression
unfolding prepared_compress compress
prepared-compression h m = ap (add_working h) (prepared-rounds (schedule m 64) 0 64 (initial_working h) (le_refl 64))
