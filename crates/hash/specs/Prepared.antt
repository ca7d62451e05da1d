-- SHA-256 from prepared words, which have the round's constant in them already (02 (ix)). FIPS 180-4's own round and compression
-- stand in Block.antt; that these lead to the same is `PreparedWords` to `PreparedCompression` in Statements.antt.
-- Assumes nothing.
use Rattle.std.specs.Prelude.{ℕ, zero, suc, ◌+◌, List, slice_index, slice_index_or}
use Rattle.laws.specs.Lists.{tabulate}
use Rattle.hash.specs.Word.{◌⊞◌}
use Rattle.hash.specs.Block.{initial_working, round, add_working}
use Rattle.hash.specs.declared.block.Working.{Working}

-- the word that round t takes, with the constants k and the schedule w: constant and word as one sum modulo 2 ^ 32
abbrev pub prepared_word : List ℕ → List ℕ → ℕ → ℕ
prepared_word k w t = slice_index_or k t 0 ⊞ slice_index_or w t 0

-- the 64 prepared words, with the constants k and the schedule w
unfoldable pub prepared : List ℕ → List ℕ → List ℕ
prepared k w = tabulate (prepared_word k w) 64

-- one round with the prepared word x: the standard's, where x is the word and nothing is left for the constant
unfoldable pub prepared_round : Working → ℕ → Working
prepared_round s x = round s 0 x

-- n rounds with the prepared words p, the first of them round t
unfoldable pub prepared_rounds : List ℕ → ℕ → ℕ → Working → Working
prepared_rounds p t zero s = s
prepared_rounds p t (suc n) s = prepared_round (prepared_rounds p t n s) (slice_index p (t + n))

-- the next hash value, from the hash value h and a block's prepared words p
unfoldable pub prepared_compress : List ℕ → List ℕ → List ℕ
prepared_compress h p = add_working h (prepared_rounds p 0 64 (initial_working h))
