-- What is proved of the bench's definitions beside its code.
-- Assumes nothing.
use Rattle.std.specs.Prelude.{◌≡◌, true, false, List, [], ◌∷◌, ◌++◌, ℕ, ◌+◌, ◌*◌, ◌≤◌, ◌<◌, length, get_or}
use Rattle.laws.specs.Lists.{joined}
use Rattle.pools.specs.Events.{pool_count}
use Rattle.pools.specs.Calls.{Call, step}
use Rattle.pools.specs.declared.Fortuna.{Fortuna}
use Rattle.bench.specs.Hexadecimal.{digit_value, decode_hex, encode_hex, decimal, all_digits}
use Rattle.bench.specs.Lines.{line_feed}
use Rattle.bench.specs.Input.{lines, transcript, has_line_feed, chunks_printed, start}
use Rattle.bench.specs.Model.{model_transcript}

-- what an input prints is what the reference model works out from its lines
abbrev pub ModelLaw : Type 0
ModelLaw = (input : List ℕ) → transcript input ≡ model_transcript input

-- however an input is cut into chunks, of any sizes, the steps over them and the end print its transcript
abbrev pub ChunksLaw : Type 0
ChunksLaw = (chunks : List (List ℕ)) → chunks_printed start chunks ≡ transcript (joined (λ chunk. chunk) chunks)

-- an empty input has no line; a line feed ends a line; the end of the input ends a line that has a character, and so adds none right after a
-- line feed
pub record LinesLaw : Type 0 where
  pub nothing : lines [] ≡ []
  pub ended : (line rest : List ℕ) → has_line_feed line ≡ false → lines (line ++ (line_feed ∷ rest)) ≡ line ∷ lines rest
  pub last : (line : List ℕ) → has_line_feed line ≡ false → 0 < length line → lines line ≡ line ∷ []

-- whatever is printed in two decimal digits has two, from every state: a call's number, and the pools emptied, which are no more than there are
pub record TwoDigits : Type 0 where
  pub numbers : (s : Fortuna) (c : Call) → (step s c).number ≤ 99
  pub emptied : (s : Fortuna) (c : Call) → (step s c).effect.emptied ≤ pool_count
  pub pools : pool_count ≤ 99
  -- and the two digits stand for the number
  pub digits : (n : ℕ) → n ≤ 99 → all_digits (decimal n) ≡ true
  pub value : (n : ℕ) → n ≤ 99 → 10 * digit_value (get_or (decimal n) 0 0) + digit_value (get_or (decimal n) 1 0) ≡ n

-- the text of bytes stands for those bytes
abbrev pub HexadecimalLaw : Type 0
HexadecimalLaw = (bytes : List ℕ) → ((i : ℕ) → get_or bytes i 0 < 256) → decode_hex (encode_hex bytes) ≡ bytes
