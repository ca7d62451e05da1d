-- The call that a line makes, what is printed of its outcome, and both together on a state.
-- Assumes nothing.
use Rattle.std.specs.Prelude.{◌≡◌, cond, List, [], ◌∷◌, ◌++◌, ℕ, ◌≤◌, eqb, length, drop, Option, Some, None}
use Rattle.laws.specs.Lists.{overwrite}
use Rattle.pools.specs.Refusals.{seed_size}
use Rattle.pools.specs.Calls.{Call, event, request, update, write, draw, shuffle, Outcome, step}
use Rattle.pools.specs.declared.Fortuna.{Fortuna}
use Rattle.bench.specs.Hexadecimal.{decode_hex, encode_hex, decimal}
use Rattle.bench.specs.Frames.{frame_of_text, header_length}
use Rattle.bench.specs.Buffers.{zeros}
use Rattle.bench.specs.declared.frame.Frame.{Frame}
use Rattle.bench.specs.declared.frame.Frame.TheVariants.{Event, Request, Update, Write, WideEvent}
use Rattle.bench.specs.declared.line.LineOutcome.{LineOutcome}

-- ---- the call

-- the call that a frame of these bytes makes; what is no frame makes none
unfoldable pub call_of : Option Frame → List ℕ → Option Call
call_of (Some (Event source pool)) bytes = Some (event source pool (drop (header_length (Event source pool)) bytes))
call_of (Some (Request clock count)) bytes = Some (request clock (zeros count))
call_of (Some (Update clock)) bytes = Some (update clock (drop (header_length (Update clock)) bytes))
call_of (Some (Write clock)) bytes = Some (write clock (zeros seed_size))
call_of (Some (WideEvent source pool)) bytes = Some (event source pool (drop (header_length (WideEvent source pool)) bytes))
call_of None bytes = None

-- the call that a line of text makes
unfoldable pub line_call : List ℕ → Option Call
line_call text = call_of (frame_of_text text) (decode_hex text)

-- ---- what is printed

-- the characters between the parts of a line and at its end
abbrev pub space : ℕ
space = 32

abbrev pub line_feed : ℕ
line_feed = 10

-- the number of a line that is no frame
abbrev pub no_frame : ℕ
no_frame = 16

-- a number alone
unfoldable pub number_line : ℕ → List ℕ
number_line number = decimal number ++ (line_feed ∷ [])

-- a space and the bytes, or nothing where there are none
unfoldable pub spaced : List ℕ → List ℕ
spaced [] = []
spaced (b ∷ bytes) = space ∷ encode_hex (b ∷ bytes)

-- a refusal's number alone; after 00 the pools emptied, and the bytes
unfoldable pub output_line : ℕ → ℕ → List ℕ → List ℕ
output_line number emptied bytes =
    cond (eqb number 0)
    (decimal number ++ (space ∷ []) ++ decimal emptied ++ spaced bytes ++ (line_feed ∷ []))
    (number_line number)

-- what is printed of a call, by its number, the pools emptied, and what the lent buffer then holds; no frame draws or shuffles
unfoldable pub answer_line : Call → ℕ → ℕ → List ℕ → List ℕ
answer_line (event source pool content) number emptied buffer = number_line number
answer_line (request clock before) number emptied buffer = output_line number emptied buffer
answer_line (update clock seed) number emptied buffer = output_line number emptied buffer
answer_line (write clock seed) number emptied buffer = output_line number emptied buffer
answer_line (draw clock n d) number emptied buffer = number_line number
answer_line (shuffle clock list) number emptied buffer = number_line number

-- of an outcome; the state in it is not read
unfoldable pub outcome_line : {S : Type 0} → Call → Outcome S → List ℕ
outcome_line c o = answer_line c o.number o.effect.emptied o.effect.buffer

-- ---- a line on a state

-- the state after a line, and what the line prints
pub record LineEffect : Type 0 where
  pub next : Fortuna
  pub printed : List ℕ

-- a line's call, executed; no call is made for what is no frame
unfoldable pub executed : Fortuna → Option Call → LineEffect
executed s None = record { next = s; printed = number_line no_frame }
executed s (Some c) = record { next = (step s c).effect.next; printed = outcome_line c (step s c) }

-- a line of text on a state
unfoldable pub line_of : Fortuna → List ℕ → LineEffect
line_of s text = executed s (line_call text)

-- ---- what the code promises

-- a function writes a line at the front of a buffer, and returns how many characters it has
abbrev pub Shown : List ℕ → ℕ → List ℕ → List ℕ → Type 0
Shown line n before after = (n ≡ length line) × (after ≡ overwrite before line)

-- a function prints a line: it returns the next state and how many characters it wrote at the front of the buffer, where they fit
pub record Prints (o : LineEffect) (r : LineOutcome) (before after : List ℕ) : Type 0 where
  pub next : r.next ≡ o.next
  pub written : r.written ≡ length o.printed
  pub fits : length o.printed ≤ length before
  pub shown : after ≡ overwrite before o.printed
