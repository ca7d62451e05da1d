-- A line that is too long for any frame, whatever follows its front.
-- Assumes nothing.
use mathlib.Core.Path.{◌≡◌, ap, ◌∙◌}
use mathlib.Core.List.{[], ◌++◌}
use Prim.Native.Nat.{ℕ, ◌+◌, ◌<◌}
use native.Mathlib.Omega.{arith}
use lib.ListN.{length, drop, length-append}
use Rattle.bench.specs.Input.{first_line, used_by}
use Rattle.bench.proofs.Lines.{first-append}
use Rattle.bench.proofs.Texts.{too_long}
use Rattle.convert.specs.Texts.{text_number}
use Rattle.convert.specs.Logs.{log_lines, refusal_of, converted_lines, conversion}
use Rattle.convert.specs.Promises.{first_of}
use Rattle.convert.specs.Statements.{LongLineLaw}
use Rattle.convert.proofs.TextNumbers.{stray-text}
use Rattle.convert.proofs.LogLines.{lines-first}
use Rattle.convert.proofs.Conversions.{refusal-text, stops}

pub long-line : LongLineLaw
unfolding conversion
long-line wide room text rest e h =
    let log = text ++ rest in
    let behind = log_lines (drop (used_by log) log) in
    let size : length (first_line log) ≡ length text + length (first_line rest) =
    ap length (first-append text rest e) ∙ length-append text (first_line rest) in
    let some : 0 < length log = omega (arith, h, length-append text rest) in
    let stray : text_number wide (first_line log) ≡ 16 = (stray-text wide (first_line log)).1 (too_long (first_line log) (omega (arith, h, size))) in
    let number : refusal_of wide room (first_of log) ≡ 16 = refusal-text wide room (first_of log) (λ z. omega (arith, stray, z)) ∙ stray in
    ap (converted_lines wide room 1) (lines-first log some)
    ∙ stops wide room 1 (first_of log) behind (λ z. omega (arith, number, z)) ∙ ap (λ (n : ℕ). record { written = []; number = n; line = 1 }) number
