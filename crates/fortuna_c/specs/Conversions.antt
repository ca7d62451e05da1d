-- What a conversion leaves with C.
-- Assumes nothing.
use Rattle.std.specs.Prelude.{◌≡◌, List, ℕ, ◌≤◌, length}
use Rattle.laws.specs.Lists.{overwrite}
use Rattle.convert.specs.Logs.{Conversion}
use Rattle.fortuna_c.specs.declared.call_logs.FortunaConversion.{FortunaConversion}

-- the number, the refused line, how many bytes were written, and the buffer with them at its front, where they fit
abbrev pub LeavesConverted : Conversion → FortunaConversion → List ℕ → List ℕ → Type 0
LeavesConverted c r before after =
    (r.number ≡ c.number) × (r.line ≡ c.line) × (r.written ≡ length c.written)
    × (length c.written ≤ length before) × (after ≡ overwrite before c.written)
