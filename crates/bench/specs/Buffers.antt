-- Buffers of which the first places are in use.
-- Assumes nothing.
use Rattle.std.specs.Prelude.{List, ◌++◌, ℕ, ◌+◌, min, length, take, drop, replicate}
use Rattle.laws.specs.Lists.{overwrite}

-- n zeros
unfoldable pub zeros : ℕ → List ℕ
zeros n = replicate n 0

-- more characters after the first `held`: what does not fit is left out
unfoldable pub appended : List ℕ → ℕ → List ℕ → List ℕ
appended buffer held more = take held buffer ++ overwrite (drop held buffer) more

-- how many are then held
unfoldable pub held_after : List ℕ → ℕ → List ℕ → ℕ
held_after buffer held more = min (held + length more) (length buffer)
