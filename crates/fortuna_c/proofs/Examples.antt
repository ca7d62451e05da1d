-- The row, by computation.
-- Assumes nothing.
use mathlib.Core.Path.{refl}
use Rattle.fortuna_c.specs.PoolStrings.{entry_of, EntriesRow}

pub entries : EntriesRow
unfolding entry_of
entries = refl
