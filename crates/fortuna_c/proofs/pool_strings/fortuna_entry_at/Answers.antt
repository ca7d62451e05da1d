use mathlib.Core.Path.{ap, ◌∙◌}
use Rattle.fortuna_c.specs.PoolStrings.{entry_of}
use Rattle.fortuna_c.proofs.pool_strings.fortuna_entry_at.Goals as goal

pub returns : goal.returns
returns c =
    let a = c.args in
    c.entry_of.ensures ∙ ap (entry_of a.place) c.entry_at.ensures
