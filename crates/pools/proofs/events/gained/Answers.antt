use Rattle.std.proofs.Common.{◌+◌, ◌-◌, length}
use Rattle.pools.specs.Events.{max_source}
use Rattle.pools.proofs.Gains.{event-stored, gained-is}
use Rattle.pools.proofs.events.gained.Goals as goal

pub returns : goal.returns
unfolding max_source
returns c =
    let source = c.args.source in
    let d = c.args.«data».now in
    let n = length d in
    let bytes = event-stored source d c.copy_from_slice.new.self c.copy_from_slice-2.new.self _ (3 + n - 3) c.requires.0
    (rw c.to_le_bytes.ensures at c.copy_from_slice.ensures.after) c.copy_from_slice-2.ensures.after in
    gained-is _ _ _ source d bytes c.requires.2 c.absorb.ensures.1
