use Rattle.std.proofs.Common.{◌≡◌, ◌+◌, drop}
use Rattle.quotas.specs.Records.{place_of, place_from}
use Rattle.quotas.proofs.find.Given as goal

-- the place is that of the source in the records from i on, i further; `from` may be past the end
abbrev pub invariant-loop-i : goal.invariant-loop-i
invariant-loop-i l = place_from l.list l.source l.from ≡ l.i + place_of (drop l.i l.list) l.source
