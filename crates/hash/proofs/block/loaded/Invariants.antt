use Rattle.std.proofs.Common.{◌≡◌, length, take}
use Rattle.hash.specs.Block.{schedule}
use Rattle.hash.proofs.block.loaded.Given as goal

abbrev pub invariant-loop-t : goal.invariant-loop-t
invariant-loop-t l = (length l.w ≡ 64) × (take l.t l.w ≡ schedule l.fn.block l.t)
