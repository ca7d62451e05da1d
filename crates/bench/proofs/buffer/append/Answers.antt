use native.Mathlib.Omega.{arith}
use Rattle.bench.specs.Buffers.{held_after}
use Rattle.bench.proofs.Buffers.{appended-part}
use Rattle.bench.proofs.buffer.append.Goals as goal

pub returns : goal.returns
unfolding held_after
returns c =
    (appended-part c.args.buffer.now c.args.held c.args.more.now _ c.min-held.ensures _ c.overwrite.ensures, omega arith)
