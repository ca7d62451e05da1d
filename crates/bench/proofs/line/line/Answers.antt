use mathlib.Core.Path.{ap}
use native.Mathlib.Omega.{arith}
use lib.ListN.{length}
use Rattle.bench.proofs.Hexadecimal.{length-decode}
use Rattle.bench.proofs.Texts.{unreadable-line, readable-line, readable-short}
use Rattle.bench.proofs.line.line.Goals as goal

pub execute-requires : goal.execute-requires
execute-requires c =
    let t = c.args.text.now in
    let some = c.in-Some.ensures.some in
    omega (arith, ap (λ l. length l) some.1, length-decode t, readable-short t some.0)

pub returns-in-Some : goal.returns-in-Some
returns-in-Some c =
    let a = c.args in
    let some = c.in-Some.ensures.some in
    rw (readable-line a.state a.text.now some.0) (rw some.1 at c.execute.ensures)

pub returns-in-None : goal.returns-in-None
returns-in-None c =
    let a = c.args in
    rw (unreadable-line a.state a.text.now c.in-None.ensures.none) c.invalid_line.ensures
