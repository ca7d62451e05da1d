use mathlib.Core.Path.{sym, ◌∙◌}
use Prim.Native.Nat.{◌^◌, ◌<◌}
use native.Mathlib.Omega.{arith}
use lib.ListN.{length}
use lib.Seq.{length-take-le}
use borrow.Author.Rules.{rules}
use Rattle.bench.proofs.Lines.{first_fits}
use Rattle.bench.proofs.Steps.{feed-some, steps_on, steps-ended}
use Rattle.bench.proofs.input.Session.step.Goals as goal

pub slice_bounds-append-end-2 : goal.slice_bounds-append-end-2
slice_bounds-append-end-2 c =
    let n = c.line_length-n in
    let chunk = c.args.chunk.now in
    sym (length-take-le n.result chunk (rw n.ensures (first_fits chunk)))

pub returns-then-n-chunk : goal.returns-then-n-chunk
returns-then-n-chunk c =
    let a = c.args in
    let n = c.line_length-n in
    steps_on a.self.now a.chunk.now n.result _ _ n.ensures c.append-self.ensures a.out.now c.if-n-chunk.true

pub overflow_add-result : goal.overflow_add-result
overflow_add-result c =
    let fits : length c.args.chunk.now < 2 ^ 64 = search rules in
    let n = c.line_length-n in
    let more = feed-some c.args.chunk.now (λ e. c.if-n-chunk.false (n.ensures ∙ e)) in
    omega (arith, fits, n.ensures, more.1)

pub returns : goal.returns
returns c =
    let a = c.args in
    let n = c.line_length-n in
    steps-ended a.self.now a.chunk.now n.result _ _ n.ensures c.append-self.ensures
    _ a.out.now _ c.line-o.result c.if-n-chunk.false c.front.ensures c.line-o.ensures
