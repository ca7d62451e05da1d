use mathlib.Core.Path.{◌≡◌}
use native.Mathlib.Omega.{arith}
use lib.ListN.{length}
use borrow.Author.Rules.{rules}
use Rattle.bench.proofs.Steps.{finishes-none, finishes-some}
use Rattle.bench.proofs.input.Session.finish.Goals as goal

pub returns-then-self-eq0 : goal.returns-then-self-eq0
returns-then-self-eq0 c =
    let a = c.args in
    finishes-none a.self.now a.out.now c.if-self-eq0.true

pub returns : goal.returns
returns c =
    let a = c.args in
    let full : length a.self.now.text ≡ 259 = search rules in
    finishes-some a.self.now _ a.out.now _ c.line.result c.if-self-eq0.false (omega arith) c.front.ensures c.line.ensures
