use mathlib.Core.Path.{◌≡◌, sym, ◌∙◌}
use native.Mathlib.Nat.{add-zero}
use native.Mathlib.Omega.{arith}
use lib.ListN.{length, get_or}
use borrow.Author.Rules.{rules}
use borrow.Author.Tests.{tests}
use Rattle.bench.specs.Lines.{line_feed}
use Rattle.bench.proofs.Lines.{first-at, first_past, first-end}
use Rattle.bench.proofs.input.line_length.Goals as goal

pub returns-then-ends : goal.returns-then-ends
returns-then-ends c =
    let chunk = c.args.chunk.now in
    let i = c.loop-i.i in
    let feed : get_or chunk i 0 ≡ line_feed = search (rules, tests) in
    omega (arith, c.loop-i.invariant, first-at chunk i c.loop-i-test.true feed)

pub loop-i-preserved : goal.loop-i-preserved
loop-i-preserved c =
    let chunk = c.args.chunk.now in
    let i = c.loop-i.i in
    let other : get_or chunk i 0 ≡ line_feed → ⊥ = search (rules, tests) in
    omega (arith, c.loop-i.invariant, first_past chunk i c.loop-i-test.true other)

pub returns : goal.returns
returns c =
    let chunk = c.args.chunk.now in
    let all : c.loop-i.i ≡ length chunk = omega arith in
    sym (c.loop-i.invariant ∙ rw (all, first-end chunk) (add-zero (length chunk)))
