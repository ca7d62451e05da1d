use mathlib.Core.Path.{sym, ap, ◌∙◌}
use lib.Seq.{length-take-le}
use borrow.Author.Rules.{rules}
use borrow.Author.Tests.{tests}
use Rattle.std.specs.Slice.Iter.{split_inclusive_rest}
use Rattle.bench.proofs.Logs.{no-part, part-lines, logged_none, logged-more, logged-all, prints-fit}
use Rattle.bench.proofs.log.log.Goals as goal

pub loop-part-init : goal.loop-part-init
loop-part-init c =
    let is = ap (λ t. split_inclusive_rest t) c.into_iter-part-iterator.ensures.into_iter_gives ∙ c.split_inclusive-part-items.ensures.rest in
    rw is (logged_none c.args.input.now c.args.out.now _ c.new-state.ensures)

pub slice_bounds-printed-end : goal.slice_bounds-printed-end
slice_bounds-printed-end c = prints-fit c.line-o.ensures

pub slice_bounds-append-end : goal.slice_bounds-append-end
slice_bounds-append-end c =
    let o = c.line-o in
    sym (length-take-le o.result.written o.new.out (prints-fit o.ensures))

pub loop-part-preserved : goal.loop-part-preserved
loop-part-preserved c =
    let x = c.loop-part in
    let first = part-lines _ _ x.part-iterator c.next.new.self x.yielded x.yielded_by (λ x b q k. search (rules, tests)) _ _ c.in-Some.is c.next.ensures.steps
    c.strip_suffix.result c.strip_suffix.ensures.cases in
    logged-more c.args.input.now c.args.out.now x.out x.state _ x.stored x.invariant _ _ _ _ _ _ _
    (rw (← c.unwrap_or-text.ensures) at first) c.line-o.ensures c.append-stored.ensures

pub returns : goal.returns
returns c =
    let x = c.loop-part in
    let none = no-part _ x.part-iterator c.next.new.self _ c.in-None.is c.next.ensures.steps in
    logged-all c.args.input.now c.args.out.now x.out x.state _ x.stored x.invariant none
