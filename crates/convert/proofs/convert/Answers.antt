use mathlib.Core.Path.{◌≡◌, ap, ◌∙◌}
use Prim.Native.Nat.{◌^◌, ◌<◌}
use native.Mathlib.Omega.{arith}
use lib.ListN.{length}
use borrow.Author.Rules.{rules}
use borrow.Author.Tests.{tests}
use Rattle.std.specs.Prelude.{Ok, Err}
use Rattle.std.specs.Slice.Iter.{split_inclusive_rest}
use Rattle.bench.proofs.Logs.{no-part}
use Rattle.convert.proofs.Walks.{walked_none, part-first, given-first, walk-on, walk-stops, walk_ends}
use Rattle.convert.proofs.convert.Goals as goal

pub loop-part-init : goal.loop-part-init
loop-part-init c =
    let is = ap (λ t. split_inclusive_rest t) c.into_iter-part-iterator.ensures.into_iter_gives ∙ c.split_inclusive-part-items.ensures.rest in
    rw is (walked_none _ _ _)

pub overflow_add-written : goal.overflow_add-written
overflow_add-written c =
    let fits : length c.args.out.now < 2 ^ 64 = search rules in
    let x = c.loop-part in
    let first = part-first _ _ x.part-iterator c.next.new.self x.yielded x.yielded_by (λ x b q k. search (rules, tests)) _ _ c.in-Some.is c.next.ensures.steps
    c.strip_suffix.result c.strip_suffix.ensures.cases _ c.unwrap_or-text.ensures in
    let taken : c.convert_line.result ≡ Ok c.in-Ok.n = search (rules, tests) in
    let w = walk-on c.args.wide c.args.log.now c.args.out.now x.out _ x.line x.written x.invariant _ _ _ _ _ _ c.convert_line.ensures
    (given-first _ _ _ _ _ _ first (search (rules, tests)) (search (rules, tests))) _ taken in
    omega (arith, w.room, fits)

pub returns-in-Err : goal.returns-in-Err
returns-in-Err c =
    let x = c.loop-part in
    let first = part-first _ _ x.part-iterator c.next.new.self x.yielded x.yielded_by (λ x b q k. search (rules, tests)) _ _ c.in-Some.is c.next.ensures.steps
    c.strip_suffix.result c.strip_suffix.ensures.cases _ c.unwrap_or-text.ensures in
    let refused : c.convert_line.result ≡ Err c.in-Err.refusal = search (rules, tests) in
    walk-stops c.args.wide c.args.log.now c.args.out.now x.out _ x.line x.written x.invariant _ _ _ _ _ _ c.convert_line.ensures
    (given-first _ _ _ _ _ _ first (search (rules, tests)) (search (rules, tests))) _ refused

pub loop-part-preserved : goal.loop-part-preserved
loop-part-preserved c =
    let x = c.loop-part in
    let first = part-first _ _ x.part-iterator c.next.new.self x.yielded x.yielded_by (λ x b q k. search (rules, tests)) _ _ c.in-Some.is c.next.ensures.steps
    c.strip_suffix.result c.strip_suffix.ensures.cases _ c.unwrap_or-text.ensures in
    let taken : c.convert_line.result ≡ Ok c.in-Ok.n = search (rules, tests) in
    walk-on c.args.wide c.args.log.now c.args.out.now x.out _ x.line x.written x.invariant _ _ _ _ _ _ c.convert_line.ensures
    (given-first _ _ _ _ _ _ first (search (rules, tests)) (search (rules, tests))) _ taken

pub returns : goal.returns
returns c =
    let x = c.loop-part in
    let none = no-part _ x.part-iterator c.next.new.self _ c.in-None.is c.next.ensures.steps in
    walk_ends _ _ _ _ _ _ _ x.invariant none
