-- What a step promises of the characters that it used, and of those that it printed.
use Rattle.std.proofs.Common.{arith, sym, ap, ◌∙◌, length}
use borrow.Author.Tests.{eqb-false}
use Rattle.std.proofs.Math.ListN.{length-take, length-drop}
use Rattle.bench.proofs.Buffers.{length-overwrite}
use Rattle.bench.proofs.Lines.{used-more, used-fits}
use Rattle.bench_main.proofs.Bench.feed.Goals as goal

pub shared_ref_as_front-write_all : goal.shared_ref_as_front-write_all
shared_ref_as_front-write_all g c = omega (arith, c.loop-rest.invariant, c.step-o.ensures.written, c.step-o.ensures.fits)

pub slice_bounds-rest-count : goal.slice_bounds-rest-count
slice_bounds-rest-count g c = omega (arith, c.step-o.ensures.used, used-fits c.loop-rest.rest.now)

pub slice_bounds-rest-start : goal.slice_bounds-rest-start
slice_bounds-rest-start g c = omega (arith, c.step-o.ensures.used, used-fits c.loop-rest.rest.now)

pub loop-rest-smaller : goal.loop-rest-smaller
loop-rest-smaller g c =
    let rest = c.loop-rest.rest.now in
    let some = eqb-false (length rest) 0 (sym c.is_empty.ensures ∙ c.loop-rest-test.true) in
    let more = used-more rest (omega arith) in
    simp (length-take, length-drop) (omega (arith, c.step-o.ensures.used, more))

pub loop-rest-preserved : goal.loop-rest-preserved
loop-rest-preserved g c = ap (λ l. length l) c.step-o.ensures.shown ∙ length-overwrite _ _ ∙ c.loop-rest.invariant
