use mathlib.Core.Path.{◌≡◌, refl, sym, ap, ◌∙◌}
use Prim.Native.Nat.{ℕ, ◌≤◌}
use mathlib.Core.List.{List}
use native.Mathlib.Omega.{arith}
use lib.ListN.{length, take, replicate, length-append}
use borrow.Author.Rules.{rules}
use Rattle.pools.specs.Calls.{request}
use Rattle.bench.specs.Buffers.{zeros}
use Rattle.bench.proofs.Buffers.{front-zeros, length-front-zeros, length_back, front-back, length-front-back}
use Rattle.bench.proofs.Executed.{request-lends, emptied-small, output-prints}
use Rattle.bench.proofs.line.request_line.Goals as goal

-- the buffer that is lent
abbrev blank : List ℕ
blank = replicate 65535 0

blank-is : blank ≡ zeros 65535
unfolding zeros
blank-is = refl

pub slice_bounds-random_data-end : goal.slice_bounds-random_data-end
slice_bounds-random_data-end c =
    let fits : c.from-n.result ≤ 65535 = search rules in
    sym (length-front-zeros c.from-n.result 65535 blank fits blank-is)

pub slice_bounds-bytes-end-2 : goal.slice_bounds-bytes-end-2
slice_bounds-bytes-end-2 c =
    let fits : c.from-n.result ≤ 65535 = search rules in
    let call = c.random_data-outcome in
    simp length-append (omega (arith, length_back c.from-n.result 65535 blank fits blank-is call.new.out call.auto.out))

pub slice_bounds-output_line-end : goal.slice_bounds-output_line-end
slice_bounds-output_line-end c =
    let fits : c.from-n.result ≤ 65535 = search rules in
    let call = c.random_data-outcome in
    sym (length-front-back c.from-n.result 65535 blank fits blank-is call.new.out call.auto.out)

pub output_line-requires : goal.output_line-requires
output_line-requires c =
    let n = c.from-n.result in
    let fits : n ≤ 65535 = search rules in
    let a = c.args in
    let call = c.random_data-outcome in
    let e : take n blank ≡ zeros a.count = front-zeros n 65535 blank fits blank-is ∙ ap zeros c.from-n.ensures in (
      emptied-small a.state (request a.clock (zeros a.count)) call.result (rw e at call.ensures.0),
      omega (arith, fits, length-front-back n 65535 blank fits blank-is call.new.out call.auto.out),
    )

pub returns : goal.returns
returns c =
    let n = c.from-n.result in
    let fits : n ≤ 65535 = search rules in
    let a = c.args in
    let call = c.random_data-outcome in
    let back = call.new.out in
    let e : take n blank ≡ zeros a.count = front-zeros n 65535 blank fits blank-is ∙ ap zeros c.from-n.ensures in
    let f = front-back n 65535 blank fits blank-is back call.auto.out in
    let full : length a.out.now ≡ 131077 = search rules in
    output-prints a.state (request a.clock (zeros a.count)) call.result back _ a.out.now _
    (request-lends a.clock (zeros a.count))
    (rw e at call.ensures)
    (omega (arith, fits, full, length_back n 65535 blank fits blank-is back call.auto.out))
    (rw f at c.output_line.ensures)
