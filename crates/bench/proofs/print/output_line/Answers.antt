use mathlib.Core.Path.{◌≡◌, refl, sym, ◌∙◌}
use native.Mathlib.Omega.{arith}
use lib.ListN.{length}
use borrow.Author.Rules.{rules}
use borrow.Author.Tests.{eqb-true, eqb-false}
use Rattle.std.specs.Prelude.{Ok}
use Rattle.bench.proofs.Printing.{refused-shown, done-shown, output-none, output-some}
use Rattle.bench.proofs.print.output_line.Goals as goal

pub returns-in-Err : goal.returns-in-Err
returns-in-Err c =
    let o = c.args.outcome.now in
    refused-shown o.answer o.emptied c.args.bytes.now _ c.args.out.now _ _ c.in-Err.is (rw c.number.ensures at c.number_line.ensures)

pub returns-then-is_empty : goal.returns-then-is_empty
returns-then-is_empty c =
    let o = c.args.outcome.now in
    let bytes = c.args.bytes.now in
    let done : o.answer ≡ Ok tt = search rules in
    let none = eqb-true (length bytes) 0 (sym c.is_empty.ensures ∙ c.if-is_empty.true) in
    done-shown o.answer o.emptied bytes _ c.args.out.now _ done
    (rw (output-none o.emptied bytes none) (refl, rw (c.decimal_digit-tens.ensures, c.decimal_digit-ones.ensures) at c.overwrite.ensures))

pub returns : goal.returns
returns c =
    let o = c.args.outcome.now in
    let bytes = c.args.bytes.now in
    let done : o.answer ≡ Ok tt = search rules in
    let some = eqb-false (length bytes) 0 (sym c.is_empty.ensures ∙ c.if-is_empty.false) in
    let full : length c.args.out.now ≡ 131077 = search rules in
    let long : length c.overwrite-2.new.out ≡ 131077 = search rules in
    done-shown o.answer o.emptied bytes _ c.args.out.now _ done
    (output-some o.emptied bytes c.args.out.now _ _ 131071 some (omega (arith, c.requires.1, full)) (omega (arith, long))
    (rw (c.decimal_digit-tens.ensures, c.decimal_digit-ones.ensures) at c.overwrite-2.ensures)
    c.encode.ensures)
