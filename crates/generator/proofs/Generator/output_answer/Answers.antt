use native.Mathlib.Omega.{arith}
use Rattle.generator.proofs.Laws.{few-blocks}
use Rattle.generator.proofs.Generator.output_answer.Goals as goal

pub overflow_cast-block_count : goal.overflow_cast-block_count
overflow_cast-block_count c = omega (arith, c.block_count.ensures, few-blocks _ (rw c.max_request.ensures at c.if-n-max_request.false))

pub overflow_add-block_count : goal.overflow_add-block_count
overflow_add-block_count c = omega (arith, c.block_count.ensures, few-blocks _ (rw c.max_request.ensures at c.if-n-max_request.false))
