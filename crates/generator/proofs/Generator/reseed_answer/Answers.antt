use Rattle.hash.proofs.Laws.{d-message-room}
use lib.Dec.{lit≤}
use Rattle.generator.proofs.Generator.reseed_answer.Goals as goal

pub overflow_sub-max_d_message : goal.overflow_sub-max_d_message
overflow_sub-max_d_message c = rw c.max_d_message.ensures (d-message-room 32 (lit≤ tt))
