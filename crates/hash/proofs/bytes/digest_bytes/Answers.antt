use Rattle.std.proofs.Common.{rules}
use Rattle.laws.proofs.Tabulate.{made-by}
use Rattle.hash.proofs.BigEndian.{word-byte}
use Rattle.hash.proofs.bytes.digest_bytes.Goals as goal

pub returns : goal.returns
returns c = made-by _ _ 0 _ _ (λ i y q k. search (rules, word-byte c.args.h i)) _ c.from_fn.ensures.items
