use Rattle.std.proofs.Common.{◌∙◌}
use Rattle.hash.proofs.BigEndian.{length-bytes}
use Rattle.hash.proofs.bytes.length_bytes.Goals as goal

pub returns : goal.returns
returns c = c.to_be_bytes.ensures ∙ length-bytes c.args.count
