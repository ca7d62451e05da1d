use mathlib.Core.Path.{◌∙◌, ap}
use lib.ListN.{length}
use Rattle.hash.specs.Answers.{number}
use Rattle.hash.specs.ShaD.{max_d_message, D}
use Rattle.hash.proofs.Laws.{number-of-within}
use Rattle.fortuna_c.proofs.Buffers.{stored}
use Rattle.fortuna_c.proofs.sha256.fortuna_sha_d256.Goals as goal

pub returns : goal.returns
returns c =
    let m = c.args.«data».now in
    let (n, d) = c.handed_out.ensures in (
      n ∙ ap number c.sha_d256.ensures ∙ number-of-within max_d_message (length m) (D m),
      stored max_d_message (length m) (D m) _ _ _ c.sha_d256.ensures d,
    )
