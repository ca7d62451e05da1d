use mathlib.Core.Path.{◌∙◌, ap}
use lib.ListN.{length}
use Rattle.hash.specs.Answers.{number}
use Rattle.hash.specs.Sha256.{sha256}
use Rattle.hash.specs.ShaD.{max_message}
use Rattle.hash.proofs.Laws.{number-of-within}
use Rattle.fortuna_c.proofs.Buffers.{stored}
use Rattle.fortuna_c.proofs.sha256.fortuna_sha256.Goals as goal

pub returns : goal.returns
returns c =
    let m = c.args.«data».now in
    let (n, d) = c.handed_out.ensures in (
      n ∙ ap number c.sha256.ensures ∙ number-of-within max_message (length m) (sha256 m),
      stored max_message (length m) (sha256 m) _ _ _ c.sha256.ensures d,
    )
