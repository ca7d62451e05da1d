use Rattle.std.proofs.Common.{◌<◌, ◌/◌, length, ◌∙◌, arith}
use Rattle.word_cipher.proofs.Words.{chunk-word}
use Rattle.word_cipher.proofs.word.word_in.Goals as goal

pub returns : goal.returns
returns c =
    let s = c.args.s.now in
    let i = c.args.i in
    let k : i < length s / 4 = omega (arith, c.as_chunks.ensures.front_len) in
    c.from_le_bytes.ensures ∙ rw c.as_chunks.ensures.front (chunk-word _ s i k)
