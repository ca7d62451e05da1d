use Rattle.std.proofs.Common.{◌∙◌, rules}
use Rattle.hash.proofs.Absorb.{finish-one, finish-two}
use Rattle.hash.proofs.hasher.finished.Goals as goal

pub returns-then-at-lt56 : goal.returns-then-at-lt56
returns-then-at-lt56 c =
    let r = c.args.r.now in
    c.digest_bytes.ensures
    ∙ rw (c.compress.ensures, c.with_length-last.ensures, c.filled-marked.ensures)
    (finish-one r (search rules) (search rules))

pub returns : goal.returns
returns c =
    let r = c.args.r.now in
    c.digest_bytes-2.ensures
    ∙ rw (c.compress-3.ensures, c.with_length-last-2.ensures, c.compress-2.ensures, c.filled-marked.ensures)
    (finish-two r (search rules) (search rules))
