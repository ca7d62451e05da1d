use Rattle.std.proofs.Common.{◌^◌, ◌<◌, sym, rules}
use Rattle.hash.proofs.Bitwise.{maj-same}
use Rattle.hash.proofs.word.majority.Goals as goal

pub returns : goal.returns
returns c =
    let hx : c.args.x < 2 ^ 32 = search rules in
    let hy : c.args.y < 2 ^ 32 = search rules in
    let hz : c.args.z < 2 ^ 32 = search rules in
    sym (maj-same 32 c.args.x c.args.y c.args.z hx hy hz)
