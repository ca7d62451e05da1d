use Rattle.std.proofs.Common.{arith}
use Rattle.hash.proofs.Rounds.{rounds-one, rounds-next}
use Rattle.hash.proofs.block.eight_rounds.Goals as goal

pub returns : goal.returns
returns c =
    let given = c.args in
    let p = given.p.now in
    let t = given.t in
    let s = given.s in
    let s1 = rounds-one p t s _ c.round_at-s1.ensures in
    let s2 = rounds-next p t s 1 _ _ _ (omega arith) s1 c.round_at-s2.ensures in
    let s3 = rounds-next p t s 2 _ _ _ (omega arith) s2 c.round_at-s3.ensures in
    let s4 = rounds-next p t s 3 _ _ _ (omega arith) s3 c.round_at-s4.ensures in
    let s5 = rounds-next p t s 4 _ _ _ (omega arith) s4 c.round_at-s5.ensures in
    let s6 = rounds-next p t s 5 _ _ _ (omega arith) s5 c.round_at-s6.ensures in
    let s7 = rounds-next p t s 6 _ _ _ (omega arith) s6 c.round_at-s7.ensures in
    rounds-next p t s 7 _ _ _ (omega arith) s7 c.round_at.ensures
