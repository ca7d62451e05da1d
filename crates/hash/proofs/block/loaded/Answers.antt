use Rattle.std.proofs.Common.{◌≡◌, ◌<◌, ◌∙◌, refl, arith, length-set}
use Rattle.hash.specs.Block.{block_word, schedule}
use Rattle.hash.proofs.Schedule.{chunk-word, more-block}
use Rattle.hash.proofs.block.loaded.Goals as goal

pub loop-t-init : goal.loop-t-init
unfolding schedule
loop-t-init c = (refl, refl)

pub loop-t-preserved : goal.loop-t-preserved
loop-t-preserved c =
    let l = c.loop-t in
    let m = c.args.block.now in
    let t : l.t < 16 = omega (arith, c.loop-t-test.true, c.as_chunks.ensures.front_len, c.told-block) in
    let word : c.from_be_bytes.result ≡ block_word m l.t = c.from_be_bytes.ensures ∙ rw (c.as_chunks.ensures.front, c.told-block) (chunk-word m l.t t) in
    (simp length-set l.invariant.0, rw word (more-block m l.w l.t (omega arith) l.invariant.1 t))

pub returns : goal.returns
returns c =
    let t : c.loop-t.t ≡ 16 = omega (arith, c.loop-t.auto.t-end, c.loop-t-test.false, c.as_chunks.ensures.front_len, c.told-block) in
    rw t at c.loop-t.invariant.1
