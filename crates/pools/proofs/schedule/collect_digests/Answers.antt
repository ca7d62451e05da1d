use Rattle.std.proofs.Common.{◌≡◌, ◌+◌, ◌-◌, ◌*◌, ◌<◌, true, drop, length, length-take-le, ◌∙◌, arith, lt-ltb, rules}
use Rattle.std.proofs.lemmas.List.{take-append-drop, set-append_left}
use Rattle.hash.specs.ShaD.{pool_digest}
use Rattle.pools.specs.Schedule.{used}
use Rattle.pools.specs.Collected.{nth}
use Rattle.pools.proofs.Prefix.{used-first}
use Rattle.pools.proofs.Collecting.{taken_none, nth-front, next-digest, taken_more, taken-all}
use Rattle.pools.proofs.schedule.collect_digests.Goals as goal

pub loop-i-init : goal.loop-i-init
loop-i-init c =
    rw (take-append-drop c.min-count.result c.args.pools.now)
    (taken_none c.args.pools.now c.args.number c.args.seed.now c.told-pools c.told-seed)

pub unwrap-digest-requires : goal.unwrap-digest-requires
unfolding nth
unwrap-digest-requires c =
    let at = c.loop-i in
    let pools = c.args.pools.now in
    let count = c.min-count.result in
    let turns = length-take-le count pools (omega (arith, c.min-count.ensures)) in
    let below : at.i < 32 = omega (arith, c.min-count.ensures, c.loop-i-test.true) in
    let inside : at.i < length at.pool-items = omega (arith, c.loop-i-test.true, at.auto.pool-items) in
    rw (next-digest pools c.args.number at.i _ at.seed c.pool_digest.result at.invariant below c.told-pools c.requires
    (rw (nth-front at.pool-items (drop count pools) at.i inside) c.pool_digest.ensures))
    (search rules)

pub loop-i-preserved : goal.loop-i-preserved
unfolding nth
loop-i-preserved c =
    let at = c.loop-i in
    let pools = c.args.pools.now in
    let n = c.args.number in
    let count = c.min-count.result in
    let turns = length-take-le count pools (omega (arith, c.min-count.ensures)) in
    let below : at.i < 32 = omega (arith, c.min-count.ensures, c.loop-i-test.true) in
    let taken : at.i < count = omega (arith, c.loop-i-test.true) in
    let inside : at.i < length at.pool-items = omega (arith, c.loop-i-test.true, at.auto.pool-items) in
    let test : used n at.i ≡ true = used-first n count at.i c.min-count.ensures below ∙ lt-ltb at.i count taken in
    let given = next-digest pools n at.i _ at.seed c.pool_digest.result at.invariant below c.told-pools c.requires
    (rw (nth-front at.pool-items (drop count pools) at.i inside) c.pool_digest.ensures) in
    let digest : c.unwrap-digest.result ≡ pool_digest (nth pools at.i) = cc (given, c.unwrap-digest.ensures) in
    let size : 32 * at.i + 32 - 32 * at.i ≡ 32 = omega arith in
    rw (c.copy_from_slice.ensures.after, ← set-append_left at.pool-items (drop count pools) at.i c.empty_pool-empty.result inside)
    (taken_more pools n at.i _ _ at.seed c.unwrap-digest.result c.empty_pool-empty.result at.invariant below test
    c.empty_pool-empty.ensures digest size)

pub returns : goal.returns
returns c =
    let at = c.loop-i in
    let pools = c.args.pools.now in
    let count = c.min-count.result in
    let turns = length-take-le count pools (omega (arith, c.min-count.ensures)) in
    let end : at.i ≡ count = omega (arith, c.loop-i-test.false, at.auto.i-end) in
    taken-all pools c.args.number count _ at.seed (omega (arith, c.min-count.ensures))
    (λ i h. used-first c.args.number count i c.min-count.ensures h) (rw end at at.invariant)
