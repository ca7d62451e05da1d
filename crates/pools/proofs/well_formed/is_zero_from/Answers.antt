use Rattle.std.proofs.Common.{◌<◌, length, get_or, arith, rules, length-append}
use Rattle.std.proofs.lemmas.Slice.Zip.{zip_turn, zip_end}
use Rattle.pools.proofs.Bits.{masks_from, masks-enough, found_none, found_turn, found_all}
use Rattle.pools.proofs.well_formed.is_zero_from.Goals as goal

pub loop-byte-init : goal.loop-byte-init
loop-byte-init c = found_none c.args.at c.args.tail.now

pub loop-byte-preserved : goal.loop-byte-preserved
loop-byte-preserved c =
    let at = c.loop-byte in
    let tail = c.args.tail.now in
    let i = length at.yielded in
    let (below, _, byte, mask) = zip_turn tail (masks_from c.args.at) at.yielded c.into_iter-byte-iterator.result at.byte-iterator c.next.new.self
    c.next.result (search rules) (search rules) at.yielded_by (c.in-Some.byte, c.in-Some.mask) c.in-Some.is c.next.ensures.steps in
    let small : get_or tail i 0 < 256 = search rules in
    rw (length-append, byte 0, mask 0) (found_turn at.bits c.args.at i tail c.requires (omega (arith, c.told-tail)) c.told-tail small at.invariant)

pub returns : goal.returns
returns c =
    let at = c.loop-byte in
    let tail = c.args.tail.now in
    let end = zip_end tail (masks_from c.args.at) at.yielded c.into_iter-byte-iterator.result at.byte-iterator c.next.new.self c.next.result
    (search rules) (search rules) at.yielded_by c.in-None.is c.next.ensures.steps in
    let enough = masks-enough c.args.at c.requires in
    found_all at.bits c.args.at (length at.yielded) tail (omega (arith, c.requires, c.told-tail)) (omega (arith, c.told-tail)) at.invariant
