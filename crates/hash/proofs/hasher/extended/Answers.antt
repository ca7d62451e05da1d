use Rattle.std.proofs.Common.{◌≡◌, ◌-◌, ◌%◌, sym, ◌∙◌, arith, length-take-le, rules}
use lib.ListN as ListN
use Rattle.hash.specs.ShaD.{max_message}
use Rattle.hash.proofs.Absorb.{absorb-short, absorb-whole, absorb-fill}
use Rattle.hash.proofs.hasher.extended.Goals as goal

pub overflow_add-length : goal.overflow_add-length
unfolding max_message
overflow_add-length c = search rules

pub returns-then-data-room : goal.returns-then-data-room
returns-then-data-room c =
    let a = c.args in
    rw c.filled.ensures (absorb-short a.r.now a.«data».now (search rules) (omega arith))

pub returns-then-at-eq0 : goal.returns-then-at-eq0
returns-then-at-eq0 c =
    let a = c.args in
    c.after_blocks.ensures ∙ absorb-whole a.r.now a.«data».now (omega arith)

pub slice_bounds-filled-end-3 : goal.slice_bounds-filled-end-3
slice_bounds-filled-end-3 c =
    let a = c.args in
    sym (length-take-le (64 - a.r.now.length % 64) a.«data».now (omega arith))

pub filled-block-requires : goal.filled-block-requires
filled-block-requires c =
    let a = c.args in
    rw (length-take-le (64 - a.r.now.length % 64) a.«data».now (omega arith)) (omega arith)

pub returns : goal.returns
returns c =
    let tail-long : ListN.length c.args.r.now.tail ≡ 64 = search rules in
    let a = c.args in
    let block = c.filled-block in
    let next = c.compress in
    absorb-fill a.r.now a.«data».now tail-long block.result next.result _ c.if-data-room.false block.ensures
    next.ensures
    c.after_blocks-2.ensures
