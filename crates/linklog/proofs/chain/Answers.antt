use mathlib.Core.Path.{◌≡◌}
use Prim.Native.Nat.{◌+◌, ◌*◌, ◌≤◌, ◌<◌}
use lib.ListN.{length}
use native.Mathlib.Omega.{arith}
use Rattle.lists.proofs.Laid.{to_end}
use Rattle.blocks.specs.Block.{BLOCK, PAYLOAD}
use Rattle.linklog.specs.Written.{blocks_for}
use Rattle.linklog.proofs.Chains.{at_first_law, block_on, blocks_end, blocks_some, some_left, none_left}
use Rattle.linklog.proofs.chain.Goals as goal

pub loop-i-init : goal.loop-i-init
loop-i-init c =
    let a = c.args in
    let zero : a.number + 0 ≡ a.number = omega arith in
    rw zero (at_first_law a.room.now a.number a.place a.payload.now c.requires.0 c.requires.1.0 c.requires.1.1)

pub slice_bounds-lay-count : goal.slice_bounds-lay-count
slice_bounds-lay-count c =
    let here : c.loop-i.i < blocks_for (length c.args.payload.now) = omega (arith, c.blocks_for-i-end.ensures) in
    omega (arith, some_left (length c.args.payload.now) c.loop-i.i here)

pub slice_bounds-lay-start : goal.slice_bounds-lay-start
slice_bounds-lay-start c =
    let here : c.loop-i.i < blocks_for (length c.args.payload.now) = omega (arith, c.blocks_for-i-end.ensures) in
    omega (arith, some_left (length c.args.payload.now) c.loop-i.i here)

pub lay-requires : goal.lay-requires
lay-requires c =
    let l = c.loop-i in
    let size = length c.args.payload.now in
    let here : l.i < blocks_for size = omega (arith, c.blocks_for-i-end.ensures) in
    let some = blocks_some size (PAYLOAD * l.i) (some_left size l.i here) in
    (omega (arith, some, l.invariant.fits), (omega (arith, some, l.invariant.numbered), l.invariant.placed))

pub loop-i-preserved : goal.loop-i-preserved
loop-i-preserved c =
    let l = c.loop-i in
    let a = c.args in
    let here : l.i < blocks_for (length a.payload.now) = omega (arith, c.blocks_for-i-end.ensures) in
    let at : PAYLOAD * (l.i + 1) ≡ PAYLOAD * l.i + PAYLOAD = omega arith in
    let to : BLOCK * (l.i + 1) ≡ BLOCK * l.i + BLOCK = omega arith in
    let next : a.number + (l.i + 1) ≡ a.number + l.i + 1 = omega arith in
    rw (at, to, next)
    (block_on a.room.now a.number a.place a.payload.now l.room (PAYLOAD * l.i) (BLOCK * l.i) (a.number + l.i) l.first l.invariant _
    (some_left (length a.payload.now) l.i here) (rw (to_end a.payload.now (PAYLOAD * l.i)) at c.lay.ensures))

pub returns : goal.returns
returns c =
    let l = c.loop-i in
    let a = c.args in
    let gone : blocks_for (length a.payload.now) ≤ l.i = omega (arith, c.blocks_for-i-end.ensures) in
    blocks_end a.room.now a.number a.place a.payload.now l.room (PAYLOAD * l.i) (BLOCK * l.i) (a.number + l.i) l.first l.invariant
    (none_left (length a.payload.now) l.i gone)
