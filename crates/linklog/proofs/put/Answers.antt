-- `linklog::put` meets its contract: what the first block has and the record are gathered, and their blocks are laid.
use Prim.Native.Nat.{◌+◌, ◌-◌}
use lib.ListN.{length, drop, length-take}
use native.Mathlib.Omega.{arith}
use Rattle.linklog.proofs.Filling.{few_blocks, size_in_hand, gathered}
use Rattle.linklog.proofs.put.Goals as goal

pub gather-requires : goal.gather-requires
gather-requires c =
    let a = c.args in
    rw (length-take (a.from + a.first.used - a.from) (drop a.from a.room.now)) (omega (arith, c.args.first.fits.1.0, c.requires.in_bounds.1.1))

pub chain-requires : goal.chain-requires
chain-requires c =
    let a = c.args in
    -- what is in hand, once it is gathered
    let in_hand_law =
    gathered a.room.now a.from a.first.used a.head.now a.body.now c.requires.in_bounds.1.0 c.args.first.fits.1.0 _ _
    (omega (arith, c.args.first.fits.1.0, c.requires.in_bounds.1.1)) c.gather.ensures in
    let size = size_in_hand a.room.now a.from a.first.used a.head.now a.body.now c.requires.in_bounds.1.0 c.args.first.fits.1.0 in
    let few = few_blocks a.first.used (length a.head.now + length a.body.now) c.args.first.fits.1.0 c.requires.in_bounds.1.1 in
    rw (in_hand_law, size) (omega (arith, few, c.requires.in_bounds.0), (c.requires.body_bound, c.args.first.fits.1.1))

pub returns : goal.returns
returns c =
    let a = c.args in
    -- what is in hand, once it is gathered
    let in_hand_law =
    gathered a.room.now a.from a.first.used a.head.now a.body.now c.requires.in_bounds.1.0 c.args.first.fits.1.0 _ _
    (omega (arith, c.args.first.fits.1.0, c.requires.in_bounds.1.1)) c.gather.ensures in
    let size = size_in_hand a.room.now a.from a.first.used a.head.now a.body.now c.requires.in_bounds.1.0 c.args.first.fits.1.0 in
    rw (in_hand_law, size) at c.chain.ensures
