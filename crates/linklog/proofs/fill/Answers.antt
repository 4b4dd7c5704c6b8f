-- `linklog::fill` meets its contract: the blocks are counted before a byte is written.
use Prim.Native.Nat.{◌+◌}
use lib.ListN.{length}
use native.Mathlib.Omega.{arith}
use Rattle.linklog.proofs.Filling.{few_blocks, log_full, log_holds}
use Rattle.linklog.proofs.fill.Goals as goal

pub overflow_cast-blocks : goal.overflow_cast-blocks
overflow_cast-blocks c =
    let a = c.args in
    omega (
      arith,
      few_blocks a.first.used (length a.head.now + length a.body.now) c.args.first.fits.1.0 c.requires.1.1,
      c.blocks_for-count.ensures,
    )

pub overflow_add-blocks : goal.overflow_add-blocks
overflow_add-blocks c =
    let a = c.args in
    omega (
      arith,
      few_blocks a.first.used (length a.head.now + length a.body.now) c.args.first.fits.1.0 c.requires.1.1,
      c.blocks_for-count.ensures,
      c.args.first.fits.0,
    )

pub returns-then-blocks-gt-BLOCKS_MAX : goal.returns-then-blocks-gt-BLOCKS_MAX
returns-then-blocks-gt-BLOCKS_MAX c =
    let a = c.args in
    let both = log_full a.room.now a.from a.first.used a.head.now a.body.now c.requires.1.0 c.args.first.fits.1.0 a.first.number
    a.first.place _ c.blocks_for-count.ensures c.if-blocks-gt-BLOCKS_MAX.true in record { value = both.0; room_after = both.1 }

pub put-requires : goal.put-requires
put-requires c = record { in_bounds = c.requires; body_bound = omega (arith, c.if-blocks-gt-BLOCKS_MAX.false, c.blocks_for-count.ensures) }

pub returns : goal.returns
returns c =
    let a = c.args in
    let both = log_holds a.room.now a.from a.first.used a.head.now a.body.now c.requires.1.0 c.args.first.fits.1.0 a.first.number
    a.first.place _ c.blocks_for-count.ensures _ c.if-blocks-gt-BLOCKS_MAX.false c.put.ensures in record { value = both.0; room_after = both.1 }
