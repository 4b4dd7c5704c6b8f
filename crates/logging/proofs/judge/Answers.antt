-- `logging::judge` meets its contract: its tests are the definition's.
use mathlib.Core.Path.{refl}
use borrow.Author.Tests.{le-leb, lt-leb, eq-eqb, ne_eqb}
use Prim.Native.Nat.{◌/◌, ◌%◌}
use Rattle.blocks.specs.Block.{BLOCK}
use Rattle.linklog.specs.Reading.{BLOCKS_MAX, is_log}
use Rattle.logging.specs.Reading.{judged_by}
use Rattle.logging.proofs.judge.Goals as goal

pub returns-then-size-ne0 : goal.returns-then-size-ne0
unfolding judged_by is_log
returns-then-size-ne0 c =
    let size = c.args.size in
    rw (ne_eqb (size % BLOCK) 0 c.if-size-ne0.true) refl

pub returns-then-blocks : goal.returns-then-blocks
unfolding judged_by is_log
returns-then-blocks c =
    let size = c.args.size in
    rw (eq-eqb (size % BLOCK) 0 c.if-size-ne0.false, lt-leb (size / BLOCK) BLOCKS_MAX c.if-blocks.true) refl

pub returns : goal.returns
unfolding judged_by is_log
returns c =
    let size = c.args.size in
    rw (eq-eqb (size % BLOCK) 0 c.if-size-ne0.false, le-leb (size / BLOCK) BLOCKS_MAX c.if-blocks.false) refl
