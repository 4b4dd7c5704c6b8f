-- `linklog::is_lent` meets its contract: its tests are the definition's, one behind the other.
use mathlib.Core.Path.{sym, ◌∙◌}
use Prim.Native.Nat.{◌-◌, ◌*◌}
use native.Mathlib.Omega.{arith}
use Rattle.lists.proofs.Cases.{true_not_false}
use Rattle.lists.proofs.Laid.{from_to}
use Rattle.blocks.specs.Block.{BLOCK}
use Rattle.linklog.specs.Appending.{last_at, last_in}
use Rattle.linklog.proofs.Lending.{short_room, lent_empty, none_held, over_held, held}
use Rattle.linklog.proofs.is_lent.Goals as goal

pub returns-then-room-lt-ROOM : goal.returns-then-room-lt-ROOM
returns-then-room-lt-ROOM c = (short_room _ _ c.if-room-lt-ROOM.true, λ e. absurd (true_not_false (sym e)))

pub returns-then-log-eq0 : goal.returns-then-log-eq0
returns-then-log-eq0 c = (lent_empty _ _ c.if-room-lt-ROOM.false c.if-log-eq0.true, λ e. omega (arith, c.if-log-eq0.true))

pub returns-then-log-lt1 : goal.returns-then-log-lt1
returns-then-log-lt1 c = (none_held _ _ c.if-room-lt-ROOM.false c.if-log-eq0.false c.if-log-lt1.true, λ e. absurd (true_not_false (sym e)))

pub returns-then-log-gt-HELD_MAX : goal.returns-then-log-gt-HELD_MAX
returns-then-log-gt-HELD_MAX c = (over_held _ _ c.if-room-lt-ROOM.false c.if-log-eq0.false c.if-log-lt1.false c.if-log-gt-HELD_MAX.true, λ e. absurd (true_not_false (sym e)))

pub returns : goal.returns
unfolding last_in last_at
returns c =
    let room = c.args.room.now in
    let told = rw (from_to room (BLOCK * (c.args.log.held - 1)) BLOCK) at c.may_be_last.ensures in
    (told.0 ∙ held _ _ c.if-room-lt-ROOM.false c.if-log-eq0.false c.if-log-lt1.false c.if-log-gt-HELD_MAX.false, told.1)
