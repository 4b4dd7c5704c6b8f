-- `linklog::may_shorten` meets its contract: its tests are the definition's.
use mathlib.Core.Path.{sym, ◌∙◌}
use lib.Seq.{length-take-le}
use native.Mathlib.Omega.{arith}
use Rattle.lists.proofs.Cases.{true_not_false}
use Rattle.linklog.proofs.Taking.{short_room, other_block, rests_with}
use Rattle.linklog.proofs.may_shorten.Goals as goal

pub returns-then-room-lt-ROOM : goal.returns-then-room-lt-ROOM
returns-then-room-lt-ROOM c = (short_room _ _ c.if-room-lt-ROOM.true, λ e. absurd (true_not_false (sym e)))

pub slice_bounds-block-end : goal.slice_bounds-block-end
slice_bounds-block-end c = sym (length-take-le 512 c.args.room.now (omega (arith, c.if-room-lt-ROOM.false)))

pub returns-then-not-may_be_last : goal.returns-then-not-may_be_last
returns-then-not-may_be_last c = (
  other_block _ _ c.if-room-lt-ROOM.false (sym c.may_be_last.ensures.0 ∙ c.if-not-may_be_last.true),
  λ e. absurd (true_not_false (sym e)),
)

pub returns : goal.returns
returns c = let last = c.if-not-may_be_last.false in (
  rests_with _ _ c.if-room-lt-ROOM.false _ (c.from.ensures ∙ c.used.ensures) (sym c.may_be_last.ensures.0 ∙ last),
  λ e. c.may_be_last.ensures.1 last,
)
