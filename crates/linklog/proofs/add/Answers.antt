-- `linklog::add` meets its contract: the room is judged, and then the first block that is touched decides.
use mathlib.Core.Path.{◌≡◌, sym, ◌∙◌}
use mathlib.Core.Bool.{true}
use Prim.Native.Nat.{ℕ, ◌-◌, ◌*◌, ◌≤◌}
use lib.ListN.{length}
use mathlib.Core.List.{List, [], ◌++◌}
use native.Mathlib.Omega.{arith}
use Rattle.lists.proofs.Laid.{from_to}
use Rattle.blocks.specs.Block.{BLOCK}
use Rattle.linklog.specs.declared.Log.{Log}
use Rattle.linklog.specs.Appending.{HELD_MAX, ROOM, last_at, last_in, is_lent}
use Rattle.linklog.proofs.Lending.{begun_empty, lent_size, lent_last, front_in, not_lent, is_filled}
use Rattle.linklog.proofs.add.Goals as goal

-- where the last block stands, once the room is judged
held_in : (log : Log) (room : List ℕ) → is_lent log room ≡ true → (log.blocks ≡ 0 → ⊥)
    → (1 ≤ log.held) × ((log.held ≤ HELD_MAX) × (ROOM ≤ length room))
held_in log room lent some =
    let last = lent_last log room lent some in
    (last.0, (last.1.0, lent_size log room lent))

pub returns-then-not-is_lent : goal.returns-then-not-is_lent
returns-then-not-is_lent c = let both = not_lent _ _ _ (sym c.is_lent.ensures.0 ∙ c.if-not-is_lent.true) in record { value = both.0; room_after = both.1 }

pub fill-requires : goal.fill-requires
fill-requires c =
    let size = lent_size c.args.log c.args.room.now (sym c.is_lent.ensures.0 ∙ c.if-not-is_lent.false) in
    (size, (omega (arith, size), c.requires))

pub returns-then-log-eq0 : goal.returns-then-log-eq0
returns-then-log-eq0 c =
    let a = c.args in
    let none = begun_empty a.log.blocks (last_in a.log a.room.now) c.if-log-eq0.true in
    let fills = is_filled a.log a.room.now (a.head.now ++ a.body.now) 0 0 []
    (sym c.is_lent.ensures.0 ∙ c.if-not-is_lent.false)
    (sym none.0) (sym none.1.0) (sym none.1.1) in
    let filled = c.fill.ensures in
    record { value = filled.value ∙ fills.0; room_after = filled.room_after ∙ fills.1 }

pub first_touched-first-requires : goal.first_touched-first-requires
unfolding last_in last_at
first_touched-first-requires c =
    let a = c.args in
    let lent = sym c.is_lent.ensures.0 ∙ c.if-not-is_lent.false in
    let last = lent_last a.log a.room.now lent c.if-log-eq0.false in
    rw (from_to a.room.now (BLOCK * (a.log.held - 1)) BLOCK)
    (c.if-log-eq0.false, (c.is_lent.ensures.1 (c.if-not-is_lent.false), last.1.1))

pub fill-requires-2 : goal.fill-requires-2
fill-requires-2 c =
    let a = c.args in
    let lent = sym c.is_lent.ensures.0 ∙ c.if-not-is_lent.false in
    let size = lent_size a.log a.room.now lent in
    let last = lent_last a.log a.room.now lent c.if-log-eq0.false in
    (size, (omega (arith, size, last.0, last.1.0), c.requires))

pub returns : goal.returns
unfolding last_in last_at
returns c =
    let a = c.args in
    let lent = sym c.is_lent.ensures.0 ∙ c.if-not-is_lent.false in
    let at = BLOCK * (a.log.held - 1) in
    let first = rw (from_to a.room.now at BLOCK) at c.first_touched-first.ensures in
    let so_far = sym (front_in c.first_touched-first.result.used at a.room.now c.first_touched-first.result.fits.1.0) ∙ first.1.0 in
    let fills = is_filled a.log a.room.now (a.head.now ++ a.body.now) _ _ _ lent first.0 so_far first.1.1 in
    let filled = c.fill-2.ensures in
    record { value = filled.value ∙ fills.0; room_after = filled.room_after ∙ fills.1 }

pub overflow_sub-at : goal.overflow_sub-at
overflow_sub-at c =
    let held = held_in c.args.log c.args.room.now (sym c.is_lent.ensures.0 ∙ c.if-not-is_lent.false) c.if-log-eq0.false in
    omega (arith, held.0)

pub overflow_mul-at : goal.overflow_mul-at
overflow_mul-at c =
    let held = held_in c.args.log c.args.room.now (sym c.is_lent.ensures.0 ∙ c.if-not-is_lent.false) c.if-log-eq0.false in
    omega (arith, held.1.0)

pub overflow_add-at : goal.overflow_add-at
overflow_add-at c =
    let held = held_in c.args.log c.args.room.now (sym c.is_lent.ensures.0 ∙ c.if-not-is_lent.false) c.if-log-eq0.false in
    omega (arith, held.1.0)

pub slice_bounds-first_touched-end : goal.slice_bounds-first_touched-end
slice_bounds-first_touched-end c =
    let held = held_in c.args.log c.args.room.now (sym c.is_lent.ensures.0 ∙ c.if-not-is_lent.false) c.if-log-eq0.false in
    omega (arith, held.1.0, held.1.1)

pub overflow_add-at-2 : goal.overflow_add-at-2
overflow_add-at-2 c =
    let held = held_in c.args.log c.args.room.now (sym c.is_lent.ensures.0 ∙ c.if-not-is_lent.false) c.if-log-eq0.false in
    omega (arith, held.1.0)
