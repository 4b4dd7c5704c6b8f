use mathlib.Core.Path.{◌≡◌, refl, sym, ◌∙◌}
use mathlib.Core.Bool.{Bool, true, false}
use Prim.Native.Nat.{◌≤◌, ◌<◌}
use lib.ListN.{get_or}
use borrow.Author.Tests.{le-leb, lt-leb, not-true, not-false}
use lib.Dec.{leb}
use Rattle.paper.specs.Sizes.{PARTS}
use Rattle.lists.proofs.Arrays.{length_mapped}
use Rattle.lists.proofs.Cases.{and_false}
use Rattle.channel.specs.declared.Record.{Record}
use Rattle.channel.specs.Channel.{blank}
use Rattle.table.specs.Sound.{good_seat}
use Rattle.table.proofs.Every.{every_not, every_on, every_end}
use borrow.Author.Rules.{rules}
use native.Mathlib.Omega.{arith}
use Rattle.table.proofs.good_seats.Goals as goal
use Rattle.table.proofs.good_seats.Goals.{else-record-via-then-record+else-not-table, else-record-via-else-record}

-- one record
over : (ready : Bool) (r : Record) → 3 < r.class → good_seat ready r ≡ false
unfolding good_seat
over ready r h = rw (lt-leb r.class 3 h)

too_soon_law : (ready : Bool) (r : Record) → ready ≡ false → r.taken ≡ true → good_seat ready r ≡ false
unfolding good_seat
too_soon_law ready r e t = rw (e, t) (and_false (leb r.class 3))

open_good : (ready : Bool) (r : Record) → r.class ≤ 3 → ready ≡ true → good_seat ready r ≡ true
unfolding good_seat
open_good ready r h e = rw (le-leb r.class 3 h, e)

free_good : (ready : Bool) (r : Record) → r.class ≤ 3 → r.taken ≡ false → good_seat ready r ≡ true
unfolding good_seat
free_good true r h t = rw (le-leb r.class 3 h)
free_good false r h t = rw (le-leb r.class 3 h, t)

pub loop-record-init : goal.loop-record-init
unfolding PARTS
loop-record-init c = (search (rules, length_mapped), refl)

pub returns-then-record-gt3 : goal.returns-then-record-gt3
unfolding PARTS
returns-then-record-gt3 c =
    let l = c.loop-record in
    let t = c.args.table in
    sym (l.invariant.1 ∙ every_not _ _ l.record-index blank (omega arith) (over t.ready (get_or t.records l.record-index blank) c.if-record-gt3.true))

pub returns-then-not-table : goal.returns-then-not-table
unfolding PARTS
returns-then-not-table c =
    let l = c.loop-record in
    let t = c.args.table in
    let shut = not-true _ c.if-not-table.true in
    sym (l.invariant.1 ∙ every_not _ _ l.record-index blank (omega arith) (too_soon_law t.ready (get_or t.records l.record-index blank) shut c.if-record.true))

pub loop-record-preserved : goal.loop-record-preserved
unfolding PARTS
loop-record-preserved c =
    let l = c.loop-record in
    let t = c.args.table in
    let r = get_or t.records l.record-index blank in
    let class : r.class ≤ 3 = omega (arith, c.if-record-gt3.false) in
    let good : good_seat t.ready r ≡ true = elim c.else-record.branch [
      | else-record-via-then-record+else-not-table w ↦ open_good t.ready r class (not-false _ w.if-not-table.false)
      | else-record-via-else-record w ↦ free_good t.ready r class w.if-record.false
    ] in
    (l.invariant.0, l.invariant.1 ∙ every_on _ _ l.record-index blank (omega arith) good)

pub returns : goal.returns
unfolding PARTS
returns c =
    let l = c.loop-record in
    sym (l.invariant.1 ∙ every_end _ _ l.record-index (omega arith))
