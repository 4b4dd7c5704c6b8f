use mathlib.Core.Path.{sym, ◌∙◌}
use Rattle.paper.specs.Sizes.{PARTS}
use Rattle.lists.proofs.Places.{search_hit, search_miss, search_end}
use Rattle.lists.proofs.Arrays.{length_mapped}
use Rattle.channel.specs.Channel.{blank}
use Rattle.table.specs.Table.{is_free, free_place}
use borrow.Author.Rules.{rules}
use native.Mathlib.Omega.{arith}
use Rattle.table.proofs.find_free.Goals as goal

pub loop-i-init : goal.loop-i-init
unfolding PARTS free_place is_free
loop-i-init c = (search rules, search (rules, length_mapped), omega arith)

pub offset_bounds-table-i : goal.offset_bounds-table-i
unfolding PARTS
offset_bounds-table-i c = search rules

pub bounds-table-i : goal.bounds-table-i
unfolding PARTS
bounds-table-i c = search rules

pub overflow_add-i : goal.overflow_add-i
unfolding PARTS
overflow_add-i c = search rules

pub loop-i-smaller : goal.loop-i-smaller
unfolding PARTS
loop-i-smaller c = search rules

pub loop-i-preserved : goal.loop-i-preserved
unfolding PARTS is_free
loop-i-preserved c =
    let l = c.loop-i in
    (omega arith, l.invariant.1, search_miss _ _ l.i blank (omega arith) c.if-not-record.false l.invariant.2)

pub returns-then-i-eq-PARTS : goal.returns-then-i-eq-PARTS
unfolding PARTS free_place is_free
returns-then-i-eq-PARTS c =
    let l = c.loop-i in
    sym c.if-i-eq-PARTS.true ∙ search_end _ _ l.i (omega arith) l.invariant.2

pub returns-then-not-record : goal.returns-then-not-record
unfolding PARTS free_place is_free
returns-then-not-record c =
    let l = c.loop-i in
    search_hit _ _ l.i blank (omega arith) c.if-not-record.true l.invariant.2
