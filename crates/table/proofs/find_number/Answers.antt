use mathlib.Core.Path.{sym, ◌∙◌}
use Rattle.paper.specs.Sizes.{PARTS}
use Rattle.lists.proofs.Places.{search_hit, search_miss, search_end}
use Rattle.lists.proofs.Arrays.{length_mapped}
use Rattle.channel.specs.Channel.{blank}
use Rattle.table.specs.Table.{number_place, record_at}
use Rattle.table.proofs.Records.{found_none, found_there}
use borrow.Author.Rules.{rules}
use native.Mathlib.Omega.{arith}
use Rattle.table.proofs.find_number.Goals as goal

pub loop-k-init : goal.loop-k-init
unfolding PARTS number_place
loop-k-init c = (search rules, search (rules, length_mapped), omega arith)

pub offset_bounds-table-k : goal.offset_bounds-table-k
unfolding PARTS
offset_bounds-table-k c = search rules

pub bounds-table-k : goal.bounds-table-k
unfolding PARTS
bounds-table-k c = search rules

pub overflow_add-k : goal.overflow_add-k
unfolding PARTS
overflow_add-k c = search rules

pub loop-k-smaller : goal.loop-k-smaller
unfolding PARTS
loop-k-smaller c = search rules

pub loop-k-preserved : goal.loop-k-preserved
unfolding PARTS
loop-k-preserved c =
    let l = c.loop-k in
    (omega arith, l.invariant.1, search_miss _ _ l.k blank (omega arith) (sym c.holds.ensures ∙ c.if-holds.false) l.invariant.2)

pub returns-then-k-eq-PARTS : goal.returns-then-k-eq-PARTS
unfolding PARTS number_place
returns-then-k-eq-PARTS c =
    let l = c.loop-k in
    found_none _ _ l.k _ (omega arith) c.blank-row.ensures (search_end _ _ l.k (omega arith) l.invariant.2)

pub returns-then-holds : goal.returns-then-holds
unfolding PARTS number_place record_at
returns-then-holds c =
    let l = c.loop-k in
    found_there _ _ l.k (search_hit _ _ l.k blank (omega arith) (sym c.holds.ensures ∙ c.if-holds.true) l.invariant.2)
