use mathlib.Core.Path.{sym, ◌∙◌}
use Rattle.paper.specs.Sizes.{PARTS}
use Rattle.lists.proofs.Places.{search_hit, search_miss, search_end}
use Rattle.lists.proofs.Arrays.{length_mapped}
use Rattle.channel.specs.Channel.{blank}
use Rattle.table.specs.Table.{open_place, record_at}
use Rattle.table.proofs.Records.{open_none, open_there}
use borrow.Author.Rules.{rules}
use native.Mathlib.Omega.{arith}
use Rattle.table.proofs.find_open.Goals as goal

pub loop-k-init : goal.loop-k-init
unfolding PARTS open_place
loop-k-init c = (search rules, search (rules, length_mapped), omega arith)

pub offset_bounds-table-k : goal.offset_bounds-table-k
unfolding PARTS
offset_bounds-table-k c = search rules

pub bounds-table-k : goal.bounds-table-k
unfolding PARTS
bounds-table-k c = search rules

pub overflow_add-k : goal.overflow_add-k
unfolding PARTS
overflow_add-k c = search rules

pub loop-k-smaller : goal.loop-k-smaller
unfolding PARTS
loop-k-smaller c = search rules

pub loop-k-preserved : goal.loop-k-preserved
unfolding PARTS
loop-k-preserved c =
    let l = c.loop-k in
    (omega arith, l.invariant.1, search_miss _ _ l.k blank (omega arith) (sym c.is_open.ensures ∙ c.if-is_open.false) l.invariant.2)

pub returns-then-k-eq-PARTS : goal.returns-then-k-eq-PARTS
unfolding PARTS open_place
returns-then-k-eq-PARTS c =
    let l = c.loop-k in
    open_none _ l.k _ (omega arith) c.blank-row.ensures (search_end _ _ l.k (omega arith) l.invariant.2)

pub returns-then-is_open : goal.returns-then-is_open
unfolding PARTS open_place record_at
returns-then-is_open c =
    let l = c.loop-k in
    open_there _ l.k (search_hit _ _ l.k blank (omega arith) (sym c.is_open.ensures ∙ c.if-is_open.true) l.invariant.2)
