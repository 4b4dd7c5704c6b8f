-- `linklog::go_through` meets its contract: the whole records are measured, and what is behind them is judged.
use native.Mathlib.Omega.{arith}
use Rattle.lists.proofs.Laid.{to_end}
use Rattle.linklog.proofs.Walked.{through_none, through_some}
use Rattle.linklog.proofs.go_through.Goals as goal

pub returns-then-whole-eq0 : goal.returns-then-whole-eq0
returns-then-whole-eq0 c =
    let a = c.args in
    let input = a.input.now in
    through_none input _ c.whole_records-whole.ensures.0 _ (rw (to_end input c.whole_records-whole.result) at c.is_stray.ensures)
    a.end a.number a.used c.if-whole-eq0.true

pub returns-else-whole-eq0 : goal.returns-else-whole-eq0
returns-else-whole-eq0 c =
    let a = c.args in
    let input = a.input.now in
    through_some input _ c.whole_records-whole.ensures.0 _ (rw (to_end input c.whole_records-whole.result) at c.is_stray.ensures)
    a.end a.number a.used _ c.if-whole-eq0.false c.saturating_sub.ensures

pub overflow_sub-behind : goal.overflow_sub-behind
overflow_sub-behind c = omega (arith, c.whole_records-whole.ensures.1)

pub slice_bounds-is_stray-count : goal.slice_bounds-is_stray-count
slice_bounds-is_stray-count c = omega (arith, c.whole_records-whole.ensures.1)

pub slice_bounds-is_stray-start : goal.slice_bounds-is_stray-start
slice_bounds-is_stray-start c = omega (arith, c.whole_records-whole.ensures.1)

pub slice_bounds-is_stray-end : goal.slice_bounds-is_stray-end
slice_bounds-is_stray-end c = omega (arith, c.whole_records-whole.ensures.1)

pub overflow_add-result : goal.overflow_add-result
overflow_add-result c = omega (arith, c.requires.0)

pub overflow_cast-result : goal.overflow_cast-result
overflow_cast-result c = record { fits = omega (arith, c.requires.1, c.saturating_sub.ensures) }
