use mathlib.Core.Path.{◌≡◌, sym, ◌∙◌}
use Rattle.paper.specs.Sizes.{PARTS}
use Rattle.lists.proofs.Places.{search_hit, search_miss, search_end}
use Rattle.channel.specs.Channel.{blank}
use Rattle.table.specs.Table.{number_place}
use Rattle.saved.specs.Saved.{ROW}
use Rattle.saved.proofs.Searching.{length_told, held_at, other_at, unheld_at}
use native.Mathlib.Omega.{arith}
use Rattle.saved.proofs.find_number.Goals as goal
use Rattle.saved.proofs.find_number.Goals.{else-word-number-via-then-word-number+else-word-eq1, else-word-number-via-else-word-number}

pub loop-i-init : goal.loop-i-init
unfolding PARTS
loop-i-init c = (omega arith, omega arith)

pub returns-then-word-eq1 : goal.returns-then-word-eq1
unfolding PARTS ROW number_place
returns-then-word-eq1 c =
    let l = c.loop-i in
    let a = c.args in
    let held =
    held_at a.state.now l.i c.loop-i-test.true a.number
    (sym c.word.ensures ∙ c.if-word-number.true)
    (rw c.word-then-word-number.ensures at c.if-word-eq1.true) in
    search_hit _ _ l.i blank (rw (length_told a.state.now) c.loop-i-test.true) held l.invariant.1

pub loop-i-preserved : goal.loop-i-preserved
unfolding PARTS ROW
loop-i-preserved c =
    let l = c.loop-i in
    let a = c.args in (
      omega arith,
      search_miss _ _ l.i blank (rw (length_told a.state.now) c.loop-i-test.true) (elim c.else-word-number.branch [
        | else-word-number-via-then-word-number+else-word-eq1 w ↦ unheld_at a.state.now l.i c.loop-i-test.true a.number (rw w.word-then-word-number.ensures at w.if-word-eq1.false)
        | else-word-number-via-else-word-number w ↦ other_at a.state.now l.i c.loop-i-test.true a.number (rw c.word.ensures at w.if-word-number.false)
      ]) l.invariant.1,
    )

pub returns : goal.returns
unfolding PARTS number_place
returns c =
    let l = c.loop-i in
    let end : 16 ≡ l.i = omega arith in
    end ∙ search_end _ _ l.i (rw (length_told c.args.state.now) c.loop-i-test.false) l.invariant.1
