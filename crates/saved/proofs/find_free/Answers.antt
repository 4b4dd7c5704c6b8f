use mathlib.Core.Path.{◌≡◌, ◌∙◌}
use Rattle.paper.specs.Sizes.{PARTS}
use Rattle.lists.proofs.Places.{search_hit, search_miss, search_end}
use Rattle.channel.specs.Channel.{blank}
use Rattle.table.specs.Table.{free_place}
use Rattle.saved.specs.Saved.{ROW}
use Rattle.saved.proofs.Searching.{length_told, free_at, taken_at}
use native.Mathlib.Omega.{arith}
use Rattle.saved.proofs.find_free.Goals as goal

pub loop-i-init : goal.loop-i-init
unfolding PARTS
loop-i-init c = (omega arith, omega arith)

pub returns-then-word-eq0 : goal.returns-then-word-eq0
unfolding PARTS ROW free_place
returns-then-word-eq0 c =
    let l = c.loop-i in
    let s = c.args.state.now in
    let free = free_at s l.i c.loop-i-test.true (rw c.word.ensures at c.if-word-eq0.true) in
    search_hit _ _ l.i blank (rw (length_told s) c.loop-i-test.true) free l.invariant.1

pub loop-i-preserved : goal.loop-i-preserved
unfolding PARTS ROW
loop-i-preserved c =
    let l = c.loop-i in
    let s = c.args.state.now in
    let miss = taken_at s l.i c.loop-i-test.true (rw c.word.ensures at c.if-word-eq0.false) in
    (omega arith, search_miss _ _ l.i blank (rw (length_told s) c.loop-i-test.true) miss l.invariant.1)

pub returns : goal.returns
unfolding PARTS free_place
returns c =
    let l = c.loop-i in
    let end : 16 ≡ l.i = omega arith in
    end ∙ search_end _ _ l.i (rw (length_told c.args.state.now) c.loop-i-test.false) l.invariant.1
