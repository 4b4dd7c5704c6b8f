use Rattle.std.proofs.Common.{◌≡◌, length, arith, rules}
use Rattle.paper.specs.Sizes.{PARTS}
use Rattle.lists.proofs.Arrays.{length_mapped}
use Rattle.table.specs.Table.{record_at}
use Rattle.cause.proofs.Notes.{begin, turn, ends}
use Rattle.cause.proofs.noted.Goals as goal

pub loop-i-init : goal.loop-i-init
unfolding PARTS
loop-i-init c =
    let long : length c.args.notes ≡ PARTS = search (rules, length_mapped) in (long, begin _ _ _ _)

pub loop-i-preserved : goal.loop-i-preserved
unfolding PARTS record_at
loop-i-preserved c =
    let l = c.loop-i in
    let is = rw c.has_turned.ensures at c.newer.ensures in
    (l.invariant.0, turn _ _ _ _ l.next l.i l.invariant.1 (omega arith) _ is)

pub returns : goal.returns
unfolding PARTS
returns c =
    let l = c.loop-i in
    ends _ _ _ _ l.next l.i l.invariant.1 (omega arith)
