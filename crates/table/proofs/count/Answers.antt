use lib.ListN.{get_or}
use Rattle.paper.specs.Sizes.{PARTS}
use Rattle.lists.proofs.Arrays.{length_mapped}
use Rattle.channel.specs.Channel.{blank}
use Rattle.table.specs.Totals.{opens}
use Rattle.table.proofs.Recount.{total_on, total_end, opens_most}
use borrow.Author.Rules.{rules}
use native.Mathlib.Omega.{arith}
use Rattle.table.proofs.count.Goals as goal

pub loop-record-init : goal.loop-record-init
unfolding PARTS
loop-record-init c = (search (rules, length_mapped), omega arith, omega arith)

pub overflow_add-channels : goal.overflow_add-channels
unfolding PARTS
overflow_add-channels c =
    let l = c.loop-record in
    let r = get_or c.args.table.records l.record-index blank in
    omega (arith, l.invariant.1, c.opens-channels.ensures, opens_most r)

pub loop-record-preserved : goal.loop-record-preserved
unfolding PARTS
loop-record-preserved c =
    let l = c.loop-record in
    let rs = c.args.table.records in
    let one = c.opens-channels.ensures in
    (l.invariant.0, omega (arith, l.invariant.1, one, opens_most (get_or rs l.record-index blank)), omega (arith, l.invariant.2, one, total_on opens rs l.record-index (omega (arith, l.invariant.0))))

pub returns : goal.returns
unfolding PARTS
returns c =
    let l = c.loop-record in
    let rs = c.args.table.records in
    omega (arith, l.invariant.2, total_end opens rs l.record-index (omega (arith, l.invariant.0)))
