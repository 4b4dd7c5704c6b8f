-- The next line begins later.
use Rattle.std.proofs.Common.{◌<◌, arith}
use Rattle.viewing.proofs.Back.{line_on}
use Rattle.viewer.proofs.complain.Goals as goal

pub loop-at-smaller : goal.loop-at-smaller
loop-at-smaller g c =
    let later : c.loop-at.at < c.line_at-line.result.next = rw c.line_at-line.ensures (line_on c.args.text.now c.loop-at.at c.loop-at-test.true).1 in
    omega arith

pub loop-at-preserved : goal.loop-at-preserved
loop-at-preserved g c =
    let later : c.loop-at.at < c.line_at-line.result.next = rw c.line_at-line.ensures (line_on c.args.text.now c.loop-at.at c.loop-at-test.true).1 in
    record { out_kept = omega arith; counted = omega arith }
