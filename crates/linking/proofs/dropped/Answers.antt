-- `linking::dropped` meets its contract: both ends as `start` makes them, and a line.
use Rattle.paper.specs.Sizes.{MESSAGE_MAX}
use Rattle.lines.specs.Lines.{MESSAGE_LINE_MAX}
use Rattle.linking.specs.Linking.{CALL_MAX, STEP_MAX, dropped}
use native.Mathlib.Omega.{arith}
use Rattle.linking.proofs.dropped.Goals as goal

pub returns : goal.returns
unfolding dropped STEP_MAX CALL_MAX MESSAGE_LINE_MAX MESSAGE_MAX
returns c =
    let line = c.dropped_line-laid.ensures in
    let made = c.start-ends.ensures in
    λ ends.
    record {
      ends = made.value;
      length_laid = line.value.0;
      fits = omega (arith, line.value.1);
      stored = made.store_after;
      lines = line.out_after;
    }
