-- `linking::no_record` meets its contract: nothing but a line.
use mathlib.Core.Path.{refl}
use Rattle.paper.specs.Sizes.{MESSAGE_MAX}
use Rattle.lines.specs.Lines.{MESSAGE_LINE_MAX}
use Rattle.linking.specs.Linking.{CALL_MAX, STEP_MAX, no_record}
use native.Mathlib.Omega.{arith}
use Rattle.linking.proofs.no_record.Goals as goal

pub returns : goal.returns
unfolding no_record STEP_MAX CALL_MAX MESSAGE_LINE_MAX MESSAGE_MAX
returns c =
    let did = c.bad_line-laid.ensures in
    λ store. (
      refl,
      record {
        ends = refl;
        length_laid = did.value.0;
        fits = omega (arith, did.value.1);
        stored = refl;
        lines = did.out_after;
      },
    )
