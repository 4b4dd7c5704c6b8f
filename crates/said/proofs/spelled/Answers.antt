use mathlib.Core.Path.{refl}
use lib.ListN.{take, get_or}
use Rattle.lists.specs.Bytes.{laid}
use Rattle.lists.proofs.Laid.{laid_next}
use Rattle.lines.specs.Decimal.{field}
use Rattle.lines.specs.Lines.{SPACE}
use Rattle.lines.proofs.Ends.{ends}
use Rattle.said.specs.Saying.{spelled_out}
use Rattle.said.proofs.Laws.{spelled_on}
use native.Mathlib.Numerals.{add-one}
use native.Mathlib.Omega.{arith}
use Rattle.said.proofs.spelled.Goals as goal

pub loop-number-init : goal.loop-number-init
unfolding spelled_out laid
loop-number-init c = record { few = omega arith; end = refl; out = refl }

pub loop-number-preserved : goal.loop-number-preserved
loop-number-preserved c =
    let numbers = c.args.numbers.now in
    let i = c.loop-number.number-index in
    let before = c.loop-number.invariant in
    let new = c.field-end.ensures in
    let front = spelled_out (take i numbers) in
    let one = field (get_or numbers i 0) SPACE in
    rw (add-one, spelled_on numbers i (omega arith)) (record {
      few = omega (arith, new.value.1);
      end = ends front one before.end new.value.0;
      out = laid_next _ _ _ front one _ before.end before.out new.out_after;
    })
