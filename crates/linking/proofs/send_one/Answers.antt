-- `linking::send_one` meets its contract: the cutter's answer decides, as in the definition.
use mathlib.Core.Path.{◌≡◌, refl, sym, ◌∙◌}
use Prim.Native.Nat.{min}
use lib.ListN.{length}
use Rattle.paper.specs.Sizes.{PDU_MAX}
use Rattle.lists.specs.Bytes.{zeros}
use Rattle.linking.specs.Linking.{sends_piece, sends_one}
use Rattle.linking.proofs.Crossing.{sent_lent}
use native.Mathlib.Omega.{arith}
use Rattle.linking.proofs.send_one.Goals as goal

pub returns-in-Ok : goal.returns-in-Ok
unfolding sends_one sends_piece zeros PDU_MAX
returns-in-Ok c =
    let got = c.cut.ensures in
    let buffer = c.cut.new.out in
    let len = c.min-n.ensures in
    let n : c.min-n.result ≡ min c.in-Ok.piece.len (length buffer) = omega (arith, len, c.cut.auto.out) in
    let piece = sym got.value ∙ c.in-Ok.is in
    let did = rw (sent_lent c.in-Ok.piece.len c.min-n.result buffer n, got.out_after) at c.across-crossed.ensures in
    rw piece (refl, did)

pub returns-in-Err : goal.returns-in-Err
unfolding sends_one sends_piece zeros PDU_MAX
returns-in-Err c =
    let piece = sym c.cut.ensures.value ∙ c.in-Err.is in
    let did = c.unsent-laid.ensures in
    rw piece (
      refl,
      record {
        ends = refl;
        length_laid = did.value.0;
        fits = omega (arith, did.value.1);
        stored = refl;
        lines = did.out_after;
      },
    )
