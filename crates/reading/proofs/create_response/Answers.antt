-- `reading::create_response` meets its contract: its tests are the definition's,
-- and the scratch holds the four bytes of the status.
use mathlib.Core.Path.{◌≡◌, ap, ◌∙◌}
use mir.Syntax.{w32}
use mir.Facts.{to_z-of_z}
use lib.ListN.{take, drop, length-take, length-drop}
use Rattle.lists.specs.Bytes.{laid, zeros}
use Rattle.lists.proofs.Laid.{from_to, whole, length_zeros}
use Rattle.numbers.specs.Status.{status_of}
use Rattle.reading.specs.Reading.{create_response}
use Rattle.reading.specs.declared.Pdu.TheVariants.{CreateResponse}
use Rattle.lists.proofs.Cases.{tests}
use native.Mathlib.Omega.{arith}
use Rattle.reading.proofs.create_response.Goals as goal

pub returns-then-pdu-at : goal.returns-then-pdu-at
unfolding create_response
returns-then-pdu-at c = search tests

pub returns-then-at-pdu : goal.returns-then-at-pdu
unfolding create_response
returns-then-at-pdu c = search tests

pub returns : goal.returns
unfolding create_response
returns c =
    let a = c.args in
    let back = to_z-of_z {w = w32} {z = c.status-status.result} (record { sfits = c.status-status.type_inv }) in
    let four : c.four.result ≡ take 4 (drop a.at a.pdu.now) =
    c.four.ensures
    ∙ ap (laid (zeros 4) 0) (from_to a.pdu.now a.at 4)
    ∙ whole (zeros 4) (take 4 (drop a.at a.pdu.now))
    (simp (length_zeros, length-take, length-drop) (omega arith)) in
    ap (CreateResponse a.number) (back ∙ c.status-status.ensures ∙ ap status_of four) ∙ search tests
