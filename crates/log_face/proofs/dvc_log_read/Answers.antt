-- `log_face::dvc_log_read` meets its contract: the number is judged, and then the call is the library's.
use mathlib.Core.Path.{ap, ◌∙◌}
use mir.Syntax.{w64}
use mir.Facts.{to_z-of_z}
use Rattle.log_face.specs.Words.{read_number}
use Rattle.log_face.proofs.Words.{no_reader, a_reader}
use Rattle.log_face.proofs.dvc_log_read.Goals as goal

pub returns-then-read-ge-READS : goal.returns-then-read-ge-READS
returns-then-read-ge-READS c =
    let back = to_z-of_z {w = w64} {z = c.refused.result} (record { sfits = c.refused.type_inv }) in
    let not_one = no_reader _ _ _ _ _ c.if-read-ge-READS.true in
    record { value = back ∙ c.refused.ensures ∙ not_one.0; room_after = not_one.1 }

pub returns : goal.returns
unfolding read_number
returns c =
    let back = to_z-of_z {w = w64} {z = c.as_number.result} (record { sfits = c.as_number.type_inv }) in
    let is = c.read_in.ensures in
    let one = a_reader _ _ _ _ _ c.if-read-ge-READS.false in
    let did = rw is at c.turn.ensures in
    record { value = back ∙ c.as_number.ensures ∙ ap read_number did.value ∙ one.0; room_after = did.room_after ∙ one.1 }
