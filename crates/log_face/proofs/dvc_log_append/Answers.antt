-- `log_face::dvc_log_append` meets its contract: the number is judged, and then the call is the library's.
use mathlib.Core.Path.{ap, ◌∙◌}
use mir.Syntax.{w64}
use mir.Facts.{to_z-of_z}
use native.Mathlib.Omega.{arith}
use Rattle.log_face.specs.Words.{log_number}
use Rattle.log_face.proofs.Words.{no_log, a_log}
use Rattle.log_face.proofs.dvc_log_append.Goals as goal

pub returns-then-log-ge-LOGS : goal.returns-then-log-ge-LOGS
returns-then-log-ge-LOGS c =
    let back = to_z-of_z {w = w64} {z = c.refused.result} (record { sfits = c.refused.type_inv }) in
    let not_one = no_log _ _ _ c.if-log-ge-LOGS.true in
    record { value = back ∙ c.refused.ensures ∙ not_one.0; room_after = not_one.1 }

pub returns : goal.returns
unfolding log_number
returns c =
    let back = to_z-of_z {w = w64} {z = c.as_number.result} (record { sfits = c.as_number.type_inv }) in
    let is = c.log_in.ensures in
    let one = a_log _ _ _ c.if-log-ge-LOGS.false in
    let did = rw is at c.append.ensures in
    record { value = back ∙ c.as_number.ensures ∙ ap log_number did.value ∙ one.0; room_after = did.room_after ∙ one.1 }

pub log_in-requires : goal.log_in-requires
log_in-requires c = omega (arith, c.if-log-ge-LOGS.false)
