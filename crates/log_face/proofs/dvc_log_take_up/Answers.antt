-- `log_face::dvc_log_take_up` meets its contract: it is the library's call.
use mathlib.Core.Path.{ap, ◌∙◌}
use mir.Syntax.{w64}
use mir.Facts.{to_z-of_z}
use Rattle.log_face.specs.Words.{log_number}
use Rattle.log_face.proofs.dvc_log_take_up.Goals as goal

pub returns : goal.returns
unfolding log_number
returns c =
    let back = to_z-of_z {w = w64} {z = c.as_number.result} (record { sfits = c.as_number.type_inv }) in
    back ∙ c.as_number.ensures ∙ ap log_number c.take_up.ensures
