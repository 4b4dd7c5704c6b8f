-- `log_face::as_number` meets its contract: a number is itself, and a refusal is below zero.
use mathlib.Core.Path.{◌∙◌, ap}
use lib.IntN.{pos}
use mir.Syntax.{w64}
use mir.Facts.{to_z_pos, to_z-of_z}
use Rattle.log_face.proofs.as_number.Goals as goal

pub overflow_cast-result : goal.overflow_cast-result
overflow_cast-result g c = record { sfits = c.word.ensures.1 }

pub returns-in-Ok : goal.returns-in-Ok
returns-in-Ok g c = rw c.in-Ok.is (to_z_pos w64 c.word.ensures.1 ∙ ap pos c.word.ensures.0)

pub returns-in-Err : goal.returns-in-Err
returns-in-Err g c =
    let back = to_z-of_z {w = w64} {z = c.refused.result} (record { sfits = c.refused.type_inv }) in
    rw c.in-Err.is (back ∙ c.refused.ensures)
