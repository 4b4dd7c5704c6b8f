-- `codepage::dvc_name_to_utf8` meets its contract: it is `to_utf8`, whose answer is told in one number.
use mathlib.Core.Path.{◌∙◌, ap, sym, subst}
use mir.Syntax.{w64}
use mir.Facts.{to_z-of_z}
use native.Mathlib.Omega.{arith}
use Rattle.codepage.specs.Names.{utf8_of, Countable, number_for}
use Rattle.codepage.proofs.Answers.{countable}
use Rattle.codepage.proofs.dvc_name_to_utf8.Goals as goal

pub number_for-requires : goal.number_for-requires
number_for-requires c =
    let a = c.args in
    subst Countable (sym c.to_utf8.ensures.value) (countable (utf8_of a.name.now) a.out.now (omega (arith, c.well_formed.1.0.1)))

pub returns : goal.returns
returns c =
    let back = to_z-of_z {w = w64} {z = c.number_for.result} (record { sfits = c.number_for.type_inv }) in
    record { value = back ∙ c.number_for.ensures ∙ ap number_for c.to_utf8.ensures.value; out_after = c.to_utf8.ensures.out_after }
