-- `viewing::name_line` meets its contract: the name in UTF-8 and LF behind it, or the refusal where it has none; both fit.
use mathlib.Core.List.{[], ◌∷◌}
use Prim.Native.Nat.{◌-◌, ◌≤◌}
use lib.ListN.{length, length-append}
use Rattle.lists.specs.Lines.{LF}
use Rattle.lists.proofs.Laid.{length_laid}
use Rattle.codepage.specs.Names.{utf8_of, result_of}
use Rattle.viewing.specs.Lists.{name_line}
use Rattle.viewing.proofs.Parts.{byte_behind, refused_so, written_so}
use Rattle.viewing.proofs.Lengths.{result_long, refused_long}
use native.Mathlib.Omega.{arith}
use Rattle.viewing.proofs.name_line.Goals as goal

pub returns-in_default : goal.returns-in_default
unfolding name_line
returns-in_default c =
    let a = c.args in
    let room : length (result_of (utf8_of a.name.now)) ≤ length a.out.now - a.at = omega (arith, result_long a.name.now, c.requires) in
    let so = refused_so (utf8_of a.name.now) a.out.now a.at (omega (arith, c.requires)) _ _ c.to_utf8.ensures.value c.to_utf8.ensures.out_after
    _ c.in_default.is room in
    let said = rw (c.refusal_number.ensures, so.1) at c.refused.ensures in
    rw so.0 (record { value = (said.value.0, omega (arith, said.value.0, refused_long, c.requires)); out_after = said.out_after })

pub bounds-out-at : goal.bounds-out-at
bounds-out-at c =
    let a = c.args in
    let wrote = written_so (utf8_of a.name.now) a.out.now a.at (omega (arith, c.requires)) _ _ c.to_utf8.ensures.value c.to_utf8.ensures.out_after
    _ c.in-Ok.is in
    rw (wrote.1.1.1, length_laid) (omega (arith, wrote.1.0, result_long a.name.now, c.requires))

pub overflow_add-out : goal.overflow_add-out
overflow_add-out c =
    let a = c.args in
    let wrote = written_so (utf8_of a.name.now) a.out.now a.at (omega (arith, c.requires)) _ _ c.to_utf8.ensures.value c.to_utf8.ensures.out_after
    _ c.in-Ok.is in
    omega (arith, wrote.1.0, result_long a.name.now, c.requires)

pub overflow_add-result : goal.overflow_add-result
overflow_add-result c =
    let a = c.args in
    let wrote = written_so (utf8_of a.name.now) a.out.now a.at (omega (arith, c.requires)) _ _ c.to_utf8.ensures.value c.to_utf8.ensures.out_after
    _ c.in-Ok.is in
    omega (arith, wrote.1.0, result_long a.name.now, c.requires)

pub returns : goal.returns
unfolding name_line
returns c =
    let a = c.args in
    let wrote = written_so (utf8_of a.name.now) a.out.now a.at (omega (arith, c.requires)) _ _ c.to_utf8.ensures.value c.to_utf8.ensures.out_after
    _ c.in-Ok.is in
    let text = result_of (utf8_of a.name.now) in
    rw (wrote.0, wrote.1.1.1)
    (record {
      value = (omega (arith, wrote.1.0, length-append text (LF ∷ [])), omega (arith, wrote.1.0, result_long a.name.now));
      out_after = byte_behind a.out.now a.at text _ LF wrote.1.0;
    })
