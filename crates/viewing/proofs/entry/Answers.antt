-- `viewing::entry` meets its contract: a line that is kept has a name, which fits with its zero byte.
use mathlib.Core.Path.{◌≡◌, refl, sym, ap, ◌∙◌}
use mathlib.Core.Bool.{true}
use mathlib.Core.List.{[], ◌∷◌}
use Rattle.std.specs.Prelude.{is_ok}
use lib.ListN.{length-append}
use Rattle.lists.specs.Bytes.{laid}
use Rattle.lists.proofs.Laid.{length_laid}
use Rattle.codepage.specs.Names.{name_of, result_of}
use Rattle.viewing.specs.Texts.{verdict_on, entry_of}
use Rattle.viewing.proofs.Parts.{byte_behind, refused_so, written_so}
use Rattle.viewing.proofs.Lengths.{name_long}
use Rattle.viewing.proofs.Verdicts.{kept_named}
use native.Mathlib.Omega.{arith}
use Rattle.viewing.proofs.entry.Goals as goal

pub returns-then-is_err : goal.returns-then-is_err
unfolding entry_of laid
returns-then-is_err c =
    let off = ap is_ok (sym c.judge.ensures) ∙ rw c.if-is_err.true at c.is_err.ensures.negation in
    rw off (record { value = (refl, omega arith); out_after = refl })

pub returns-in_default : goal.returns-in_default
returns-in_default c =
    let kept : is_ok (verdict_on c.args.line.now) ≡ true = ap is_ok (sym c.judge.ensures) ∙ rw c.if-is_err.false at c.is_err.ensures.negation in
    let a = c.args in
    let line = a.line.now in
    let so = refused_so (name_of line) a.out.now a.at (omega (arith, c.requires)) _ _ c.from_utf8.ensures.value c.from_utf8.ensures.out_after
    _ c.in_default.is (omega (arith, name_long line, c.requires)) in
    absurd (kept_named line kept so.0)

pub bounds-out-at : goal.bounds-out-at
bounds-out-at c =
    let a = c.args in
    let wrote = written_so (name_of a.line.now) a.out.now a.at (omega (arith, c.requires)) _ _ c.from_utf8.ensures.value c.from_utf8.ensures.out_after
    _ c.in-Ok.is in
    rw (wrote.1.1.1, length_laid) (omega (arith, wrote.1.0, name_long a.line.now, c.requires))

pub overflow_add-out : goal.overflow_add-out
overflow_add-out c =
    let a = c.args in
    let wrote = written_so (name_of a.line.now) a.out.now a.at (omega (arith, c.requires)) _ _ c.from_utf8.ensures.value c.from_utf8.ensures.out_after
    _ c.in-Ok.is in
    omega (arith, wrote.1.0, name_long a.line.now, c.requires)

pub overflow_add-result : goal.overflow_add-result
overflow_add-result c =
    let a = c.args in
    let wrote = written_so (name_of a.line.now) a.out.now a.at (omega (arith, c.requires)) _ _ c.from_utf8.ensures.value c.from_utf8.ensures.out_after
    _ c.in-Ok.is in
    omega (arith, wrote.1.0, name_long a.line.now, c.requires)

pub returns : goal.returns
unfolding entry_of
returns c =
    let kept : is_ok (verdict_on c.args.line.now) ≡ true = ap is_ok (sym c.judge.ensures) ∙ rw c.if-is_err.false at c.is_err.ensures.negation in
    let a = c.args in
    let wrote = written_so (name_of a.line.now) a.out.now a.at (omega (arith, c.requires)) _ _ c.from_utf8.ensures.value c.from_utf8.ensures.out_after
    _ c.in-Ok.is in
    let name = result_of (name_of a.line.now) in
    rw (kept, wrote.1.1.1)
    (record {
      value = (omega (arith, wrote.1.0, length-append name (0 ∷ [])), omega (arith, wrote.1.0, name_long a.line.now));
      out_after = byte_behind a.out.now a.at name _ 0 wrote.1.0;
    })
