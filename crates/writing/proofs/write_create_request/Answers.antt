-- `writing::write_create_request` meets its contract: the answer is the judge's on the
-- length of a Create request, and what is not refused is laid.
use mathlib.Core.Path.{refl, sym, ◌∙◌}
use Rattle.std.proofs.lemmas.Result.{err_from_is_err_and}
use Rattle.numbers.proofs.Widths.{narrowest_le}
use Rattle.laying.proofs.Lengths.{length_create_request}
use Rattle.writing.proofs.Answers.{answered, laid_so, refused_so}
use native.Mathlib.Omega.{arith}
use Rattle.writing.proofs.write_create_request.Goals as goal

pub overflow_add-wanted : goal.overflow_add-wanted
overflow_add-wanted c = omega (arith, c.narrow.ensures, narrowest_le c.args.number)

pub overflow_add-wanted-2 : goal.overflow_add-wanted-2
overflow_add-wanted-2 c = omega (arith, c.narrow.ensures, narrowest_le c.args.number)

pub overflow_add-wanted-3 : goal.overflow_add-wanted-3
overflow_add-wanted-3 c = omega (arith, c.narrow.ensures, narrowest_le c.args.number)

pub returns-in_err-length : goal.returns-in_err-length
returns-in_err-length c =
    let p = err_from_is_err_and c.from_residual.result c.from_residual.ensures.1 in
    rw (p.1, p.2) (record {
      value = sym c.in_err-length.was ∙ answered _ _ c.judge.ensures c.bad_request.ensures (omega (arith, c.narrow.ensures, length_create_request c.args.number c.args.class c.args.name.now));
      out_after = refused_so _ _ refl;
    })

pub returns : goal.returns
returns c =
    record {
      value = sym c.in_ok-length.was ∙ answered _ _ c.judge.ensures c.bad_request.ensures (omega (arith, c.narrow.ensures, length_create_request c.args.number c.args.class c.args.name.now));
      out_after = laid_so _ _ refl c.create_request.ensures.out_after;
    }
