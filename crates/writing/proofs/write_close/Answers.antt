-- `writing::write_close` meets its contract: the answer is the judge's on the
-- length of a Close, and what is not refused is laid.
use mathlib.Core.Path.{refl, sym, ◌∙◌}
use Rattle.std.proofs.lemmas.Result.{err_from_is_err_and}
use Rattle.numbers.proofs.Widths.{narrowest_le}
use Rattle.laying.proofs.Lengths.{length_close}
use Rattle.writing.proofs.Answers.{answered, laid_so, refused_so}
use native.Mathlib.Omega.{arith}
use Rattle.writing.proofs.write_close.Goals as goal

pub overflow_add-narrow : goal.overflow_add-narrow
overflow_add-narrow c = omega (arith, c.narrow.ensures, narrowest_le c.args.number)

pub returns-in_err-length : goal.returns-in_err-length
returns-in_err-length c =
    let p = err_from_is_err_and c.from_residual.result c.from_residual.ensures.1 in
    rw (p.1, p.2) (record {
      value = sym c.in_err-length.was ∙ answered _ _ c.judge.ensures refl (omega (arith, c.narrow.ensures, length_close c.args.number));
      out_after = refused_so _ _ refl;
    })

pub returns : goal.returns
returns c =
    record {
      value = sym c.in_ok-length.was ∙ answered _ _ c.judge.ensures refl (omega (arith, c.narrow.ensures, length_close c.args.number));
      out_after = laid_so _ _ refl c.close.ensures.out_after;
    }
