-- `writing::write_data_first` meets its contract: the answer is the judge's on the
-- length of a Data First, and what is not refused is laid.
use mathlib.Core.Path.{refl, sym, ◌∙◌}
use Rattle.std.proofs.lemmas.Result.{err_from_is_err_and}
use Prim.Native.Nat.{◌≤◌}
use Rattle.numbers.proofs.Widths.{narrowest_le}
use Rattle.laying.proofs.Lengths.{length_data_first}
use Rattle.writing.proofs.Answers.{answered, laid_so, refused_so}
use native.Mathlib.Omega.{arith}
use Rattle.writing.proofs.write_data_first.Goals as goal

pub overflow_add-wanted : goal.overflow_add-wanted
overflow_add-wanted c = omega (arith, c.narrow.ensures, narrowest_le c.args.number)

pub overflow_add-wanted-2 : goal.overflow_add-wanted-2
overflow_add-wanted-2 c =
    let widths : (c.narrow.result ≤ 4) × (c.narrow-2.result ≤ 4) = let a = c.args in
    (rw c.narrow.ensures (narrowest_le a.number), rw c.narrow-2.ensures (narrowest_le a.length)) in
    omega (arith, widths)

pub overflow_add-wanted-3 : goal.overflow_add-wanted-3
overflow_add-wanted-3 c =
    let widths : (c.narrow.result ≤ 4) × (c.narrow-2.result ≤ 4) = let a = c.args in
    (rw c.narrow.ensures (narrowest_le a.number), rw c.narrow-2.ensures (narrowest_le a.length)) in
    omega (arith, widths)

pub returns-in_err-laid : goal.returns-in_err-laid
returns-in_err-laid c =
    let p = err_from_is_err_and c.from_residual.result c.from_residual.ensures.1 in
    rw (p.1, p.2) (record {
      value = sym c.in_err-laid.was ∙ answered _ _ c.judge.ensures refl (omega (arith, c.narrow.ensures, c.narrow-2.ensures, length_data_first c.args.number c.args.length c.args.block.now));
      out_after = refused_so _ _ refl;
    })

pub returns : goal.returns
returns c =
    record {
      value = sym c.in_ok-laid.was ∙ answered _ _ c.judge.ensures refl (omega (arith, c.narrow.ensures, c.narrow-2.ensures, length_data_first c.args.number c.args.length c.args.block.now));
      out_after = laid_so _ _ refl c.data_first.ensures.out_after;
    }
