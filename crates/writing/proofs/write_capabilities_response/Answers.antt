-- `writing::write_capabilities_response` meets its contract: the answer is the judge's on the
-- length of a Capabilities response, and what is not refused is laid.
use mathlib.Core.Path.{refl, sym, ◌∙◌}
use Rattle.std.proofs.lemmas.Result.{err_from_is_err_and}
use Rattle.laying.proofs.Lengths.{length_caps_response}
use Rattle.writing.proofs.Answers.{answered, laid_so, refused_so}
use Rattle.writing.proofs.write_capabilities_response.Goals as goal

pub returns-in_err-length : goal.returns-in_err-length
returns-in_err-length c =
    let p = err_from_is_err_and c.from_residual.result c.from_residual.ensures.1 in
    rw (p.1, p.2) (record {
      value = sym c.in_err-length.was ∙ answered _ _ c.judge.ensures c.bad_version.ensures (sym (length_caps_response c.args.version));
      out_after = refused_so _ _ refl;
    })

pub returns : goal.returns
returns c =
    record {
      value = sym c.in_ok-length.was ∙ answered _ _ c.judge.ensures c.bad_version.ensures (sym (length_caps_response c.args.version));
      out_after = laid_so _ _ refl c.capabilities_response.ensures.out_after;
    }
