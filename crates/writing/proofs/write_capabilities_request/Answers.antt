-- `writing::write_capabilities_request` meets its contract: the answer is the judge's on the
-- length of a Capabilities request, and what is not refused is laid.
use mathlib.Core.Path.{refl, sym, ◌∙◌}
use Rattle.std.proofs.lemmas.Result.{err_from_is_err_and}
use Rattle.writing.proofs.Answers.{length_request}
use Rattle.writing.proofs.Answers.{answered, laid_so, refused_so}
use Rattle.writing.proofs.write_capabilities_request.Goals as goal

pub returns-in_err-length : goal.returns-in_err-length
returns-in_err-length c =
    let p = err_from_is_err_and c.from_residual.result c.from_residual.ensures.1 in
    rw (p.1, p.2) (record {
      value = sym c.in_err-length.was ∙ answered _ _ c.judge.ensures c.bad_capabilities.ensures (c.request_length.ensures ∙ sym (length_request c.args.version c.args.charges));
      out_after = refused_so _ _ refl;
    })

pub returns : goal.returns
returns c =
    record {
      value = sym c.in_ok-length.was ∙ answered _ _ c.judge.ensures c.bad_capabilities.ensures (c.request_length.ensures ∙ sym (length_request c.args.version c.args.charges));
      out_after = laid_so _ _ refl c.capabilities_request.ensures.out_after;
    }
