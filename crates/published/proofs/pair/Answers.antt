-- `published::pair` meets its contract: both digits must be ones.
use Rattle.std.proofs.Common.{◌≡◌, ◌+◌, ◌*◌, sym, ◌∙◌, arith}
use Rattle.published.specs.Claims.{pair_in}
use Rattle.published.proofs.pair.Goals as goal

pub returns-in_err-sixteens : goal.returns-in_err-sixteens
unfolding pair_in
returns-in_err-sixteens c =
    let off = sym c.digit.ensures.value ∙ c.in_err-sixteens.was in
    c.from_residual.ensures ∙ rw off

pub returns-in_err-ones : goal.returns-in_err-ones
unfolding pair_in
returns-in_err-ones c =
    let high = sym c.digit.ensures.value ∙ c.in_ok-sixteens.was in
    let off = sym c.digit-2.ensures.value ∙ c.in_err-ones.was in
    c.from_residual-in_err-ones.ensures ∙ rw (high, off)

pub returns : goal.returns
unfolding pair_in
returns c =
    let high = sym c.digit.ensures.value ∙ c.in_ok-sixteens.was in
    let low = sym c.digit-2.ensures.value ∙ c.in_ok-ones.was in
    let turned : c.in_ok-sixteens.sixteens * 16 + c.in_ok-ones.ones ≡ 16 * c.in_ok-sixteens.sixteens + c.in_ok-ones.ones = omega arith in
    rw (high, low, turned)
