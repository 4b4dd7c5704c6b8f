-- `codepage::among` meets its contract: a code point that is not its own place is looked for where such entries stand.
use Rattle.std.proofs.Common.{◌∙◌, sym, arith}
use Rattle.codepage.specs.Points.{points}
use Rattle.codepage.proofs.Points.{found_apart, none_apart}
use Rattle.codepage.proofs.among.Goals as goal

pub overflow_cast-result : goal.overflow_cast-result
unfolding points
overflow_cast-result c =
    let found = found_apart c.args.point c.in_ok-i.i (λ z. omega (arith, z, c.requires.1)) (sym c.place.ensures ∙ c.in_ok-i.was) in
    omega (arith, found.0)

pub returns-in_err-i : goal.returns-in_err-i
unfolding points
returns-in_err-i c = c.from_residual.ensures ∙ sym (none_apart c.args.point c.requires.0 (sym c.place.ensures ∙ c.in_err-i.was))

pub returns : goal.returns
unfolding points
returns c =
    let found = found_apart c.args.point c.in_ok-i.i (λ z. omega (arith, z, c.requires.1)) (sym c.place.ensures ∙ c.in_ok-i.was) in
    sym found.1
