-- `codepage::two` meets its contract: the bits of two bytes.
use mathlib.Core.Path.{refl}
use Rattle.codepage.specs.Utf8.{point_in}
use Rattle.codepage.proofs.two.Goals as goal

pub returns : goal.returns
unfolding point_in
returns c = refl
