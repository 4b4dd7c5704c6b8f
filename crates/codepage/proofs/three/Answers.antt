-- `codepage::three` meets its contract: the bits of three bytes.
use mathlib.Core.Path.{refl}
use Rattle.codepage.specs.Utf8.{point_in}
use Rattle.codepage.proofs.three.Goals as goal

pub returns : goal.returns
unfolding point_in
returns c = refl
