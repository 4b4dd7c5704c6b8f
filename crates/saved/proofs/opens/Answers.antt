-- `saved::opens` meets its contract: a record is open if it is taken and not awaited.
use mathlib.Core.Path.{sym}
use Rattle.saved.proofs.Told.{opens_free, opens_marked, opens_one}
use native.Mathlib.Omega.{arith}
use Rattle.saved.proofs.opens.Goals as goal

pub returns-then-rest-eq0 : goal.returns-then-rest-eq0
returns-then-rest-eq0 c = sym (opens_free c.args.rest 0 0 (omega arith))

pub returns-then-rest-ge-MARK : goal.returns-then-rest-ge-MARK
returns-then-rest-ge-MARK c = sym (opens_marked c.args.rest 0 0 (omega arith) (omega arith))

pub returns : goal.returns
returns c = sym (opens_one c.args.rest 0 0 (omega arith) (omega arith))
