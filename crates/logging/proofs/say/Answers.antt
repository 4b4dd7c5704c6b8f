-- `logging::say` meets its contract: at most a room's bytes are lent.
use mathlib.Core.Path.{◌≡◌}
use Prim.Native.Nat.{min}
use lib.ListN.{length}
use lib.Seq.{length-take-le}
use Rattle.lists.proofs.Laid.{take_least}
use Rattle.linklog.specs.Appending.{ROOM}
use native.Mathlib.Omega.{arith}
use Rattle.logging.proofs.say.Goals as goal

pub lines_of-requires : goal.lines_of-requires
lines_of-requires c =
    let records = c.args.records.now in
    let long = length-take-le c.min-n.result records (omega (arith, c.min-n.ensures)) in
    omega (arith, long, c.min-n.ensures)

pub returns : goal.returns
returns c =
    let records = c.args.records.now in
    let least : c.min-n.result ≡ min ROOM (length records) = omega (arith, c.min-n.ensures) in
    rw (least, take_least ROOM records) at c.lines_of.ensures
