-- `cause::begin` meets its contract: Start's table, no notes, place 0.
use Rattle.std.proofs.Common.{refl}
use Rattle.paper.specs.Sizes.{PARTS}
use Rattle.client.specs.Client.{started}
use Rattle.cause.specs.Notes.{no_notes}
use Rattle.cause.specs.Cause.{start_course}
use Rattle.cause.proofs.begin.Goals as goal

pub returns : goal.returns
unfolding start_course no_notes started PARTS
returns c =
    let start = c.start-started.ensures in
    record { value = rw start.value refl; store_after = start.store_after }
