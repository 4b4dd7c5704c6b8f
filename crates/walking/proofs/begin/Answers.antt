-- `walking::begin` meets its contract: the ends start, and the first line is laid.
use Rattle.walking.specs.Walking.{beginning}
use Rattle.walking.proofs.begin.Goals as goal

pub returns : goal.returns
unfolding beginning
returns c =
    let first = c.first_for-laid.ensures in
    let made = c.empty-table.ensures in
    record { value = (rw (made, first.value.0), first.value.1); store_after = c.start_for.ensures; out_after = first.out_after }
