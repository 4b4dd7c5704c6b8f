use Rattle.std.proofs.Common.{◌≡◌, ◌+◌, ◌≤◌, length}
use Rattle.records.specs.Records.{whole_of}
use Rattle.records.specs.Walks.{records_of, size_of}
use Rattle.records.specs.Items.{after_items}
use Rattle.records.specs.Pdus.{pdus_in}
use Rattle.records.proofs.walk.Given as goal

abbrev pub invariant-loop-n : goal.invariant-loop-n
invariant-loop-n g l = (length l.rest ≤ length l.input) × (length l.input + size_of (records_of whole_of l.rest) ≡ size_of (records_of whole_of l.input) + length l.rest)
    × (after_items (g.S.Step.after l.step) (l.next, l.lent) (pdus_in l.rest)
    ≡ after_items (g.S.Step.after l.step) (l.initial.next, l.initial.lent) (pdus_in l.input))

abbrev pub decreases-loop-n : goal.decreases-loop-n
decreases-loop-n g l = length l.rest
