-- A read that brings something leaves less room. What is in the buffer is what the reader gave.
use Rattle.std.proofs.Common.{length, take, ◌-◌, ◌≤◌}
use Rattle.std.specs.Io.KnownBytes.{Consumes}
use Rattle.files.proofs.load.Given as goal

abbrev pub invariant-loop-had : goal.invariant-loop-had
invariant-loop-had g l =
    record { in_buffer : l.had ≤ length l.buffer; consumed : Consumes (g.R.Read.remaining l.initial.reader) (g.R.Read.remaining l.reader) (take l.had l.buffer) }

abbrev pub decreases-loop-had : goal.decreases-loop-had
decreases-loop-had g l = length l.initial.buffer - l.had
