-- `cause::sought_in` meets its contract: before turn i the number of the first i digits.
use Rattle.std.proofs.Common.{◌<◌}
use Rattle.records.specs.Records.{PLACES}
use Rattle.cause.proofs.Digits.{Leads}
use Rattle.cause.proofs.sought_in.Given as goal

abbrev pub invariant-loop-digit : goal.invariant-loop-digit
invariant-loop-digit l = Leads l.word l.digit-index l.number × (l.number < PLACES)
