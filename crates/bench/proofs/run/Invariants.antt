-- `bench::run` meets its contract: while no round is run the tally is empty.
use Rattle.std.proofs.Common.{◌≡◌, length}
use Rattle.bench.specs.Tallies.{no_calls}
use Rattle.bench.proofs.run.Given as goal

abbrev pub invariant-loop : goal.invariant-loop
invariant-loop g l = record {
  store_kept : length l.store ≡ length l.initial.store;
  reply_kept : length l.reply ≡ length l.initial.reply;
  none_yet : l.rounds ≡ 0 → l.tally ≡ no_calls;
}
