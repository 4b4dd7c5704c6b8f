-- `bench::one_round` meets its contract: the place lies in the file, and each turn moves it on, or closes one channel more.
use Rattle.std.proofs.Common.{◌≡◌, ◌+◌, ◌-◌, ◌≤◌, length}
use Rattle.bench.proofs.one_round.Given as goal

abbrev pub invariant-loop-closes : goal.invariant-loop-closes
invariant-loop-closes l = record {
  in_file : l.at ≤ length l.file;
  few_closes : l.closes ≤ 16;
  store_kept : length l.store ≡ length l.initial.store;
  reply_kept : length l.reply ≡ length l.initial.reply;
}

abbrev pub decreases-loop-closes : goal.decreases-loop-closes
decreases-loop-closes l = (length l.file - l.at) + (16 - l.closes)
