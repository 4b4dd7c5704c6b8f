-- `judge::is_whole` meets its contract: its test is the definition's.
use Rattle.std.proofs.Common.{sym}
use Rattle.judge.specs.Sender.{is_whole}
use Rattle.judge.proofs.is_whole.Goals as goal

pub returns : goal.returns
unfolding is_whole
returns c = rw (sym c.head_needs.ensures.0)
