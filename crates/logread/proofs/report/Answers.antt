-- `logread::report` meets its contract: a log has no more blocks than a log may have.
use Rattle.std.proofs.Common.{sym, ◌∙◌}
use Rattle.logging.proofs.Judging.{judged_few}
use Rattle.logread.proofs.report.Goals as goal

pub read-requires : goal.read-requires
read-requires g c = judged_few c.args.size _ (sym c.in-Ok.is ∙ c.judge.ensures)
