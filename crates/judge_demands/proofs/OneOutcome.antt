-- One outcome for each input, of every public function of `judge`, as `OneOutcome` of `demands` collects them for the crates below.
-- Assumes nothing.
pub use Rattle.judge.proofs.One.{begin_one, judge_one, comes_to_one, turn_one, head_needs_one, line_one, say_one}
