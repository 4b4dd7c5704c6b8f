-- One outcome for each input, of every public function of `charges` and of `planning`, as `OneOutcome` of `demands` collects them for the
-- crates below.
-- Assumes nothing.
pub use Rattle.charges.proofs.One.{shares_of_one}
pub use Rattle.planning.proofs.One.{begin_one, turn_one, is_over_one, ending_one, say_one}
