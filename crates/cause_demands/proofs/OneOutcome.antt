-- One outcome for each input, of every public function of `rules` and of `cause`, as `OneOutcome` of `demands` collects them for the crates
-- below.
-- Assumes nothing.
pub use Rattle.rules.proofs.One.{first_one, is_spoiled_one, name_one}
pub use Rattle.cause.proofs.One.{begin_one, turn_one, sought_in_one, say_one}
