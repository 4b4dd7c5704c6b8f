-- One outcome for each input, of every public function of `shore`, as `OneOutcome` of `demands` collects them for the crates below.
-- Assumes nothing.
pub use Rattle.shore.proofs.One.{start_one, request_one, receive_one, open_one, local_close_one, concerns_one, value_one}
pub use Rattle.shore.proofs.One.{hear_one, closing_one, decide_one, awaited_one}
