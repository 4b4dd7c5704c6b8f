-- One outcome for each input, of every public function of the face for C and of what it stands on, as `OneOutcome` of `demands` collects
-- them for the crates below.
-- Assumes nothing.
pub use Rattle.saved.proofs.One.{good_one, headed_one, read_head_one, find_one, put_one, ask_one, begin_one}
pub use Rattle.packing.proofs.One.{pack_answer_one, pack_said_one, pack_count_one}
pub use Rattle.client_face.proofs.One.{dvc_start_one, dvc_receive_one, dvc_local_close_one}
pub use Rattle.shore_face.proofs.One.{dvc_shore_start_one, dvc_shore_request_one, dvc_shore_receive_one, dvc_shore_open_one, dvc_shore_local_close_one}
pub use Rattle.status_face.proofs.One.{dvc_totals_one, dvc_count_one}
