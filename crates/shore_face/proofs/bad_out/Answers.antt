-- `shore_face::bad_out` meets its contract: its tests are the definition's.
use Rattle.paper.specs.Sizes.{PDU_MAX}
use Rattle.lists.proofs.Cases.{tests}
use Rattle.shore_face.specs.Face.{bad_out_face}
use Rattle.shore_face.proofs.bad_out.Goals as goal

pub returns-then-room-lt-PDU_MAX : goal.returns-then-room-lt-PDU_MAX
unfolding bad_out_face PDU_MAX
returns-then-room-lt-PDU_MAX c = search tests

pub returns : goal.returns
unfolding bad_out_face PDU_MAX
returns c = search (tests, c.good.ensures)
