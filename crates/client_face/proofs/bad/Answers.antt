-- `client_face::bad` meets its contract: its tests are the definition's, in order.
use Rattle.paper.specs.Sizes.{PARTS, PART, MESSAGE_MAX, STORE, REPLY_MIN}
use Rattle.lists.proofs.Cases.{tests}
use Rattle.client_face.specs.Face.{bad_face}
use Rattle.client_face.proofs.bad.Goals as goal

pub returns-then-store-ne-STORE : goal.returns-then-store-ne-STORE
unfolding bad_face PARTS PART MESSAGE_MAX STORE REPLY_MIN
returns-then-store-ne-STORE c = search tests

pub returns-then-reply-lt-REPLY_MIN : goal.returns-then-reply-lt-REPLY_MIN
unfolding bad_face PARTS PART MESSAGE_MAX STORE REPLY_MIN
returns-then-reply-lt-REPLY_MIN c = search tests

pub returns : goal.returns
unfolding bad_face PARTS PART MESSAGE_MAX STORE REPLY_MIN
returns c = search (tests, c.good.ensures)
