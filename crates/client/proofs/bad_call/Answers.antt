-- `client::bad_call` meets its contract: its tests are the definition's.
use Rattle.paper.specs.Sizes.{PARTS, PART, MESSAGE_MAX, STORE, REPLY_MIN}
use Rattle.client.specs.Client.{bad_call}
use Rattle.lists.proofs.Cases.{tests}
use Rattle.client.proofs.bad_call.Goals as goal

pub returns-then-store-ne-STORE : goal.returns-then-store-ne-STORE
unfolding bad_call PARTS PART MESSAGE_MAX STORE REPLY_MIN
returns-then-store-ne-STORE c = search tests

pub returns-then-reply-lt-REPLY_MIN : goal.returns-then-reply-lt-REPLY_MIN
unfolding bad_call PARTS PART MESSAGE_MAX STORE REPLY_MIN
returns-then-reply-lt-REPLY_MIN c = search tests

pub returns : goal.returns
unfolding bad_call PARTS PART MESSAGE_MAX STORE REPLY_MIN
returns c = search (tests, c.sound.ensures)
