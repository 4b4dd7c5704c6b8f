-- `packing::pack_said` meets its contract: each arm packs what the definitions say of its answer.
use Rattle.shore.specs.Saying.{concern_said, number_said}
use Rattle.packing.specs.Packing.{said_word, channel_for, said_place, packed_said_for}
use Rattle.packing.proofs.pack_said.Goals as goal

pub returns-in-Asked : goal.returns-in-Asked
unfolding packed_said_for said_word channel_for concern_said number_said said_place
returns-in-Asked c = rw c.in-Asked.is c.pack.ensures

pub returns-in-Ready : goal.returns-in-Ready
unfolding packed_said_for said_word channel_for concern_said number_said said_place
returns-in-Ready c = rw c.in-Ready.is c.pack-in-Ready.ensures

pub returns-in-Awaited : goal.returns-in-Awaited
unfolding packed_said_for said_word channel_for concern_said number_said said_place
returns-in-Awaited c = rw c.in-Awaited.is c.pack-in-Awaited.ensures

pub returns-in-Opened : goal.returns-in-Opened
unfolding packed_said_for said_word channel_for concern_said number_said said_place
returns-in-Opened c = rw c.in-Opened.is c.pack-in-Opened.ensures

pub returns-in-Declined : goal.returns-in-Declined
unfolding packed_said_for said_word channel_for concern_said number_said said_place
returns-in-Declined c = rw c.in-Declined.is c.pack-in-Declined.ensures

pub returns-in-Held : goal.returns-in-Held
unfolding packed_said_for said_word channel_for concern_said number_said said_place
returns-in-Held c = rw c.in-Held.is c.pack-in-Held.ensures

pub returns-in-Message : goal.returns-in-Message
unfolding packed_said_for said_word channel_for concern_said number_said said_place
returns-in-Message c = rw c.in-Message.is c.pack-in-Message.ensures

pub returns-in-Closed : goal.returns-in-Closed
unfolding packed_said_for said_word channel_for concern_said number_said said_place
returns-in-Closed c = rw c.in-Closed.is c.pack-in-Closed.ensures

pub returns-in-Ignored : goal.returns-in-Ignored
unfolding packed_said_for said_word channel_for concern_said number_said said_place
returns-in-Ignored c = rw c.in-Ignored.is c.pack-in-Ignored.ensures

pub returns-in-Refused : goal.returns-in-Refused
unfolding packed_said_for said_word channel_for concern_said number_said said_place
returns-in-Refused c = rw c.in-Refused.is c.pack_refusal.ensures
