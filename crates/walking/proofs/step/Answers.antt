-- `walking::step` meets its contract: by its job, a record is the client's, the shore's or both ends', or is only read.
use Rattle.walking.proofs.step.Goals as goal

pub returns-in-Client : goal.returns-in-Client
returns-in-Client c = rw c.in-Client.is c.step_told.ensures

pub returns-in-Strict : goal.returns-in-Strict
returns-in-Strict c = rw c.in-Strict.is (c.step_read.ensures _ _)

pub returns-in-Desk : goal.returns-in-Desk
returns-in-Desk c = rw c.in-Desk.is (c.step_desk.ensures _)

pub returns-in-Link : goal.returns-in-Link
returns-in-Link c = rw c.in-Link.is c.step_link.ensures
