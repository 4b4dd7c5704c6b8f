-- `linklog::enter` meets its contract: it goes on, or in where a record begins.
use Rattle.linklog.specs.Turns.{course_in}
use Rattle.linklog.proofs.enter.Goals as goal

pub go_on-requires : goal.go_on-requires
go_on-requires c = c.requires

pub returns-then-reader : goal.returns-then-reader
unfolding course_in
returns-then-reader c = rw c.if-reader.true (record { value = c.go_on.ensures.value; room_after = c.go_on.ensures.room_after })

pub go_in-requires : goal.go_in-requires
go_in-requires c = c.requires

pub returns : goal.returns
unfolding course_in
returns c = rw c.if-reader.false (record { value = c.go_in.ensures.value; room_after = c.go_in.ensures.room_after })
