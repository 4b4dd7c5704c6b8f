-- `judge::goes` meets its contract: each arm is a case of the definition. A block lies within the PDU, as reading says.
use Rattle.std.proofs.Common.{true, sym, ◌∙◌, arith}
use Rattle.lists.proofs.Laid.{from_to}
use Rattle.reading.specs.Said.{bytes_at}
use Rattle.reading.proofs.Placed.{Placed, placed}
use Rattle.judge.specs.Judge.{judged_by, course_after}
use Rattle.judge.proofs.goes.Goals as goal

pub overflow_add-end : goal.overflow_add-end
overflow_add-end c =
    let lies_in : Placed c.args.pdu.now c.read.result = rw c.read.ensures (placed c.args.pdu.now true) in
    omega (arith, rw c.in-DataFirst.is at lies_in)

pub slice_bounds-brings-end : goal.slice_bounds-brings-end
slice_bounds-brings-end c =
    let lies_in : Placed c.args.pdu.now c.read.result = rw c.read.ensures (placed c.args.pdu.now true) in
    omega (arith, rw c.in-DataFirst.is at lies_in)

pub overflow_add-end-in-Data : goal.overflow_add-end-in-Data
overflow_add-end-in-Data c =
    let lies_in : Placed c.args.pdu.now c.read.result = rw c.read.ensures (placed c.args.pdu.now true) in
    omega (arith, rw c.in-Data.is at lies_in)

pub slice_bounds-brings-end-in-Data : goal.slice_bounds-brings-end-in-Data
slice_bounds-brings-end-in-Data c =
    let lies_in : Placed c.args.pdu.now c.read.result = rw c.read.ensures (placed c.args.pdu.now true) in
    omega (arith, rw c.in-Data.is at lies_in)

pub returns-in-Refused : goal.returns-in-Refused
unfolding course_after judged_by
returns-in-Refused c = rw (sym c.read.ensures ∙ c.in-Refused.is)

pub returns-in-DataFirst : goal.returns-in-DataFirst
unfolding course_after judged_by bytes_at
returns-in-DataFirst c =
    let pdu = c.args.pdu.now in
    let block = c.in-DataFirst.block in
    rw (sym c.read.ensures ∙ c.in-DataFirst.is) (rw (from_to pdu block.at block.len) at c.brings.ensures)

pub returns-in-Data : goal.returns-in-Data
unfolding course_after judged_by bytes_at
returns-in-Data c =
    let pdu = c.args.pdu.now in
    let block = c.in-Data.block in
    rw (sym c.read.ensures ∙ c.in-Data.is) (rw (from_to pdu block.at block.len) at c.brings-in-Data.ensures)

pub returns-in-CreateRequest : goal.returns-in-CreateRequest
unfolding course_after judged_by
returns-in-CreateRequest c = rw (sym c.read.ensures ∙ c.in-CreateRequest.is)

pub returns-in-Close : goal.returns-in-Close
unfolding course_after judged_by
returns-in-Close c = rw (sym c.read.ensures ∙ c.in-Close.is)

pub returns-in-CapsRequest : goal.returns-in-CapsRequest
unfolding course_after judged_by
returns-in-CapsRequest c = rw (sym c.read.ensures ∙ c.in-CapsRequest.is)

pub returns-in-CreateResponse : goal.returns-in-CreateResponse
unfolding course_after judged_by
returns-in-CreateResponse c = rw (sym c.read.ensures ∙ c.in-CreateResponse.is)

pub returns-in-CapsResponse : goal.returns-in-CapsResponse
unfolding course_after judged_by
returns-in-CapsResponse c = rw (sym c.read.ensures ∙ c.in-CapsResponse.is)
