-- `said::again` meets its contract: each arm is a case of the definition, and what its writer promises.
use mathlib.Core.Path.{refl, ap}
use mir.Syntax.{w32}
use borrow.Author.Rules.{rules}
use mir.Facts.{to_z-of_z}
use Rattle.said.specs.Saying.{again_of, answer_to, left_by}
use Rattle.said.proofs.Laws.{so_written}
use Rattle.said.proofs.again.Goals as goal

pub returns-in-CreateRequest : goal.returns-in-CreateRequest
unfolding again_of
returns-in-CreateRequest c =
    let a = c.args in
    let w = c.write_create_request.ensures in
    let e = c.of.ensures in
    let both = so_written a.pdu.now _ _ a.read _ _ _ (rw e at w.value) (rw e at w.out_after)
    (ap (again_of a.pdu.now) c.in-CreateRequest.is) in record { value = both.0; out_after = both.1 }

pub returns-in-CreateResponse : goal.returns-in-CreateResponse
unfolding again_of
returns-in-CreateResponse c =
    let a = c.args in
    let w = c.write_create_response.ensures in
    let bits = to_z-of_z {w = w32} {z = c.in-CreateResponse.status} (search rules) in
    let both = so_written a.pdu.now _ _ a.read _ _ _ (rw bits at w.value) (rw bits at w.out_after)
    (ap (again_of a.pdu.now) c.in-CreateResponse.is) in record { value = both.0; out_after = both.1 }

pub returns-in-DataFirst : goal.returns-in-DataFirst
unfolding again_of
returns-in-DataFirst c =
    let a = c.args in
    let w = c.write_data_first.ensures in
    let e = c.of-in-DataFirst.ensures in
    let both = so_written a.pdu.now _ _ a.read _ _ _ (rw e at w.value) (rw e at w.out_after)
    (ap (again_of a.pdu.now) c.in-DataFirst.is) in record { value = both.0; out_after = both.1 }

pub returns-in-Data : goal.returns-in-Data
unfolding again_of
returns-in-Data c =
    let a = c.args in
    let w = c.write_data.ensures in
    let e = c.of-in-Data.ensures in
    let both = so_written a.pdu.now _ _ a.read _ _ _ (rw e at w.value) (rw e at w.out_after)
    (ap (again_of a.pdu.now) c.in-Data.is) in record { value = both.0; out_after = both.1 }

pub returns-in-Close : goal.returns-in-Close
unfolding again_of
returns-in-Close c =
    let a = c.args in
    let w = c.write_close.ensures in
    let both = so_written a.pdu.now _ _ a.read _ _ _ w.value w.out_after
    (ap (again_of a.pdu.now) c.in-Close.is) in record { value = both.0; out_after = both.1 }

pub returns-in-CapsRequest : goal.returns-in-CapsRequest
unfolding again_of
returns-in-CapsRequest c =
    let a = c.args in
    let w = c.write_capabilities_request.ensures in
    let both = so_written a.pdu.now _ _ a.read _ _ _ w.value w.out_after
    (ap (again_of a.pdu.now) c.in-CapsRequest.is) in record { value = both.0; out_after = both.1 }

pub returns-in-CapsResponse : goal.returns-in-CapsResponse
unfolding again_of
returns-in-CapsResponse c =
    let a = c.args in
    let w = c.write_capabilities_response.ensures in
    let both = so_written a.pdu.now _ _ a.read _ _ _ w.value w.out_after
    (ap (again_of a.pdu.now) c.in-CapsResponse.is) in record { value = both.0; out_after = both.1 }

pub returns-in-Refused : goal.returns-in-Refused
unfolding again_of answer_to left_by
returns-in-Refused c = rw c.in-Refused.is (record { value = refl; out_after = refl })
