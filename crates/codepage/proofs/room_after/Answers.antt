use Rattle.std.proofs.Common.{◌≡◌, ◌∙◌, [], sym, arith, length, ◌-◌, ◌<◌, ◌≤◌, length-append, drop_of_length-le}
use Rattle.codepage.specs.Utf8.{sequence_of}
use Rattle.codepage.specs.Names.{utf8_of}
use Rattle.codepage.proofs.Answers.{room_short, room_is}
use Rattle.codepage.proofs.Leads.{leads_first, leads_front, leads_end}
use Rattle.codepage.proofs.Names.{name_ends, byte_sure}
use Rattle.codepage.proofs.room_after.Goals as goal

pub loop-b-init : goal.loop-b-init
loop-b-init c = (record { done = []; leads = leads_first utf8_of c.args.name.now }, omega arith)

pub returns-in_err-left : goal.returns-in_err-left
returns-in_err-left c =
    let l = c.loop-b in
    let name = c.args.name.now in
    let next = byte_sure name l.b-index c.loop-b-test.true l.invariant.0.done l.invariant.0.leads c.point_of.result c.point_of.ensures c.requires in
    let front = leads_front utf8_of name _ _ next c.requires in
    let longer = length-append l.invariant.0.done (sequence_of c.point_of.result) in
    let less : l.left < length (sequence_of c.point_of.result) = omega (arith, c.in_err-left.ensures, c.width.ensures) in
    c.from_residual.ensures ∙ sym (room_short (utf8_of name) c.args.room c.requires (omega (arith, l.invariant.1, longer, front, less)))

pub loop-b-preserved : goal.loop-b-preserved
loop-b-preserved c =
    let l = c.loop-b in
    let next = byte_sure c.args.name.now l.b-index c.loop-b-test.true l.invariant.0.done l.invariant.0.leads c.point_of.result c.point_of.ensures c.requires in
    let longer = length-append l.invariant.0.done (sequence_of c.point_of.result) in
    let taken : (c.width.result ≤ l.left) × (c.in_ok-left.left ≡ l.left - c.width.result) = c.in_ok-left.ensures in
    (record { done = _; leads = next }, omega (arith, longer, taken, c.width.ensures, l.invariant.1))

pub returns : goal.returns
returns c =
    let l = c.loop-b in
    let name = c.args.name.now in
    let all = leads_end utf8_of name l.invariant.0.done name_ends (rw (drop_of_length-le name {i = l.b-index} c.loop-b-test.false) at l.invariant.0.leads) in
    sym (room_is (utf8_of name) c.args.room l.left l.invariant.0.done all (omega (arith, l.invariant.1)))
