use Rattle.std.proofs.Common.{arith, drop_of_length-le}
use Rattle.codepage.specs.Names.{utf8_of}
use Rattle.codepage.proofs.Leads.{laid_none, laid_fits, laid_on, laid_end}
use Rattle.codepage.proofs.Names.{name_ends, byte_sure}
use Rattle.codepage.proofs.write_utf8.Goals as goal

pub loop-b-init : goal.loop-b-init
loop-b-init c = laid_none utf8_of _ _

pub lay-at-requires : goal.lay-at-requires
lay-at-requires c =
    let l = c.loop-b in
    let name = c.args.name.now in
    let next = byte_sure name l.b-index c.loop-b-test.true l.invariant.done l.invariant.leads _ c.point_of.ensures c.requires.name_value in
    laid_fits utf8_of name _ c.args.out.now l.out l.at l.invariant _ _ next c.requires.name_value c.requires.out_value

pub overflow_add-at : goal.overflow_add-at
overflow_add-at c =
    let l = c.loop-b in
    let name = c.args.name.now in
    let next = byte_sure name l.b-index c.loop-b-test.true l.invariant.done l.invariant.leads _ c.point_of.ensures c.requires.name_value in
    let fits = laid_fits utf8_of name _ c.args.out.now l.out l.at l.invariant _ _ next c.requires.name_value c.requires.out_value in
    omega (arith, fits, c.lay-at.ensures.value)

pub loop-b-preserved : goal.loop-b-preserved
loop-b-preserved c =
    let l = c.loop-b in
    let name = c.args.name.now in
    let next = byte_sure name l.b-index c.loop-b-test.true l.invariant.done l.invariant.leads _ c.point_of.ensures c.requires.name_value in
    laid_on utf8_of name _ c.args.out.now l.out _ l.at _ l.invariant _ _ next c.lay-at.ensures.out_after (omega (arith, c.lay-at.ensures.value))

pub returns : goal.returns
returns c =
    let l = c.loop-b in
    let ended = rw (drop_of_length-le c.args.name.now {i = l.b-index} c.loop-b-test.false) at l.invariant in
    laid_end utf8_of c.args.name.now c.args.out.now l.out l.at name_ends ended
