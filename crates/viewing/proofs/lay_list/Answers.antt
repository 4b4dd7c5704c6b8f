use Rattle.std.proofs.Common.{arith}
use Rattle.viewing.proofs.Walks.{empty, on_first, on_long, on_next, on_end, line_next, no_lines, line_room}
use Rattle.viewing.proofs.lay_list.Invariants.{entries}
use Rattle.viewing.proofs.lay_list.Goals as goal

pub loop-rest-init : goal.loop-rest-init
loop-rest-init c = record { on = on_first entries c.args.text.now c.args.out.now; few = omega arith; fewer = λ more. omega arith }

pub entry-used-requires : goal.entry-used-requires
entry-used-requires c =
    let l = c.loop-rest in
    let room = line_room l.rest.now in
    let same = on_long entries c.args.text.now l.rest.now c.args.out.now l.out l.used l.invariant.on in
    rw c.first_line.ensures.line (omega (arith, room.0, same, l.invariant.fewer (omega arith), c.requires))

pub overflow_add-used : goal.overflow_add-used
overflow_add-used c =
    let l = c.loop-rest in
    let room = line_room l.rest.now in
    let did = rw c.first_line.ensures.line at c.entry-used.ensures.value.1 in
    omega (arith, room.0, did, l.invariant.fewer (omega arith), c.requires)

pub loop-rest-preserved : goal.loop-rest-preserved
loop-rest-preserved c =
    let l = c.loop-rest in
    let room = line_room l.rest.now in
    let did = rw c.first_line.ensures.line at c.entry-used.ensures in
    let before = l.invariant.fewer (omega arith) in
    rw c.first_line.ensures.behind (record {
      on = on_next entries c.args.text.now l.rest.now c.args.out.now l.out l.used l.invariant.on _ _ _ _ (line_next l.rest.now (omega arith))
          did.out_after (omega (arith, did.value.0));
      few = omega (arith, did.value.1, room.0, before);
      fewer = λ more. omega (arith, did.value.1, room.1 more, before);
    })

pub returns : goal.returns
returns c =
    let l = c.loop-rest in
    let a = c.args in
    let all = on_end entries a.text.now l.rest.now a.out.now l.out l.used l.invariant.on no_lines (empty l.rest.now (omega arith)) in
    rw all (record { value = (l.invariant.on.used_is, l.invariant.few); out_after = l.invariant.on.so_far })
