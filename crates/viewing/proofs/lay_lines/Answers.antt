use Rattle.std.proofs.Common.{◌+◌, sym, arith, length-drop}
use Rattle.std.proofs.lemmas.List.{length-take-le}
use Rattle.paper.specs.Sizes.{LIST_MAX}
use Rattle.viewing.specs.Lists.{LINES_MAX}
use Rattle.viewing.proofs.Walks.{empty, rest_behind, on_first, on_long, on_next, on_end, name_there, name_good, name_next}
use Rattle.viewing.proofs.Lists.{short_names, no_names}
use Rattle.viewing.proofs.lay_lines.Invariants.{lines}
use Rattle.viewing.proofs.lay_lines.Goals as goal

pub loop-rest-init : goal.loop-rest-init
loop-rest-init c =
    let list = c.args.list.now in
    record { on = on_first lines list c.args.out.now; good = (short_names list c.requires.0).1; few = omega arith }

pub slice_bounds-name_line-end : goal.slice_bounds-name_line-end
slice_bounds-name_line-end c =
    let l = c.loop-rest in
    let named = name_there l.rest.now _ c.first_zero-end.ensures (omega arith) l.invariant.good in
    sym (length-take-le c.first_zero-end.result l.rest.now (omega (arith, named.1)))

pub name_line-used-requires : goal.name_line-used-requires
unfolding LINES_MAX LIST_MAX
name_line-used-requires c =
    let l = c.loop-rest in
    let named = name_there l.rest.now _ c.first_zero-end.ensures (omega arith) l.invariant.good in
    let long = length-take-le c.first_zero-end.result l.rest.now (omega (arith, named.1)) in
    let same = on_long lines c.args.list.now l.rest.now c.args.out.now l.out l.used l.invariant.on in
    let short = (short_names c.args.list.now c.requires.0).0 in
    rw long (named.0, omega (arith, named.1, same, short, l.invariant.few, c.requires.1))

pub overflow_add-used : goal.overflow_add-used
unfolding LINES_MAX LIST_MAX
overflow_add-used c =
    let l = c.loop-rest in
    let named = name_there l.rest.now _ c.first_zero-end.ensures (omega arith) l.invariant.good in
    let long = length-take-le c.first_zero-end.result l.rest.now (omega (arith, named.1)) in
    let same = on_long lines c.args.list.now l.rest.now c.args.out.now l.out l.used l.invariant.on in
    let short = (short_names c.args.list.now c.requires.0).0 in
    omega (arith, c.name_line-used.ensures.value.1, long, named.1, short, l.invariant.few)

pub overflow_add-rest : goal.overflow_add-rest
overflow_add-rest c =
    let l = c.loop-rest in
    let named = name_there l.rest.now _ c.first_zero-end.ensures (omega arith) l.invariant.good in
    omega (arith, named.1)

pub slice_bounds-rest-count : goal.slice_bounds-rest-count
slice_bounds-rest-count c =
    let l = c.loop-rest in
    let named = name_there l.rest.now _ c.first_zero-end.ensures (omega arith) l.invariant.good in
    omega (arith, named.1)

pub slice_bounds-rest-start : goal.slice_bounds-rest-start
slice_bounds-rest-start c =
    let l = c.loop-rest in
    let named = name_there l.rest.now _ c.first_zero-end.ensures (omega arith) l.invariant.good in
    omega (arith, named.1)

pub loop-rest-preserved : goal.loop-rest-preserved
loop-rest-preserved c =
    let l = c.loop-rest in
    let named = name_there l.rest.now _ c.first_zero-end.ensures (omega arith) l.invariant.good in
    let n = c.first_zero-end.result in
    let long = length-take-le n l.rest.now (omega (arith, named.1)) in
    let left = length-drop (n + 1) l.rest.now in
    let next = name_next l.rest.now n c.first_zero-end.ensures (omega arith) l.invariant.good in
    rw (rest_behind l.rest.now (n + 1)) (record {
      on = on_next lines c.args.list.now l.rest.now c.args.out.now l.out l.used l.invariant.on _ _ _ _ next
          c.name_line-used.ensures.out_after (omega (arith, c.name_line-used.ensures.value.0));
      good = name_good l.rest.now n c.first_zero-end.ensures (omega arith) l.invariant.good;
      few = omega (arith, c.name_line-used.ensures.value.1, long, named.1, left, l.invariant.few);
    })

pub returns : goal.returns
unfolding LINES_MAX LIST_MAX
returns c =
    let l = c.loop-rest in
    let a = c.args in
    let short = (short_names a.list.now c.requires.0).0 in
    let all = on_end lines a.list.now l.rest.now a.out.now l.out l.used l.invariant.on no_names (empty l.rest.now (omega arith)) in
    rw all (record { value = (l.invariant.on.used_is, omega (arith, l.invariant.few, short)); out_after = l.invariant.on.so_far })
