use Rattle.std.proofs.Common.{refl, ◌∙◌, [], ◌∷◌, ◌<◌, sym, ap, arith, length, length-append, length-drop}
use Rattle.codepage.specs.Names.{name_of, size_of}
use Rattle.codepage.proofs.Bytes.{none_there, rest_behind}
use Rattle.codepage.proofs.Leads.{leads_first, leads_end}
use Rattle.codepage.proofs.Names.{text_ends, front_off, front_on}
use Rattle.codepage.proofs.name_len.Goals as goal

pub loop-rest-init : goal.loop-rest-init
loop-rest-init c = (record { done = []; leads = leads_first name_of c.args.text.now }, (refl, omega arith))

pub returns-in_err-rest : goal.returns-in_err-rest
returns-in_err-rest c =
    let l = c.loop-rest in
    let there : 0 < length l.rest.now = omega arith in
    let off = front_off c.args.text.now l.rest.now l.invariant.0.done l.invariant.0.leads there (sym c.in_err-rest.was ∙ c.front_of.ensures) in
    c.from_residual.ensures ∙ sym (ap size_of off)

pub slice_bounds-rest-count : goal.slice_bounds-rest-count
slice_bounds-rest-count c =
    let l = c.loop-rest in
    let there : 0 < length l.rest.now = omega arith in
    let next = front_on c.args.text.now l.rest.now l.invariant.0.done l.invariant.0.leads there c.in_ok-rest.field-0 (sym c.in_ok-rest.was ∙ c.front_of.ensures) in
    next.1.1

pub slice_bounds-rest-start : goal.slice_bounds-rest-start
slice_bounds-rest-start c =
    let l = c.loop-rest in
    let there : 0 < length l.rest.now = omega arith in
    let next = front_on c.args.text.now l.rest.now l.invariant.0.done l.invariant.0.leads there c.in_ok-rest.field-0 (sym c.in_ok-rest.was ∙ c.front_of.ensures) in
    next.1.1

pub loop-rest-smaller : goal.loop-rest-smaller
loop-rest-smaller c =
    let l = c.loop-rest in
    let there : 0 < length l.rest.now = omega arith in
    let next = front_on c.args.text.now l.rest.now l.invariant.0.done l.invariant.0.leads there c.in_ok-rest.field-0 (sym c.in_ok-rest.was ∙ c.front_of.ensures) in
    rw (rest_behind l.rest.now c.in_ok-rest.field-0.width) (omega (arith, next.1, length-drop c.in_ok-rest.field-0.width l.rest.now))

pub loop-rest-preserved : goal.loop-rest-preserved
loop-rest-preserved c =
    let l = c.loop-rest in
    let there : 0 < length l.rest.now = omega arith in
    let front = c.in_ok-rest.field-0 in
    let next = front_on c.args.text.now l.rest.now l.invariant.0.done l.invariant.0.leads there front (sym c.in_ok-rest.was ∙ c.front_of.ensures) in
    let longer = length-append l.invariant.0.done (front.byte ∷ []) in
    let left = length-drop front.width l.rest.now in
    rw (rest_behind l.rest.now front.width)
    (record { done = _; leads = next.0 }, (omega (arith, l.invariant.1, longer), omega (arith, next.1, l.invariant.1, left)))

pub returns : goal.returns
returns c =
    let l = c.loop-rest in
    let ended = rw (none_there l.rest.now (omega arith)) at l.invariant.0.leads in
    let all = leads_end name_of c.args.text.now l.invariant.0.done text_ends ended in
    rw (all, l.invariant.1.0)
