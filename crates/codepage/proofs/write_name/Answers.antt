use Rattle.std.proofs.Common.{refl, ◌∙◌, sym, arith, length-drop}
use Rattle.lists.specs.Bytes.{laid}
use Rattle.codepage.specs.Names.{name_of}
use Rattle.codepage.proofs.Bytes.{rest_behind}
use Rattle.codepage.proofs.Leads.{laid_none, laid_fits, laid_on, laid_end}
use Rattle.codepage.proofs.Names.{text_ends, sure_on, sure_end}
use Rattle.codepage.proofs.write_name.Goals as goal

pub loop-front-init : goal.loop-front-init
loop-front-init c = laid_none name_of _ _

pub bounds-out-n : goal.bounds-out-n
bounds-out-n c =
    let l = c.loop-front in
    let text = c.args.text.now in
    let next = sure_on text l.rest.now l.invariant.done l.invariant.leads c.in-Some.front (sym c.in-Some.is ∙ c.front_of.ensures) in
    let fits = laid_fits name_of text l.rest.now c.args.out.now l.out l.n l.invariant _ _ next.0 c.requires.text_value c.requires.out_value in
    omega (arith, fits)

pub slice_bounds-rest-count : goal.slice_bounds-rest-count
slice_bounds-rest-count c =
    let l = c.loop-front in
    let next = sure_on c.args.text.now l.rest.now l.invariant.done l.invariant.leads c.in-Some.front (sym c.in-Some.is ∙ c.front_of.ensures) in
    next.1.1

pub slice_bounds-rest-start : goal.slice_bounds-rest-start
slice_bounds-rest-start c =
    let l = c.loop-front in
    let next = sure_on c.args.text.now l.rest.now l.invariant.done l.invariant.leads c.in-Some.front (sym c.in-Some.is ∙ c.front_of.ensures) in
    next.1.1

pub loop-front-smaller : goal.loop-front-smaller
loop-front-smaller c =
    let l = c.loop-front in
    let next = sure_on c.args.text.now l.rest.now l.invariant.done l.invariant.leads c.in-Some.front (sym c.in-Some.is ∙ c.front_of.ensures) in
    rw (rest_behind l.rest.now c.in-Some.front.width) (omega (arith, next.1, length-drop c.in-Some.front.width l.rest.now))

pub loop-front-preserved : goal.loop-front-preserved
unfolding laid
loop-front-preserved c =
    let l = c.loop-front in
    let text = c.args.text.now in
    let next = sure_on text l.rest.now l.invariant.done l.invariant.leads c.in-Some.front (sym c.in-Some.is ∙ c.front_of.ensures) in
    rw (rest_behind l.rest.now c.in-Some.front.width) (laid_on name_of text l.rest.now c.args.out.now l.out _ l.n _ l.invariant _ _ next.0 refl refl)

pub returns : goal.returns
returns c =
    let l = c.loop-front in
    let text = c.args.text.now in
    let ended = sure_end text l.rest.now l.invariant.done l.invariant.leads c.requires.text_value (sym c.in_default.is ∙ c.front_of.ensures) in
    laid_end name_of text c.args.out.now l.out l.n text_ends (rw ended at l.invariant)
