-- `viewing::asked` meets its contract: its tests are the definition's.
use Rattle.std.proofs.Common.{sym, ◌∙◌}
use Rattle.viewing.specs.Ways.{UTF8, CP1252, way_by}
use Rattle.viewing.proofs.Lists.{same_pointwise}
use Rattle.viewing.proofs.asked.Goals as goal

pub returns-then-eq : goal.returns-then-eq
unfolding way_by
returns-then-eq c =
    let utf8 = rw c.as_slice.ensures at c.eq.ensures ∙ same_pointwise c.args.word.now UTF8 in
    rw (sym utf8 ∙ c.if-eq.true)

pub returns-then-eq-2 : goal.returns-then-eq-2
unfolding way_by
returns-then-eq-2 c =
    let utf8 = rw c.as_slice.ensures at c.eq.ensures ∙ same_pointwise c.args.word.now UTF8 in
    let cp1252 = rw c.as_slice-2.ensures at c.eq-2.ensures ∙ same_pointwise c.args.word.now CP1252 in
    rw (sym utf8 ∙ c.if-eq.false, sym cp1252 ∙ c.if-eq-2.true)

pub returns : goal.returns
unfolding way_by
returns c =
    let utf8 = rw c.as_slice.ensures at c.eq.ensures ∙ same_pointwise c.args.word.now UTF8 in
    let cp1252 = rw c.as_slice-2.ensures at c.eq-2.ensures ∙ same_pointwise c.args.word.now CP1252 in
    rw (sym utf8 ∙ c.if-eq.false, sym cp1252 ∙ c.if-eq-2.false)
