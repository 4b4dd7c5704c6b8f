use Rattle.std.proofs.Common.{◌≡◌, ◌∙◌, ◌+◌, refl, sym, ap, arith, is_some, ℕ}
use Rattle.std.specs.Prelude.{Some}
use Rattle.lists.specs.Lines.{lines_in}
use Rattle.lists.proofs.Cuts.{lines_first}
use Rattle.codepage.specs.Points.{BYTES}
use Rattle.published.specs.Comparing.{wrong_from}
use Rattle.published.proofs.Files.{empty, no_lines, missing, complete, one_more, not_such, too_many, no_some, a_some}
use Rattle.published.proofs.wrong_line.Goals as goal

pub loop-k-init : goal.loop-k-init
loop-k-init c = refl

pub returns-then-rest-eq0 : goal.returns-then-rest-eq0
returns-then-rest-eq0 c =
    let l = c.loop-k in
    sym (l.invariant ∙ rw (empty l.rest.now c.if-rest-eq0.true, no_lines) (missing l.k c.loop-k-test.true))

pub returns-then-is_none : goal.returns-then-is_none
returns-then-is_none c =
    let l = c.loop-k in
    let lines = lines_first l.rest.now (omega arith) in
    let off = ap is_some (sym c.claim_in.ensures) ∙ no_some c.claim_in.result c.is_none.result c.is_none.ensures c.if-is_none.true in
    sym (l.invariant ∙ rw (lines, ← c.first_line.ensures.line) (not_such l.k _ _ c.loop-k-test.true off))

pub loop-k-preserved : goal.loop-k-preserved
loop-k-preserved c =
    let l = c.loop-k in
    let lines = lines_first l.rest.now (omega arith) in
    let is = ap is_some (sym c.claim_in.ensures) ∙ a_some c.claim_in.result c.is_none.result c.is_none.ensures c.if-is_none.false in
    l.invariant ∙ rw (lines, ← c.first_line.ensures.line, ← c.first_line.ensures.behind) (one_more l.k _ _ c.loop-k-test.true is)

pub returns-then-rest-eq0-2 : goal.returns-then-rest-eq0-2
returns-then-rest-eq0-2 c =
    let l = c.loop-k in
    sym (l.invariant ∙ rw (empty l.rest.now c.if-rest-eq0-2.true, no_lines) (complete l.k (omega arith)))

pub returns-else-rest-eq0-2 : goal.returns-else-rest-eq0-2
returns-else-rest-eq0-2 c =
    let l = c.loop-k in
    let lines = lines_first l.rest.now (omega arith) in
    let all : l.k ≡ BYTES = omega arith in
    let over : wrong_from l.k (lines_in l.rest.now) ≡ Some (l.k + 1) = rw lines (too_many l.k _ _ (omega arith)) in
    sym (l.invariant ∙ over ∙ ap (λ (k : ℕ). Some (k + 1)) all)
