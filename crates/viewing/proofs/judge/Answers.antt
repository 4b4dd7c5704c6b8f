-- `viewing::judge` meets its contract: the guards are the reasons in their order.
use mathlib.Core.Path.{sym, ◌∙◌}
use borrow.Author.Tests.{eq-eqb, ne_eqb, lt-ltb, le-ltb}
use lib.ListN.{length}
use Rattle.viewing.specs.Texts.{verdict_on}
use Rattle.viewing.proofs.judge.Goals as goal

pub returns-then-line-eq0 : goal.returns-then-line-eq0
unfolding verdict_on
returns-then-line-eq0 c = rw (eq-eqb _ 0 c.if-line-eq0.true)

pub returns-then-first_zero-line : goal.returns-then-first_zero-line
unfolding verdict_on
returns-then-first_zero-line c =
    let line = c.args.line.now in
    rw (ne_eqb (length line) 0 c.if-line-eq0.false, ← c.first_zero.ensures, lt-ltb c.first_zero.result (length line) c.if-first_zero-line.true)

pub returns-then-not-has_name : goal.returns-then-not-has_name
unfolding verdict_on
returns-then-not-has_name c = rw (
  ne_eqb _ 0 c.if-line-eq0.false,
  ← c.first_zero.ensures,
  le-ltb _ _ c.if-first_zero-line.false,
  sym c.has_name.ensures ∙ c.if-not-has_name.true,
)

pub returns : goal.returns
unfolding verdict_on
returns c = rw (
  ne_eqb _ 0 c.if-line-eq0.false,
  ← c.first_zero.ensures,
  le-ltb _ _ c.if-first_zero-line.false,
  sym c.has_name.ensures ∙ c.if-not-has_name.false,
)
