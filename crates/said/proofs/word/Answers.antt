-- `said::word` meets its contract: each word is one of the definition's three.
use mathlib.Core.Path.{sym, ◌∙◌}
use Rattle.said.specs.Saying.{word_for}
use native.Mathlib.Omega.{arith}
use Rattle.said.proofs.word.Goals as goal

pub returns-in_default : goal.returns-in_default
unfolding word_for
returns-in_default c =
    let told = c.text.ensures in
    rw c.in_default.is (record { value = (told.value, omega (arith, told.value)); out_after = told.out_after })

pub returns-then-same : goal.returns-then-same
unfolding word_for
returns-then-same c =
    let told = c.text-then-same.ensures in
    let same = sym c.same.ensures ∙ c.if-same.true in
    rw (c.in-Ok.is, same) (record { value = (told.value, omega (arith, told.value)); out_after = told.out_after })

pub returns : goal.returns
unfolding word_for
returns c =
    let told = c.text-2.ensures in
    let same = sym c.same.ensures ∙ c.if-same.false in
    rw (c.in-Ok.is, same) (record { value = (told.value, omega (arith, told.value)); out_after = told.out_after })
