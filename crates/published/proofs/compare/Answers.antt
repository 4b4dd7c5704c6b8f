-- `published::compare` meets its contract: the guards are the cases of the definition.
use Rattle.std.proofs.Common.{◌≡◌, refl, sym, ◌∙◌, arith, length}
use borrow.Author.Tests.{lt-ltb, le-ltb}
use Rattle.lists.specs.Lines.{lines_in}
use Rattle.published.specs.Comparing.{COMPARED_MAX, differences_from, compared_for, compared_in}
use Rattle.published.proofs.Files.{all_agree, some_differ, none_laid}
use Rattle.published.proofs.compare.Goals as goal

pub returns-then-out-lt-COMPARED_MAX : goal.returns-then-out-lt-COMPARED_MAX
unfolding compared_for compared_in COMPARED_MAX
returns-then-out-lt-COMPARED_MAX c =
    rw (lt-ltb (length c.args.out.now) COMPARED_MAX c.if-out-lt-COMPARED_MAX.true) (record { value = (refl, tt); out_after = refl })

pub returns-in-Some : goal.returns-in-Some
unfolding compared_for compared_in COMPARED_MAX
returns-in-Some c =
    rw (le-ltb (length c.args.out.now) COMPARED_MAX c.if-out-lt-COMPARED_MAX.false, sym c.wrong_line.ensures ∙ c.in-Some.is)
    (record { value = (refl, tt); out_after = refl })

pub lay_differences-used-requires : goal.lay_differences-used-requires
unfolding COMPARED_MAX
lay_differences-used-requires c = (sym c.wrong_line.ensures ∙ c.in_default.is, c.if-out-lt-COMPARED_MAX.false)

pub returns-then-used-ne0 : goal.returns-then-used-ne0
unfolding compared_for compared_in COMPARED_MAX
returns-then-used-ne0 c =
    let did = c.lay_differences-used.ensures in
    let text = some_differ (lines_in c.args.file.now) (λ e. omega (arith, did.value.0, e)) in
    rw (
      le-ltb (length c.args.out.now) COMPARED_MAX c.if-out-lt-COMPARED_MAX.false,
      sym c.wrong_line.ensures ∙ c.in_default.is,
      text,
      did.value.0,
    ) (record { value = (refl, omega (arith, did.value)); out_after = did.out_after })

pub returns : goal.returns
unfolding compared_for compared_in COMPARED_MAX
returns c =
    let lines = lines_in c.args.file.now in
    let did = c.lay_differences-used.ensures in
    let none : length (differences_from 0 lines) ≡ 0 = omega (arith, did.value.0) in
    let same = did.out_after ∙ none_laid c.args.out.now (differences_from 0 lines) none in
    rw (
      le-ltb (length c.args.out.now) COMPARED_MAX c.if-out-lt-COMPARED_MAX.false,
      sym c.wrong_line.ensures ∙ c.in_default.is,
      all_agree lines none,
      c.text.ensures.value,
    ) (record { value = (refl, omega arith); out_after = c.text.ensures.out_after ∙ rw same })
