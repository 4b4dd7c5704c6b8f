-- `blocks::good` meets its contract: each test that fails makes the block bad, and where none does it rests with the unused bytes.
use mathlib.Core.Path.{◌≡◌, sym, ap, ◌∙◌}
use Rattle.blocks.specs.Block.{used_in, place_in, may_use, may_begin, is_good}
use Rattle.blocks.proofs.Judged.{bad_length, bad_number, bad_used, bad_place, bad_check}
use Rattle.blocks.proofs.good.Goals as goal

pub returns-in_default : goal.returns-in_default
returns-in_default c = sym (bad_length _ _ _ c.in_default.ensures.cases)

pub returns-then-from-number : goal.returns-then-from-number
returns-then-from-number c =
    sym (bad_number _ _ _ (λ e. c.if-from-number.true (c.from.ensures ∙ c.number.ensures ∙ e)))
    ∙ ap (is_good c.args.last c.args.number) c.in-Some.ensures.cases.same

pub returns-then-not-may_use : goal.returns-then-not-may_use
returns-then-not-may_use c =
    let unusable = sym (c.may_use.ensures ∙ ap (may_use _) (c.from-2.ensures ∙ c.used-used.ensures)) in
    sym (bad_used _ _ _ (unusable ∙ c.if-not-may_use.true)) ∙ ap (is_good c.args.last c.args.number) c.in-Some.ensures.cases.same

pub returns-then-not-may_begin : goal.returns-then-not-may_begin
returns-then-not-may_begin c =
    let block = c.in-Some.block.now in
    let unbegun : may_begin (used_in block) (place_in block) ≡ c.may_begin.result =
    rw (← c.used-used.ensures, ← c.place.ensures) (sym c.may_begin.ensures) in
    sym (bad_place _ _ _ (unbegun ∙ c.if-not-may_begin.true)) ∙ ap (is_good c.args.last c.args.number) c.in-Some.ensures.cases.same

pub returns-then-check_in-check : goal.returns-then-check_in-check
returns-then-check_in-check c =
    sym (bad_check _ _ _ (λ e. c.if-check_in-check.true (c.check_in.ensures ∙ e ∙ sym c.check.ensures)))
    ∙ ap (is_good c.args.last c.args.number) c.in-Some.ensures.cases.same
