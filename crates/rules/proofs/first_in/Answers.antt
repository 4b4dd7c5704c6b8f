-- `rules::first_in` meets its contract: its tests are the rows', from first to last.
use mathlib.Core.Path.{◌≡◌, sym, ◌∙◌}
use mathlib.Core.Bool.{false}
use borrow.Author.Tests.{lt-ltb, le-ltb}
use Rattle.paper.specs.Sizes.{MESSAGE_MAX}
use Rattle.steps.specs.Rows.{is_spoiled, is_joining, rows_of}
use Rattle.rules.specs.Rules.{names_of, beside, step_rules, first_of}
use Rattle.rules.proofs.first_in.Goals as goal

pub returns-then-is_spoiled : goal.returns-then-is_spoiled
unfolding step_rules names_of rows_of beside first_of
returns-then-is_spoiled c t list n block e f = rw (e, ← c.is_spoiled.ensures, c.if-is_spoiled.true)

pub returns-then-is_joining : goal.returns-then-is_joining
unfolding step_rules names_of rows_of beside first_of
returns-then-is_joining c t list n block e f =
    let not_spoiled : is_spoiled c.args.stage ≡ false = sym c.is_spoiled.ensures ∙ c.if-is_spoiled.false in
    rw (e, not_spoiled, ← c.is_joining.ensures, c.if-is_joining.true)

pub returns-then-length-gt-MESSAGE_MAX : goal.returns-then-length-gt-MESSAGE_MAX
unfolding step_rules names_of rows_of beside first_of MESSAGE_MAX
returns-then-length-gt-MESSAGE_MAX c t list n block e f =
    let not_spoiled : is_spoiled c.args.stage ≡ false = sym c.is_spoiled.ensures ∙ c.if-is_spoiled.false in
    let not_joining : is_joining c.args.stage ≡ false = sym c.is_joining.ensures ∙ c.if-is_joining.false in
    rw (e, not_spoiled, not_joining, lt-ltb _ _ c.if-length-gt-MESSAGE_MAX.true)

pub returns-then-length-len : goal.returns-then-length-len
unfolding step_rules names_of rows_of beside first_of MESSAGE_MAX
returns-then-length-len c t list n block e f =
    let not_spoiled : is_spoiled c.args.stage ≡ false = sym c.is_spoiled.ensures ∙ c.if-is_spoiled.false in
    let not_joining : is_joining c.args.stage ≡ false = sym c.is_joining.ensures ∙ c.if-is_joining.false in
    rw (e, f, not_spoiled, not_joining, le-ltb _ _ c.if-length-gt-MESSAGE_MAX.false, lt-ltb _ _ c.if-length-len.true)

pub returns : goal.returns
unfolding step_rules names_of rows_of beside first_of MESSAGE_MAX
returns c t list n block e f =
    let not_spoiled : is_spoiled c.args.stage ≡ false = sym c.is_spoiled.ensures ∙ c.if-is_spoiled.false in
    let not_joining : is_joining c.args.stage ≡ false = sym c.is_joining.ensures ∙ c.if-is_joining.false in
    rw (e, f, not_spoiled, not_joining, le-ltb _ _ c.if-length-gt-MESSAGE_MAX.false, le-ltb _ _ c.if-length-len.false)
