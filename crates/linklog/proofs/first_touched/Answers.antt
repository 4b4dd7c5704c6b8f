-- `linklog::first_touched` meets its contract: a new block where the last is full, and else the last.
use mathlib.Core.Path.{◌∙◌}
use native.Mathlib.Omega.{arith}
use Rattle.linklog.proofs.Lending.{touches_new, touches_first, touches_later}
use Rattle.linklog.proofs.first_touched.Goals as goal
use Rattle.linklog.proofs.first_touched.Goals.{then-place-eq-NONE, else-place-eq-NONE}

pub returns-then-used-eq-PAYLOAD : goal.returns-then-used-eq-PAYLOAD
returns-then-used-eq-PAYLOAD c = touches_new c.args.blocks _ c.requires.0 _ (c.from-used.ensures ∙ c.used.ensures) c.if-used-eq-PAYLOAD.true

pub returns : goal.returns
returns c =
    let used = c.from-used.ensures ∙ c.used.ensures in
    let place = c.from-place.ensures ∙ c.place.ensures in
    elim c.if-place-eq-NONE.branch [
      | then-place-eq-NONE w ↦
          let told = touches_first c.args.blocks _ c.requires.0 _ used c.if-used-eq-PAYLOAD.false _ place w.if-place-eq-NONE.true in
          (told.0, (told.1.0, w.result-is ∙ told.1.1))
      | else-place-eq-NONE w ↦
          let told = touches_later c.args.blocks _ c.requires.0 _ used c.if-used-eq-PAYLOAD.false _ place w.if-place-eq-NONE.false in
          (told.0, (told.1.0, w.result-is ∙ told.1.1))
    ]

pub overflow_sub-result : goal.overflow_sub-result
overflow_sub-result c = omega (arith, c.requires.0)
