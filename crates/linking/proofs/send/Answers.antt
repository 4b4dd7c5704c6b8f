use mathlib.Core.Path.{◌≡◌, refl, ◌∙◌}
use Prim.Native.Nat.{◌+◌, ◌-◌, ◌<◌}
use Rattle.paper.specs.Sizes.{MESSAGE_MAX}
use Rattle.lines.specs.Lines.{MESSAGE_LINE_MAX}
use Rattle.linking.specs.Linking.{with_store, CALL_MAX, STEP_MAX}
use Rattle.linking.proofs.Crossing.{over}
use Rattle.linking.proofs.Sending.{begins, stopped, none_left, goes_on_law, comes_to_end}
use native.Mathlib.Omega.{arith}
use Rattle.linking.proofs.send.Goals as goal

pub loop-init : goal.loop-init
loop-init c =
    let all : c.args.count - 0 ≡ c.args.count = omega arith in
    (refl, rw all (begins _ _ _ c.requires))

pub overflow_add-used : goal.overflow_add-used
unfolding STEP_MAX CALL_MAX MESSAGE_LINE_MAX MESSAGE_MAX
overflow_add-used c = omega (arith, c.send_one-sent.ensures.1.fits, c.loop-test.true, c.loop.invariant.1.bounded)

pub loop-preserved : goal.loop-preserved
loop-preserved c =
    let l = c.loop in
    let some : 0 < c.args.count - l.counter = omega (arith, c.loop-test.true) in
    let fewer : c.args.count - (l.counter + 1) ≡ c.args.count - l.counter - 1 = omega arith in
    let did = c.send_one-sent.ensures in
    let lines = over l.out _ _ l.used c.min-start.result c.min-start.ensures did.1.lines in
    (c.send_one-sent.auto.store ∙ l.invariant.0, rw fewer (goes_on_law _ _ _ _ _ _ _ l.out l.used (c.args.count - l.counter) l.at (with_store l.next l.store) some l.invariant.1 did.0 did.1 lines (omega (arith, c.if-message-at.false))))

pub returns-after-loop : goal.returns-after-loop
unfolding STEP_MAX CALL_MAX MESSAGE_LINE_MAX MESSAGE_MAX
returns-after-loop c =
    let l = c.loop in
    let left = c.args.count - l.counter in
    stopped _ _ _ _ left l.next l.store (rw (none_left _ _ _ _ _ l.at (with_store l.next l.store) left (omega (arith, c.loop-test.false))) at l.invariant.1)

pub returns-then-message-at : goal.returns-then-message-at
unfolding STEP_MAX CALL_MAX MESSAGE_LINE_MAX MESSAGE_MAX
returns-then-message-at c =
    let l = c.loop in
    let some : 0 < c.args.count - l.counter = omega (arith, c.loop-test.true) in
    let did = c.send_one-sent.ensures in
    let lines = over l.out _ _ l.used c.min-start.result c.min-start.ensures did.1.lines in
    comes_to_end _ _ _ _ _ _ _ l.out l.used (c.args.count - l.counter) l.at (with_store l.next l.store) some l.invariant.1 did.0 did.1 lines c.if-message-at.true
