use mathlib.Core.Path.{refl, sym, ◌∙◌}
use Prim.Native.Nat.{◌-◌, ◌/◌, ◌%◌}
use borrow.Author.Tests.{eqb-true, leb-true}
use lib.ListN.{length-set}
use Rattle.paper.specs.Sizes.{PARTS, MESSAGE_MAX}
use Rattle.saved.specs.Saved.{ROW, CHANNELS, AWAITED}
use Rattle.saved.proofs.Passing.{adds_awaited, adds_open, adds_joining, sofar_none, sofar_free, sofar_taken, sofar_all}
use borrow.Author.Rules.{rules}
use native.Mathlib.Omega.{arith}
use Rattle.saved.proofs.plain.Goals as goal

pub loop-i-init : goal.loop-i-init
unfolding PARTS
loop-i-init c = let a = c.args in (refl, sofar_none a.ready a.asks a.state.now _ 16 refl)

pub overflow_add-channels : goal.overflow_add-channels
unfolding PARTS
overflow_add-channels c = search rules

pub overflow_add-awaited : goal.overflow_add-awaited
unfolding PARTS
overflow_add-awaited c = search rules

-- an awaited number's
pub loop-i-preserved-then-rest-ge-MARK : goal.loop-i-preserved-then-rest-ge-MARK
unfolding ROW
loop-i-preserved-then-rest-ge-MARK c =
    let l = c.loop-i in
    let a = c.args in
    let rest = c.word-rest.result in
    let ready = c.if-not-ready.false in (
      simp length-set l.invariant.0,
      sofar_taken a.ready a.asks a.state.now l.marks l.channels l.awaited l.i (omega arith) l.invariant.1 rest c.word.result 0 0 _ _
          c.word-rest.ensures c.word.ensures l.invariant.0 (omega arith) c.if-marks-mark.false
          (adds_awaited a.ready a.asks rest ready c.if-asks.true (omega arith) (omega (arith, leb-true)) (omega arith)) (omega arith) (omega arith),
    )

-- an open channel's with a message
pub loop-i-preserved-then-rest-ge16 : goal.loop-i-preserved-then-rest-ge16
unfolding MESSAGE_MAX ROW
loop-i-preserved-then-rest-ge16 c =
    let l = c.loop-i in
    let a = c.args in
    let rest = c.word-rest.result in
    let ready = c.if-not-ready.false in (
      simp length-set l.invariant.0,
      sofar_taken a.ready a.asks a.state.now l.marks l.channels l.awaited l.i (omega arith) l.invariant.1 rest c.word.result 1 (rest / 32768 - rest / 8 % 4096) _ _
          c.word-rest.ensures c.word.ensures l.invariant.0 (omega arith) c.if-marks-mark.false
          (adds_joining a.ready a.asks rest ready (omega arith) (omega arith) (omega arith)) (omega arith) (omega arith),
    )

-- and with none
pub loop-i-preserved-else-rest-ge16 : goal.loop-i-preserved-else-rest-ge16
unfolding ROW
loop-i-preserved-else-rest-ge16 c =
    let l = c.loop-i in
    let a = c.args in
    let rest = c.word-rest.result in
    let ready = c.if-not-ready.false in (
      simp length-set l.invariant.0,
      sofar_taken a.ready a.asks a.state.now l.marks l.channels l.awaited l.i (omega arith) l.invariant.1 rest c.word.result 1 0 _ _
          c.word-rest.ensures c.word.ensures l.invariant.0 (omega arith) c.if-marks-mark.false
          (adds_open a.ready a.asks rest ready (omega arith) (omega arith)) (omega arith) (omega arith),
    )

-- a free record's
pub loop-i-preserved : goal.loop-i-preserved
unfolding ROW
loop-i-preserved c =
    let l = c.loop-i in
    let a = c.args in
    let none = sym c.word-rest.ensures ∙ c.if-rest-ne0.false in
    (l.invariant.0, sofar_free a.ready a.asks a.state.now l.marks l.channels l.awaited l.i (omega arith) l.invariant.1 none)

-- ---- the totals
pub returns-then-channels-word : goal.returns-then-channels-word
unfolding CHANNELS AWAITED PARTS
returns-then-channels-word c =
    let l = c.loop-i in
    let a = c.args in
    let channels = c.if-channels-word.true ∙ c.word-2.ensures in
    λ e.
    sofar_all a.ready a.asks a.state.now l.marks l.channels l.awaited l.i (omega arith) l.invariant.1 channels
    (eqb-true _ _ e ∙ c.word-then-channels-word.ensures)

pub returns-else-channels-word : goal.returns-else-channels-word
returns-else-channels-word c = λ e. absurd (c.if-channels-word.false (eqb-true _ _ e))
