use mathlib.Core.Path.{◌≡◌, refl, sym, ap, ◌∙◌}
use mathlib.Core.Bool.{true}
use Prim.Native.Nat.{ℕ, ◌%◌}
use borrow.Author.Tests.{eq-eqb, ne_eqb}
use Rattle.paper.specs.Sizes.{PARTS, MESSAGE_MAX}
use Rattle.table.specs.Totals.{opens, awaits}
use Rattle.table.proofs.Recount.{opens_most}
use Rattle.saved.specs.Saved.{ROW, CHANNELS, AWAITED, record_of}
use Rattle.saved.specs.Judging.{fine_rest}
use Rattle.saved.proofs.Told.{word_not, seat_not, fine_free, fine_ready, awaits_most_rest}
use Rattle.saved.proofs.Judged.{fine_not, fine_on, fine_end, opens_turn, awaits_turn, recounts_end}
use native.Mathlib.Omega.{arith}
use Rattle.saved.proofs.good_rows.Goals as goal
use Rattle.saved.proofs.good_rows.Goals.{else-rest-eq1-via-then-rest-eq1+else-not-ready, else-rest-eq1-via-else-rest-eq1}

pub loop-i-init : goal.loop-i-init
unfolding PARTS ROW
loop-i-init c = (refl, omega arith, omega arith, omega arith, omega arith)

pub returns-then-not-good_rest : goal.returns-then-not-good_rest
unfolding PARTS ROW
returns-then-not-good_rest c =
    let a = c.args in
    let l = c.loop-i in
    let bad = sym c.good_rest.ensures ∙ c.if-not-good_rest.true in
    let here = word_not a.ready a.asks _ (rw c.word-rest.ensures at bad) in
    sym (rw (l.invariant.0 ∙ fine_not a.ready a.asks a.state.now l.i (omega arith) here))

pub returns-then-not-ready : goal.returns-then-not-ready
unfolding PARTS ROW
returns-then-not-ready c =
    let a = c.args in
    let l = c.loop-i in
    let taken = sym (ap (λ (n : ℕ). n % 2) c.word-rest.ensures) ∙ c.if-rest-eq1.true in
    let here = seat_not a.ready a.asks _ taken (c.if-not-ready.true) in
    sym (rw (l.invariant.0 ∙ fine_not a.ready a.asks a.state.now l.i (omega arith) here))

pub overflow_add-channels : goal.overflow_add-channels
unfolding PARTS
overflow_add-channels c =
    let l = c.loop-i in
    omega (arith, l.invariant.3, c.opens-channels.ensures, opens_most (record_of c.word-rest.result 0 0))

pub overflow_add-awaited : goal.overflow_add-awaited
unfolding PARTS MESSAGE_MAX
overflow_add-awaited c =
    let l = c.loop-i in
    let asks = c.args.asks in
    let good = sym c.good_rest.ensures ∙ c.if-not-good_rest.false in
    omega (arith, l.invariant.4, c.awaits-awaited.ensures, awaits_most_rest asks _ good)

pub loop-i-preserved : goal.loop-i-preserved
unfolding PARTS ROW MESSAGE_MAX
loop-i-preserved c =
    let a = c.args in
    let l = c.loop-i in
    let rest = c.word-rest.result in
    let told = c.word-rest.ensures in
    let good = sym c.good_rest.ensures ∙ c.if-not-good_rest.false in
    let fine : fine_rest a.ready a.asks rest ≡ true =
    elim c.else-rest-eq1.branch [
      | else-rest-eq1-via-then-rest-eq1+else-not-ready w ↦ fine_ready a.ready a.asks rest good w.if-not-ready.false
      | else-rest-eq1-via-else-rest-eq1 w ↦ fine_free a.ready a.asks rest good w.if-rest-eq1.false
    ] in
    let opened = ap (λ (n : ℕ). opens (record_of n 0 0)) told in
    let waits = ap (λ (n : ℕ). awaits (record_of n 0 0)) told in (
      l.invariant.0 ∙ fine_on a.ready a.asks a.state.now l.i (omega arith) (rw told at fine),
      omega (arith, l.invariant.1, opens_turn a.state.now l.i (omega arith), c.opens-channels.ensures, opened),
      omega (arith, l.invariant.2, awaits_turn a.state.now l.i (omega arith), c.awaits-awaited.ensures, waits),
      omega (arith, l.invariant.3, c.opens-channels.ensures, opens_most (record_of rest 0 0)),
      omega (arith, l.invariant.4, c.awaits-awaited.ensures, awaits_most_rest a.asks rest good),
    )

pub returns-then-channels-word : goal.returns-then-channels-word
unfolding PARTS CHANNELS AWAITED
returns-then-channels-word c =
    let l = c.loop-i in
    let a = c.args in
    let all = l.invariant.0 ∙ fine_end a.ready a.asks a.state.now l.i (omega arith) in
    let sums = recounts_end a.state.now l.channels l.awaited l.i (omega arith) l.invariant.1 l.invariant.2 in
    let same = eq-eqb l.channels c.word.result c.if-channels-word.true in
    sym (rw (all, sums, ← c.word.ensures, ← c.word-then-channels-word.ensures, same))

pub returns-else-channels-word : goal.returns-else-channels-word
unfolding PARTS CHANNELS AWAITED
returns-else-channels-word c =
    let l = c.loop-i in
    let a = c.args in
    let all = l.invariant.0 ∙ fine_end a.ready a.asks a.state.now l.i (omega arith) in
    let sums = recounts_end a.state.now l.channels l.awaited l.i (omega arith) l.invariant.1 l.invariant.2 in
    let other = ne_eqb l.channels c.word.result c.if-channels-word.false in
    sym (rw (all, sums, ← c.word.ensures, other))
