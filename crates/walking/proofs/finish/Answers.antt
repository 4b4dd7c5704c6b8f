-- `walking::finish` meets its contract: the three ends are told apart by the room and by what is left.
use Rattle.std.proofs.Common.{arith}
use Rattle.walking.proofs.Turns.{end_waits, end_whole, end_cut, line_fits}
use Rattle.walking.proofs.finish.Goals as goal

pub returns-then-out-room_for : goal.returns-then-out-room_for
returns-then-out-room_for c =
    let full = rw c.room_for.ensures at c.if-out-room_for.true in
    record { by_index = (λ list store. end_waits _ list _ store _ _ full); within = (omega arith, omega arith) }

pub returns-then-had-gt0 : goal.returns-then-had-gt0
returns-then-had-gt0 c =
    let did = c.cut_for-laid.ensures in
    let a = c.args in
    let roomy = rw c.room_for.ensures at c.if-out-room_for.false in
    record { by_index = (λ list store. end_cut a.job list a.kept store a.input.now a.out.now roomy c.if-had-gt0.true did.value.0 did.out_after); within = (omega arith, omega (arith, did.value.1, line_fits a.job, roomy)) }

pub returns : goal.returns
returns c =
    let roomy = rw c.room_for.ensures at c.if-out-room_for.false in
    record { by_index = (λ list store. end_whole _ list _ store _ _ roomy (omega arith)); within = (omega arith, omega arith) }
