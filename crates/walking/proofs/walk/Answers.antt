use Rattle.std.proofs.Common.{◌≡◌, ℕ, take, drop, refl, sym, ap, ◌∙◌, arith}
use Rattle.lists.proofs.Laid.{to_end, from_to, back_end}
use Rattle.records.specs.Walks.{front_of}
use Rattle.records.proofs.Found.{none_found, some_found}
use Rattle.records.proofs.Pieces.{no_room, no_record_law}
use Rattle.walking.specs.Walking.{walk_of, extent_for, program}
use Rattle.walking.proofs.Framings.{framed}
use Rattle.walking.proofs.Walks.{begins, turn, ends}
use Rattle.walking.proofs.walk.Goals as goal

pub loop-out-init : goal.loop-out-init
loop-out-init c =
    let a = c.args in
    (refl, begins (program a.job a.list.now) a.input.now a.out.now (walk_of a.kept a.store.now))

pub overflow_add-used : goal.overflow_add-used
unfolding program
overflow_add-used c =
    let l = c.loop-out in
    let room = c.room_for-room.ensures in
    omega (arith, c.step-stepped.ensures.fits, room, l.invariant.1.used_in_law, l.invariant.1.same_room, c.loop-out-test.true, c.well_formed.1.1.1.1.1.0.0)

pub loop-out-preserved : goal.loop-out-preserved
unfolding program front_of
loop-out-preserved c =
    let l = c.loop-out in
    let a = c.args in
    let input = a.input.now in
    let n = c.in-Some.n in
    let front = some_found _ n (sym c.in-Some.ensures.value) in
    let whole : n ≡ extent_for a.job (drop l.at input) = front.0 ∙ ap (extent_for a.job) (to_end input l.at) in
    let did = c.step-stepped.ensures in
    let roomy = rw c.room_for-room.ensures at c.loop-out-test.true in
    let lent = from_to input l.at n ∙ ap (λ (k : ℕ). take k (drop l.at input)) whole in
    let text = back_end l.out l.used _ _ l.invariant.1.used_in_law did.lines in
    (c.step-stepped.auto.store ∙ l.invariant.0, turn (program a.job a.list.now) (framed a.job a.list.now) input a.out.now _ l.store l.out l.next l.at l.used n l.invariant.1 roomy whole front.1 lent did text)

pub returns-after-loop-out-clause-walks : goal.returns-after-loop-out-clause-walks
unfolding program
returns-after-loop-out-clause-walks c =
    let l = c.loop-out in
    let full = rw c.room_for-room.ensures at c.loop-out-test.false in
    ends _ _ _ l.store l.out l.next l.at l.used l.invariant.1 (no_room _ _ _ _ (omega (arith, full, l.invariant.1.same_room)))

pub returns-in_default-clause-walks : goal.returns-in_default-clause-walks
unfolding program
returns-in_default-clause-walks c =
    let l = c.loop-out in
    let a = c.args in
    let none = none_found _ (sym c.in_default.ensures.value) in
    let whole = ap (extent_for a.job) (to_end a.input.now l.at) in
    ends _ _ _ l.store l.out l.next l.at l.used l.invariant.1 (no_record_law _ _ _ (drop l.at a.input.now) (omega (arith, none, whole)))
