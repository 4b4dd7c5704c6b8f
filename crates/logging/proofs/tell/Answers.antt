-- `logging::tell` meets its contract: the bytes that the block brought stand at the room's front, and their records are those that it gave.
use mathlib.Core.Path.{◌≡◌, refl, sym, ◌∙◌}
use Rattle.std.specs.Prelude.{Err}
use Rattle.lists.specs.Bytes.{laid}
use Rattle.logging.proofs.Telling.{told_few, told_text, told_lines, told_none, told_refused}
use borrow.Author.Rules.{rules}
use native.Mathlib.Omega.{arith}
use Rattle.logging.proofs.tell.Goals as goal

pub overflow_add-next : goal.overflow_add-next
overflow_add-next c = record { fits = omega (arith, told_few _ _ _ _ _ _ (sym c.in_ok-next.was ∙ c.turn.ensures.value)) }

pub returns-in_err-next : goal.returns-in_err-next
unfolding laid
returns-in_err-next c =
    let a = c.args in
    let e = sym c.in_err-next.was ∙ c.turn.ensures.value in
    let is : c.from_residual.result ≡ Err c.in_err-next.field-0.0 = search rules in
    rw (told_none a.reader a.blocks a.number a.block.now a.room.now _ e)
    (record {
      value = is ∙ told_refused a.reader a.blocks a.number a.block.now a.room.now _ e;
      laid = search rules;
      room_after = c.turn.ensures.room_after;
      out_after = refl;
    })

pub returns : goal.returns
returns c =
    let a = c.args in
    let next = c.in_ok-next.next in
    let e = sym c.in_ok-next.was ∙ c.turn.ensures.value in
    let room = c.turn.ensures.room_after in
    let text = told_text a.reader a.blocks a.number a.block.now a.room.now next e c.min-n.result (rw room at c.min-n.ensures) in
    let said = rw (room, text) at c.say-laid.ensures in
    record {
      value = told_lines a.reader a.blocks a.number a.block.now a.room.now next e _ said.value.0;
      laid = said.value.1;
      room_after = room;
      out_after = said.out_after;
    }
