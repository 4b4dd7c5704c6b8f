-- `logging::step` meets its contract: behind a refusal nothing is done.
use mathlib.Core.Path.{refl, sym, ◌∙◌}
use mathlib.Core.List.{[]}
use Rattle.lists.specs.Bytes.{laid}
use Rattle.linklog.specs.Records.{entry_in}
use Rattle.logging.specs.Writing.{run_of}
use Rattle.logging.proofs.Steps.{stays, goes, no_why}
use Rattle.logging.proofs.step.Goals as goal

pub returns-then-is_over : goal.returns-then-is_over
unfolding laid
returns-then-is_over c =
    let a = c.args in
    let over = sym c.is_over.ensures ∙ c.if-is_over.true in
    rw (stays (run_of a.course a.room.now []) (entry_in a.bytes.now) over) (record { course_value = (refl, refl); room_after = refl; out_after = refl })

pub returns : goal.returns
returns c =
    let a = c.args in
    let on = sym c.is_over.ensures ∙ c.if-is_over.false in
    rw (goes (run_of a.course a.room.now []) (entry_in a.bytes.now) on, no_why a.course on) c.put.ensures
