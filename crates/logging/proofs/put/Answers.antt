-- `logging::put` meets its contract: the answer's two cases are the definition's.
use mathlib.Core.Path.{refl, sym, ap, ◌∙◌}
use mathlib.Core.List.{[]}
use Rattle.lists.specs.Bytes.{laid}
use Rattle.linklog.specs.Records.{entry_in}
use Rattle.logging.specs.Writing.{run_of}
use Rattle.logging.proofs.Steps.{is_put, is_refused_law}
use Rattle.logging.proofs.put.Goals as goal
use Rattle.std.specs.Prelude.{None}

pub returns-in-Ok : goal.returns-in-Ok
returns-in-Ok c =
    let a = c.args in
    let out = c.full-n.ensures in
    let run = run_of (record { log = a.log; why = None }) a.room.now [] in
    rw (is_put run (entry_in a.bytes.now) _ c.append.ensures.room_after _ (sym c.in-Ok.is ∙ c.append.ensures.value))
    (record { course_value = (refl, out.1.0); room_after = refl; out_after = c.copy_at.ensures ∙ ap (laid a.out.now a.at) out.1.1 })

pub returns-in-Err : goal.returns-in-Err
unfolding laid
returns-in-Err c =
    let a = c.args in
    let run = run_of (record { log = a.log; why = None }) a.room.now [] in
    rw (is_refused_law run (entry_in a.bytes.now) _ c.append.ensures.room_after _ (sym c.in-Err.is ∙ c.append.ensures.value))
    (record { course_value = (refl, refl); room_after = refl; out_after = refl })
