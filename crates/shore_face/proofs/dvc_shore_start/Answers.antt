-- `shore_face::dvc_shore_start` meets its contract: both are of their size, or nothing is written.
use mathlib.Core.Path.{ap}
use Rattle.saved.specs.Saved.{STATE}
use Rattle.shore.specs.declared.Started.{Started}
use Rattle.shore_face.proofs.Calls.{start_short, start_done, start_not}
use Rattle.shore_face.proofs.dvc_shore_start.Goals as goal

pub returns-then-state-ne-STATE : goal.returns-then-state-ne-STATE
unfolding STATE
returns-then-state-ne-STATE c =
    let a = c.args in
    let both = start_short a.state.now a.store.now c.if-state-ne-STATE.true in
    record { value = both.0; state_after = both.1.0; store_after = both.1.1 }

pub returns-in-Ok : goal.returns-in-Ok
unfolding STATE
returns-in-Ok c =
    let a = c.args in
    let s = c.start-begun.ensures in
    let both = start_done a.state.now a.store.now c.if-state-ne-STATE.false _ (ap (λ (x : Started). x.begun) s.value) _ s.store_after _
    c.in-Ok.is c.begin.ensures in
    record { value = both.0; state_after = both.1.0; store_after = both.1.1 }

pub returns-in-Err : goal.returns-in-Err
unfolding STATE
returns-in-Err c =
    let a = c.args in
    let s = c.start-begun.ensures in
    let both = start_not a.state.now a.store.now c.if-state-ne-STATE.false _ (ap (λ (x : Started). x.begun) s.value) _ s.store_after _ c.in-Err.is in
    record { value = both.0; state_after = both.1.0; store_after = both.1.1 }
