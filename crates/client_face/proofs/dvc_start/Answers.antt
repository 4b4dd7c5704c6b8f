-- `client_face::dvc_start` meets its contract: the library's Start behind the test of the state's size.
use mathlib.Core.Path.{refl, sym, ap, ◌∙◌}
use Rattle.client.specs.declared.Started.{Started}
use Rattle.saved.specs.Saved.{STATE, CLIENT, saved}
use Rattle.saved.proofs.Putting.{begin_over_law}
use Rattle.client_face.specs.Face.{dvc_started}
use Rattle.std.specs.Prelude.{is_ok}
use Rattle.client_face.proofs.Calls.{begins_other, begins_refused, begins_done, store_left, started_empty}
use Rattle.client_face.proofs.dvc_start.Goals as goal

pub returns-then-state-ne-STATE : goal.returns-then-state-ne-STATE
unfolding STATE dvc_started
returns-then-state-ne-STATE c =
    let a = c.args in
    rw (begins_other CLIENT _ a.state.now a.store.now c.if-state-ne-STATE.true) (record { value = refl; state_after = refl; store_after = refl })

pub returns-in-Ok : goal.returns-in-Ok
unfolding STATE dvc_started
returns-in-Ok c =
    let a = c.args in
    let state = a.state.now in
    let store = a.store.now in
    let begun = ap (λ (x : Started). x.begun) c.start-started.ensures.value in
    let done = ap is_ok c.in-Ok.is in
    let empty = begin_over_law CLIENT state c.if-state-ne-STATE.false ∙ ap (saved CLIENT 0) (sym (started_empty store)) in
    rw (begins_done CLIENT _ state store c.start-started.result.begun c.if-state-ne-STATE.false begun done)
    (record { value = refl; state_after = c.begin.ensures ∙ empty; store_after = c.start-started.ensures.store_after })

pub returns-in-Err : goal.returns-in-Err
unfolding STATE dvc_started
returns-in-Err c =
    let a = c.args in
    let state = a.state.now in
    let store = a.store.now in
    let begun = ap (λ (x : Started). x.begun) c.start-started.ensures.value in
    let not_done = ap is_ok c.in-Err.is in
    rw (begins_refused CLIENT _ state store c.start-started.result.begun begun not_done)
    (record { value = refl; state_after = refl; store_after = c.start-started.ensures.store_after ∙ store_left store c.start-started.result.begun begun not_done })
