-- `shore_face::dvc_shore_open` meets its contract: refusals 1, 7 and 15 in front of what is written; the record is put where it was free.
use Rattle.std.specs.Prelude.{None}
use mathlib.Core.Path.{refl, sym, ap, ◌∙◌}
use mathlib.Core.Bool.{true}
use mathlib.Core.Logic.{inr}
use Prim.Native.Nat.{◌≤◌, ◌<◌}
use borrow.Author.Tests.{not-true, not-false}
use lib.ListN.{length}
use Rattle.paper.specs.Sizes.{PARTS}
use Rattle.paper.specs.declared.Refusal.TheVariants.{WrongTime, AllTaken}
use Rattle.table.specs.Table.{free_place}
use Rattle.shore.specs.declared.Said.TheVariants.{Awaited, Refused}
use Rattle.shore.specs.Saying.{concern_said}
use Rattle.shore.specs.Numbers.{least_number}
use Rattle.shore.specs.Shore.{awaiting, locally_opened}
use Rattle.shore.proofs.Calls.{roomy, open_early, open_full, opens, write_refused, write_sent, gives_sent}
use Rattle.saved.specs.declared.Head.{Head}
use Rattle.saved.specs.Saved.{SHORE, table_in, asked_in}
use Rattle.saved.proofs.Back.{saved_size, good_saved}
use Rattle.saved.proofs.Putting.{head_over}
use Rattle.packing.proofs.Own.{own_said}
use Rattle.shore_face.specs.Face.{shore_in, saved_shore, dvc_shore_opened}
use Rattle.shore_face.proofs.Calls.{is_state_law, as_told, fair_out, out_gives, out_unsent, out_bad}
use Rattle.shore_face.proofs.Least.{home_least, awaited_put}
use native.Mathlib.Omega.{arith}
use borrow.Author.Rules.{rules}
use Rattle.shore_face.proofs.dvc_shore_open.Goals as goal

pub returns-then-bad_out : goal.returns-then-bad_out
unfolding dvc_shore_opened locally_opened
returns-then-bad_out c =
    let a = c.args in
    let both = out_bad a.state.now a.out.now _ _ (λ i. search rules) (sym c.bad_out.ensures ∙ c.if-bad_out.true) c.refused.ensures in
    record { value = both.0; state_after = both.1.0; out_after = both.1.1 }

pub returns-then-not-head : goal.returns-then-not-head
unfolding dvc_shore_opened shore_in PARTS
returns-then-not-head c =
    let a = c.args in
    let l = a.state.now in
    let out = a.out.now in
    let good = fair_out l (length out) (sym c.bad_out.ensures ∙ c.if-bad_out.false) in
    let ready = ap (λ (h : Head). h.ready) (c.read_head-head.ensures ∙ head_over SHORE true l good.0) in
    let both = out_unsent l out _ WrongTime _ (λ i. search rules) good.0
    (open_early (shore_in l) a.name.now a.class out good.1 (sym ready ∙ not-true _ c.if-not-head.true)) c.unsent.ensures in
    record { value = both.0; state_after = both.1.0; out_after = both.1.1 }

pub least_number-number-requires : goal.least_number-number-requires
least_number-number-requires c =
    let a = c.args in
    let l = a.state.now in
    let good = fair_out l (length a.out.now) (sym c.bad_out.ensures ∙ c.if-bad_out.false) in
    saved_size SHORE l (good_saved SHORE true l good.0)

pub returns-then-k-ge-PARTS : goal.returns-then-k-ge-PARTS
unfolding dvc_shore_opened shore_in PARTS
returns-then-k-ge-PARTS c =
    let a = c.args in
    let l = a.state.now in
    let out = a.out.now in
    let good = fair_out l (length out) (sym c.bad_out.ensures ∙ c.if-bad_out.false) in
    let ready = ap (λ (h : Head). h.ready) (c.read_head-head.ensures ∙ head_over SHORE true l good.0) in
    let place = home_least l good.0 _ _ c.least_number-number.ensures c.find-k.ensures in
    let full : PARTS ≤ free_place (table_in l) = omega (arith, place, c.if-k-ge-PARTS.true) in
    let both = out_unsent l out _ AllTaken _ (λ i. search rules) good.0
    (open_full (shore_in l) a.name.now a.class out good.1 (sym ready ∙ not-false _ c.if-not-head.false) full) c.unsent-then-k-ge-PARTS.ensures in
    record { value = both.0; state_after = both.1.0; out_after = both.1.1 }

pub returns-in-Err : goal.returns-in-Err
unfolding dvc_shore_opened shore_in PARTS
returns-in-Err c =
    let a = c.args in
    let l = a.state.now in
    let s = shore_in l in
    let n = least_number (table_in l) in
    let out = a.out.now in
    let good = fair_out l (length out) (sym c.bad_out.ensures ∙ c.if-bad_out.false) in
    let head = c.read_head-head.ensures ∙ head_over SHORE true l good.0 in
    let ready = sym (ap (λ (h : Head). h.ready) head) ∙ not-false _ c.if-not-head.false in
    let place = home_least l good.0 _ _ c.least_number-number.ensures c.find-k.ensures in
    let free : free_place (table_in l) < PARTS = omega (arith, place, c.if-k-ge-PARTS.false) in
    let by = rw (c.class_at-sends.ensures, c.least_number-number.ensures, head) at c.write_create_request.ensures in
    let both = out_gives l out _ (record { shore = s; said = Refused _ None; sent = 0 }) _ _ _ good.0 c.unsent-in-Err.ensures
    (as_told l (λ i. search rules) (is_state_law l good.0))
    (gives_sent _ _ (opens s a.name.now a.class out good.1 ready free)
    (write_refused s (record { table = awaiting s.table n a.class; asked = s.asked }) (Awaited n) _ _ out _ _ (roomy s out good.1) by.value by.out_after _ _
    c.in-Err.is refl)) in
    record { value = both.0; state_after = both.1.0; out_after = both.1.1 }

pub returns-in-Ok : goal.returns-in-Ok
unfolding dvc_shore_opened shore_in saved_shore PARTS concern_said
returns-in-Ok c =
    let a = c.args in
    let l = a.state.now in
    let t = table_in l in
    let s = shore_in l in
    let n = least_number t in
    let out = a.out.now in
    let good = fair_out l (length out) (sym c.bad_out.ensures ∙ c.if-bad_out.false) in
    let head = c.read_head-head.ensures ∙ head_over SHORE true l good.0 in
    let least = c.least_number-number.ensures in
    let ready = sym (ap (λ (h : Head). h.ready) head) ∙ not-false _ c.if-not-head.false in
    let place = home_least l good.0 _ _ least c.find-k.ensures in
    let free : free_place t < PARTS = omega (arith, place, c.if-k-ge-PARTS.false) in
    let by = rw (c.class_at-sends.ensures, least, head) at c.write_create_request.ensures in
    let put =
    awaited_put l good.0 _ _ _ a.class _ _ _ (λ i. search rules) c.read_head-head.ensures least place free
    c.blank-row.ensures c.awaited.ensures c.put.ensures in
    let both = out_gives l out _ (record { shore = record { table = awaiting t n a.class; asked = asked_in l }; said = Awaited _; sent = _ }) _ _ _ good.0
    (c.pack_said.ensures ∙ own_said _ (Awaited _) (inr refl) PARTS _) put
    (gives_sent _ _ (opens s a.name.now a.class out good.1 ready free)
    (write_sent s (record { table = awaiting t n a.class; asked = asked_in l }) (Awaited n) _ _ out _ _ (roomy s out good.1) by.value by.out_after _ _
    c.in-Ok.is (rw least refl))) in
    record { value = both.0; state_after = both.1.0; out_after = both.1.1 }
