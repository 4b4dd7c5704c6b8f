-- `shore_face::dvc_shore_request` meets its contract: refusals 1 and 7 in front of what is written.
use Rattle.std.specs.Prelude.{None}
use mathlib.Core.Path.{refl, sym, ap, ◌∙◌}
use mathlib.Core.Bool.{true}
use mathlib.Core.Logic.{inl}
use lib.ListN.{length}
use Rattle.paper.specs.Sizes.{PARTS}
use Rattle.paper.specs.declared.Refusal.TheVariants.{WrongTime}
use Rattle.shore.specs.declared.Said.TheVariants.{Asked, Refused}
use Rattle.shore.specs.Saying.{concern_said}
use Rattle.shore.specs.Shore.{requested}
use Rattle.shore.proofs.Calls.{roomy, requests, second, write_refused, write_sent, gives_sent}
use Rattle.saved.specs.declared.Head.{Head}
use Rattle.saved.specs.Saved.{SHORE}
use Rattle.saved.proofs.Putting.{ask_over_law, head_over}
use Rattle.packing.proofs.Own.{own_said}
use Rattle.shore_face.specs.Face.{shore_in, saved_shore, dvc_shore_requested}
use Rattle.shore_face.proofs.Calls.{is_state_law, as_told, fair_out, out_gives, out_unsent, out_bad}
use borrow.Author.Rules.{rules}
use Rattle.shore_face.proofs.dvc_shore_request.Goals as goal

pub returns-then-bad_out : goal.returns-then-bad_out
unfolding dvc_shore_requested requested
returns-then-bad_out c =
    let a = c.args in
    let both = out_bad a.state.now a.out.now _ _ (λ i. search rules) (sym c.bad_out.ensures ∙ c.if-bad_out.true) c.refused.ensures in
    record { value = both.0; state_after = both.1.0; out_after = both.1.1 }

pub returns-then-read_head-ne0 : goal.returns-then-read_head-ne0
unfolding dvc_shore_requested shore_in PARTS
returns-then-read_head-ne0 c =
    let a = c.args in
    let l = a.state.now in
    let out = a.out.now in
    let good = fair_out l (length out) (sym c.bad_out.ensures ∙ c.if-bad_out.false) in
    let asked = ap (λ (h : Head). h.asked) (c.read_head.ensures ∙ head_over SHORE true l good.0) in
    let both = out_unsent l out _ WrongTime _ (λ i. search rules) good.0
    (second (shore_in l) a.version _ out good.1 (λ e. c.if-read_head-ne0.true (asked ∙ e))) c.unsent.ensures in
    record { value = both.0; state_after = both.1.0; out_after = both.1.1 }

pub returns-in-Err : goal.returns-in-Err
unfolding dvc_shore_requested shore_in PARTS
returns-in-Err c =
    let a = c.args in
    let l = a.state.now in
    let s = shore_in l in
    let out = a.out.now in
    let good = fair_out l (length out) (sym c.bad_out.ensures ∙ c.if-bad_out.false) in
    let asked = ap (λ (h : Head). h.asked) (c.read_head.ensures ∙ head_over SHORE true l good.0) in
    let by = c.write_capabilities_request.ensures in
    let both = out_gives l out _ (record { shore = s; said = Refused _ None; sent = 0 }) _ _ _ good.0 c.unsent-in-Err.ensures
    (as_told l (λ i. search rules) (is_state_law l good.0))
    (gives_sent _ _ (requests s a.version _ out good.1 (sym asked ∙ c.if-read_head-ne0.false))
    (write_refused s (record { table = s.table; asked = a.version }) (Asked a.version) _ _ out _ _ (roomy s out good.1) by.value by.out_after _ _
    c.in-Err.is refl)) in
    record { value = both.0; state_after = both.1.0; out_after = both.1.1 }

pub returns-in-Ok : goal.returns-in-Ok
unfolding dvc_shore_requested shore_in saved_shore PARTS concern_said
returns-in-Ok c =
    let a = c.args in
    let l = a.state.now in
    let s = shore_in l in
    let out = a.out.now in
    let good = fair_out l (length out) (sym c.bad_out.ensures ∙ c.if-bad_out.false) in
    let asked = ap (λ (h : Head). h.asked) (c.read_head.ensures ∙ head_over SHORE true l good.0) in
    let by = c.write_capabilities_request.ensures in
    let both = out_gives l out _ (record { shore = record { table = s.table; asked = a.version }; said = Asked a.version; sent = _ }) _ _ _ good.0
    (c.pack_said.ensures ∙ own_said 0 (Asked a.version) (inl refl) PARTS _)
    (c.ask.ensures ∙ ask_over_law SHORE true l (λ i. search rules) good.0 a.version c.ranges.version.fits)
    (gives_sent _ _ (requests s a.version _ out good.1 (sym asked ∙ c.if-read_head-ne0.false))
    (write_sent s (record { table = s.table; asked = a.version }) (Asked a.version) _ _ out _ _ (roomy s out good.1) by.value by.out_after _ _
    c.in-Ok.is refl)) in
    record { value = both.0; state_after = both.1.0; out_after = both.1.1 }
