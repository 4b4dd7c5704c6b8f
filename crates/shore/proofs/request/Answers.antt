-- `shore::request` meets its contract: refusals 1 and 7 in front of what is written.
use mathlib.Core.Path.{refl, sym, ◌∙◌}
use Rattle.paper.specs.declared.Refusal.TheVariants.{BadCall, WrongTime}
use Rattle.shore.specs.declared.Said.TheVariants.{Asked}
use Rattle.shore.proofs.Calls.{request_refuses, unsent, roomy, requests, second, write_refused, write_sent, gives_sent}
use Rattle.shore.proofs.request.Goals as goal

pub returns-then-bad_out : goal.returns-then-bad_out
returns-then-bad_out c =
    let a = c.args in
    let bad = sym c.bad_out.ensures ∙ c.if-bad_out.true in
    let both = unsent a.shore BadCall a.out.now _ _ (request_refuses a.shore a.version a.charges a.out.now bad) c.unsent.ensures in record { value = both.0; out_after = both.1 }

pub returns-then-shore-ne0 : goal.returns-then-shore-ne0
returns-then-shore-ne0 c =
    let a = c.args in
    let good = sym c.bad_out.ensures ∙ c.if-bad_out.false in
    let both = unsent a.shore WrongTime a.out.now _ _ (second a.shore a.version a.charges a.out.now good c.if-shore-ne0.true) c.unsent-then-shore-ne0.ensures in record { value = both.0; out_after = both.1 }

pub returns-in-Err : goal.returns-in-Err
returns-in-Err c =
    let a = c.args in
    let s = a.shore in
    let out = a.out.now in
    let good = sym c.bad_out.ensures ∙ c.if-bad_out.false in
    let by = c.write_capabilities_request.ensures in
    let both = gives_sent _ _ (requests s a.version a.charges out good c.if-shore-ne0.false)
    (write_refused s (record { table = s.table; asked = a.version }) (Asked a.version) _ _ out _ _ (roomy s out good) by.value by.out_after _ _
    c.in-Err.is c.unsent-in-Err.ensures) in record { value = both.0; out_after = both.1 }

pub returns-in-Ok : goal.returns-in-Ok
returns-in-Ok c =
    let a = c.args in
    let s = a.shore in
    let out = a.out.now in
    let good = sym c.bad_out.ensures ∙ c.if-bad_out.false in
    let by = c.write_capabilities_request.ensures in
    let both = gives_sent _ _ (requests s a.version a.charges out good c.if-shore-ne0.false)
    (write_sent s (record { table = s.table; asked = a.version }) (Asked a.version) _ _ out _ _ (roomy s out good) by.value by.out_after _ _
    c.in-Ok.is refl) in record { value = both.0; out_after = both.1 }
