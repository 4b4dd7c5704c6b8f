-- `rules::first` meets its contract: each arm is a kind of PDU. What is read breaks none of reading's rules; what isn't, none of the steps'.
use mathlib.Core.Path.{◌≡◌, refl, sym, ◌∙◌}
use mathlib.Core.List.{List}
use Prim.Native.Nat.{ℕ}
use mathlib.Core.Bool.{true}
use Rattle.paper.specs.Rows.{fine}
use Rattle.reading.specs.Reading.{read_pdu}
use Rattle.table.specs.declared.Table.{Table}
use Rattle.reading.specs.Said.{verdict_on}
use Rattle.reading.specs.declared.Pdu.{Pdu}
use Rattle.steps.specs.Rows.{rows_of}
use Rattle.rules.specs.Rules.{names_of, beside, step_rules, the_rules, first_of}
use Rattle.rules.proofs.Rules.{read_so, once_read, not_read}
use Rattle.rules.proofs.first.Goals as goal

-- what was read and is no refusal breaks a rule of the steps, or none
was_read :
    (t : Table) (list pdu : List ℕ) (read p : Pdu) → read ≡ read_pdu true pdu → read ≡ p → verdict_on p ≡ fine
    → first_of (the_rules t list pdu) ≡ first_of (step_rules t list p)
was_read t list pdu read p r e f = once_read t list pdu p (sym r ∙ e) f

pub returns-in-Refused : goal.returns-in-Refused
returns-in-Refused c =
    let a = c.args in
    let is = sym c.read.ensures ∙ c.in-Refused.is in
    c.reading_rule.ensures (read_so a.pdu.now _ is) ∙ sym (not_read a.table a.list.now a.pdu.now _ is)

pub returns-in-CapsRequest : goal.returns-in-CapsRequest
returns-in-CapsRequest c =
    c.caps_rule.ensures _ _ _ ∙ sym (was_read c.args.table c.args.list.now c.args.pdu.now _ _ c.read.ensures c.in-CapsRequest.is refl)

pub returns-in-CreateRequest : goal.returns-in-CreateRequest
returns-in-CreateRequest c =
    c.create_rule.ensures _ _ ∙ sym (was_read c.args.table c.args.list.now c.args.pdu.now _ _ c.read.ensures c.in-CreateRequest.is refl)

pub returns-in-DataFirst : goal.returns-in-DataFirst
returns-in-DataFirst c =
    c.first_rule.ensures _ _ refl ∙ sym (was_read c.args.table c.args.list.now c.args.pdu.now _ _ c.read.ensures c.in-DataFirst.is refl)

pub returns-in-Data : goal.returns-in-Data
returns-in-Data c =
    c.data_rule.ensures _ _ refl ∙ sym (was_read c.args.table c.args.list.now c.args.pdu.now _ _ c.read.ensures c.in-Data.is refl)

pub returns-in-Close : goal.returns-in-Close
returns-in-Close c =
    c.close_rule.ensures _ _ ∙ sym (was_read c.args.table c.args.list.now c.args.pdu.now _ _ c.read.ensures c.in-Close.is refl)

pub returns-in-CreateResponse : goal.returns-in-CreateResponse
unfolding step_rules names_of rows_of beside first_of
returns-in-CreateResponse c =
    sym (was_read c.args.table c.args.list.now c.args.pdu.now _ _ c.read.ensures c.in-CreateResponse.is refl)

pub returns-in-CapsResponse : goal.returns-in-CapsResponse
unfolding step_rules names_of rows_of beside first_of
returns-in-CapsResponse c =
    sym (was_read c.args.table c.args.list.now c.args.pdu.now _ _ c.read.ensures c.in-CapsResponse.is refl)
